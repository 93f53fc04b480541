use Rattle.ud_tree.specs.Meeting.{failed}
use Rattle.ud_tree.proofs.MeetingLemmas.{knows_by_look}
use Rattle.ud_tree.proofs.disk.directories.leads_to.Goals as goal

pub returns-in-Ok : goal.returns-in-Ok
returns-in-Ok g c = knows_by_look g.S.Looks.looking c.args.file.now c.args.path.now c.in-Ok.found c.in_ok-shown.shown c.is_same.result c.is_same.ensures c.requires c.in-Ok.ensures.found c.in_ok-shown.ensures

pub returns-in-Err : goal.returns-in-Err
returns-in-Err g c = failed c.args.file.now c.args.path.now c.requires c.in-Err.ensures.failed
