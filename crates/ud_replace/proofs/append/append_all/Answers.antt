use Rattle.std.proofs.lemmas.Grind.{common_steps}
use Rattle.std.proofs.Common.{◌≡◌, rules, arith}
use Rattle.ud_replace.specs.Filling.{all, stopped}
use Rattle.ud_replace.proofs.TakesLemmas.{takes_none, takes_more, empty_of}
use Rattle.ud_replace.proofs.append.append_all.Goals as goal

pub loop-rest-init : goal.loop-rest-init
loop-rest-init g c = takes_none c.args.name.now (g.F.Directory.history c.args.directory.now) c.args.bytes.now

pub loop-rest-preserved : goal.loop-rest-preserved
loop-rest-preserved g c =
    takes_more c.args.name.now (g.F.Directory.history c.args.directory.now) (g.F.Directory.history c.loop-rest.directory) (g.F.Directory.history c.append.new.self) c.args.bytes.now c.loop-rest.rest.now
    c.in-Some.count c.loop-rest.invariant c.in-Some.ensures.count c.in-Some.ensures.noted

pub returns-in-None : goal.returns-in-None
returns-in-None g c = let t = c.loop-rest.invariant in stopped t.taken c.loop-rest.rest.now _ _ t.joined t.took tt c.in-None.ensures.noted

pub returns-in-Some-eq0 : goal.returns-in-Some-eq0
returns-in-Some-eq0 g c = let t = c.loop-rest.invariant in
    let zero : c.in-Some-eq0.field-0 ≡ 0 = search rules in
    stopped t.taken c.loop-rest.rest.now _ _ t.joined t.took zero c.in-Some-eq0.ensures.noted

pub returns : goal.returns
returns g c = let none = empty_of c.loop-rest.rest.now c.loop-rest-test.ensures in
    all (grind (arith, common_steps, c.loop-rest.invariant, none))
