-- Readings are added after those before.
use Rattle.ud_model.proofs.text.ScanLaws.{readings_grow}
use Rattle.ud_model.proofs.laws.law_scans_stay.Goals as goal

pub returns : goal.returns
returns c = readings_grow
