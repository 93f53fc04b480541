use Rattle.std.proofs.Common.{map, ◌∙◌}
use Rattle.ud_model.specs.sections.Items.{reading_of}
use Rattle.ud_text.proofs.lemmas.scan.ScannerLemmas.{ends_in_comment-readings}
use Rattle.ud_engine.proofs.line_decider.LineDecider.finish.Goals as goal

pub returns : goal.returns
returns c = λ o xs t h.
    c.finish.ensures.value o xs t h.read h.no_fault (c.in_comment.ensures (map reading_of xs) h.carries ∙ ends_in_comment-readings xs)
