use Rattle.std.proofs.Common.{◌≡◌, ◌++◌, bytes_eq, drop}
use Rattle.std.specs.List.{flat_map}
use Rattle.ud_model.specs.text.Lines.{text_of}
use Rattle.ud_model.specs.aids.LineViews.{as_line}
use Rattle.ud_sections.proofs.printing.pieces.equals_line.Given as goal

abbrev pub invariant-loop-part : goal.invariant-loop-part
invariant-loop-part l = record {
  same : bytes_eq (flat_map (λ p. p.now) l.parts) (text_of (as_line l.line))
      ≡ bytes_eq (flat_map (λ p. p.now) (drop l.part-index l.parts)) (l.body ++ l.ending);
}
