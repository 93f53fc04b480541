-- Simplified conditions: an edited line has the operands that are left of its condition.
use Rattle.std.proofs.Common.{◌≡◌, List, [], map, false, refl, sym, ◌∙◌, ap, ◌⊎◌, inl, inr, arith}
use Rattle.std.proofs.lemmas.Bool.{or_parts}
use Rattle.ud_model.specs.text.Scans.{Scan, Reading}
use Rattle.ud_model.specs.text.Lexemes.{Cell, shown}
use Rattle.ud_model.specs.text.Scanning.{scan_after_run, scan_after}
use Rattle.ud_model.specs.sections.Directives.{Content, directive, Directive, content_of, test_of}
use Rattle.ud_model.specs.conditions.Table.{Argument}
use Rattle.ud_model.specs.conditions.Conditions.{Rules}
use Rattle.ud_simplified.specs.ResidualTexts.{simplified_cells}
use Rattle.ud_model.specs.laws.WrittenConditions.{condition_with, condition_on, no_condition}
use Rattle.ud_laws.specs.output.DecidedByNumbers.{if_condition}
use Rattle.ud_model.specs.declared.kind.Test.TheVariants.{Nonzero, Nothing}
use Rattle.ud_simplified.specs.SimplifiedTexts.{condition_cells, is_closing, left_line}
use Rattle.ud_model.specs.declared.kind.Kind.{Kind}
use Rattle.ud_model.specs.declared.kind.Mode.TheVariants.{C}
use Rattle.ud_simplified.proofs.SimplifiedLines.{SameKind, both_if, both_elif, IsEdited, after_is}
use Rattle.ud_simplified.proofs.SimplifiedLines.{after_left}

module _ (table : List Argument) (rules : Rules) where
  -- `k` has the condition of the line `l`, or the rest of it.
  pub data LineSimplified (l k : Reading) : Type 0 where
    condition_stays : condition_on k ≡ condition_on l → LineSimplified l k
    operands_go : (cells : List Cell) → condition_on l ≡ if_condition cells → condition_on k ≡ if_condition (simplified_cells table rules cells) → LineSimplified l k

  condition_is : (scan : Scan) (c : Content) (d : Directive) → c ≡ directive d → test_of d.kind ≡ Nonzero → scan.joins_after ≡ false → (cells : List Cell) → d.after ≡ map shown cells →
      condition_with scan c ≡ if_condition cells
  condition_is scan c d e t h cells f = grind (arith, e, t, h, f)

  no_condition_is : (scan : Scan) (c : Content) (d : Directive) → c ≡ directive d → test_of d.kind ≡ Nothing → condition_with scan c ≡ no_condition
  no_condition_is scan c d e t = grind (arith, e, t)

  -- Both have a condition, or neither.
  values_alike : (j k : Kind) → SameKind j k → ((test_of j ≡ Nonzero) × (test_of k ≡ Nonzero) × (is_closing j ≡ false)) ⊎ ((test_of j ≡ Nothing) × (test_of k ≡ Nothing))
  values_alike j k both_if = inl (refl, refl, refl)
  values_alike j k both_elif = inl (refl, refl, refl)
  values_alike j k _ = inr (refl, refl)

  -- The edited line has the rest of the condition.
  pub line_simplified : (l k : Reading) (d : Directive) → IsEdited table rules l.line l.scan d → l.scan ≡ scan_after [] C l.line →
      k.scan ≡ scan_after_run [] (left_line table rules l.line d) → LineSimplified l k
  line_simplified l k d i e f = by (values_alike d.kind i.now.kind i.kind)
    where
      now_is : content_of k.scan ≡ directive i.now
      now_is = ap content_of f ∙ i.has_now

      by : ((test_of d.kind ≡ Nonzero) × (test_of i.now.kind ≡ Nonzero) × (is_closing d.kind ≡ false)) ⊎ ((test_of d.kind ≡ Nothing) × (test_of i.now.kind ≡ Nothing)) → LineSimplified l k
      by (inl t) = operands_go (condition_cells l.line d)
          (condition_is l.scan (content_of l.scan) d i.has t.0 (or_parts l.scan.joins_before l.scan.joins_after i.lone).1 (condition_cells l.line d) (sym (after_is table rules l.line l.scan d e i.has)))
          (condition_is k.scan (content_of k.scan) i.now now_is t.1 (ap (λ (s : Scan). s.joins_after) f ∙ i.alone) (simplified_cells table rules (condition_cells l.line d)) (after_left table rules l.line l.scan d i t.2))
      by (inr t) = condition_stays (no_condition_is k.scan (content_of k.scan) i.now now_is t.1 ∙ sym (no_condition_is l.scan (content_of l.scan) d i.has t.0))
