-- The parts that a line of the output has from the line from which it comes: its bytes, the condition
-- of its directive, and how it is read if it is text.
use Rattle.std.proofs.Common.{◌≡◌, ℕ, List, [], ◌∷◌, map, Bool, Option, Some, None, refl, ap, ap₂}
use Rattle.ud_model.specs.text.Scans.{Scan, Reading}
use Rattle.ud_model.specs.sections.Directives.{Content, directive, content_of}
use Rattle.ud_model.specs.conditions.Expressions.{Expression}
use Rattle.ud_model.specs.sections.Tree.{Nodes, Groups, Elifs, nothing, text, section, conditional, otherwise, first, elif, opener_with_line, with_lines, groups_with_lines, elifs_with_lines}
use Rattle.ud_model.specs.laws.Pruned.{Edited}
use Rattle.ud_model.specs.laws.Rereading.{line_bytes, edited_bytes}
use Rattle.ud_model.specs.laws.WrittenConditions.{condition_in, Condition, no_condition, condition_on}
use Rattle.ud_model.specs.declared.verdict.Verdict.{Verdict}
use Rattle.ud_model.specs.declared.verdict.Verdict.TheVariants.{Keep, ToIf}

-- The scan of a line with this content, if it is text.
abbrev pub text_scan_by : Scan → Content → Option Scan
text_scan_by scan (directive d) = None
text_scan_by scan _ = Some scan

-- The scan of a line that is text.
abbrev pub text_scan : Reading → Option Scan
text_scan r = text_scan_by r.scan (content_of r.scan)

-- The bytes of a line, the condition of its directive, as an expression and as it is written, and
-- its scan if it is text.
pub record Seen : Type 0 where
  pub bytes : List ℕ
  pub condition : Option Expression
  pub written : Condition
  pub text : Option Scan

-- The case of a line that was read.
abbrev pub scanned : Reading → Seen
scanned r = record { bytes = line_bytes r; condition = condition_in r; written = condition_on r; text = text_scan r }

-- An `#else` and an `#endif` have no condition.
abbrev pub left_condition : Verdict → Reading → Option Expression
left_condition Keep r = condition_in r
left_condition ToIf r = condition_in r
left_condition _ _ = None

abbrev pub left_written : Verdict → Reading → Condition
left_written Keep r = condition_on r
left_written ToIf r = condition_on r
left_written _ _ = no_condition

-- The scan of a line of the output, if it is text. An edited line is none.
abbrev pub left_text : Verdict → Reading → Option Scan
left_text Keep r = text_scan r
left_text _ _ = None

-- The case of a line of the pruned tree.
abbrev pub left_seen : Bool → Edited Reading → Seen
left_seen u e = record {
  bytes = edited_bytes u e;
  condition = left_condition e.verdict e.line;
  written = left_written e.verdict e.line;
  text = left_text e.verdict e.line;
}

module _ {A B C : Type 0} (f : A → B) (g : B → C) where
  mutual
    -- Lines that are changed twice.
    pub with_lines-twice : (ns : Nodes A) → with_lines g (with_lines f ns) ≡ with_lines (λ a. g (f a)) ns
    with_lines-twice nothing = refl
    with_lines-twice (text ns l) = ap (λ (m : Nodes C). text m (g (f l))) (with_lines-twice ns)
    with_lines-twice (section ns gs e) = ap₂ (λ (m : Nodes C) (h : Groups C). section m h (g (f e))) (with_lines-twice ns) (groups_twice gs)

    groups_twice : (gs : Groups A) → groups_with_lines g (groups_with_lines f gs) ≡ groups_with_lines (λ a. g (f a)) gs
    groups_twice (conditional es) = ap (λ (d : Elifs C). conditional d) (elifs_twice es)
    groups_twice (otherwise es l ns) = ap₂ (λ (d : Elifs C) (m : Nodes C). otherwise d (g (f l)) m) (elifs_twice es) (with_lines-twice ns)

    elifs_twice : (es : Elifs A) → elifs_with_lines g (elifs_with_lines f es) ≡ elifs_with_lines (λ a. g (f a)) es
    elifs_twice (first o ns) = ap (λ (m : Nodes C). first (opener_with_line (λ a. g (f a)) o) m) (with_lines-twice ns)
    elifs_twice (elif es o ns) = ap₂ (λ (d : Elifs C) (m : Nodes C). elif d (opener_with_line (λ a. g (f a)) o) m) (elifs_twice es) (with_lines-twice ns)

  pub map-twice : (xs : List A) → map g (map f xs) ≡ map (λ a. g (f a)) xs
  map-twice [] = refl
  map-twice (x ∷ xs) = ap (λ (ys : List C). g (f x) ∷ ys) (map-twice xs)
