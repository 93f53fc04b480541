-- Scripts: lemmas on lines with their signs, and on scripts that are extended.
use Rattle.std.proofs.Common.{◌≡◌, ℕ, Bool, List, [], ◌++◌, map, ap, filter, arith}
use Rattle.std.proofs.lemmas.List.{map-append}
use Rattle.std.proofs.lemmas.List.Elements.{filter-append}
use Rattle.std.proofs.lemmas.Grind.{common_steps}
use Rattle.ud_model.specs.text.Lines.{split_lines, texts_of}
use Rattle.ud_passes.specs.declared.diff.line.Sign.{Sign}
use Rattle.ud_passes.specs.declared.diff.line.DiffLine.{DiffLine}
use Rattle.ud_passes.specs.declared.diff.script.Script.{Script}
use Rattle.ud_passes.specs.diff.Hunks.{SignedLine}
use Rattle.ud_passes.specs.diff.Scripts.{signed_lines, Extends, IsScript}

-- `side is_in ls`: the lines of one text, whose signs pass its test, `is_old` or `is_new`.
abbrev pub side : (Sign → Bool) → List SignedLine → List (List ℕ)
side is_in ls = map (λ (l : SignedLine). l.bytes) (filter (λ (l : SignedLine). is_in l.sign) ls)

-- The lines of one text among two lists joined.
pub side-append : (is_in : Sign → Bool) (xs ys : List DiffLine) →
    side is_in (signed_lines (xs ++ ys)) ≡ side is_in (signed_lines xs) ++ side is_in (signed_lines ys)
side-append is_in xs ys = grind (arith, map-append, filter-append)

-- An empty text has no lines.
texts_of-nil : (t : List ℕ) → t ≡ [] → texts_of t ≡ []
unfolding split_lines
texts_of-nil t e = ap texts_of e

-- A script that began with no lines and has come to the end of both texts has all their lines.
pub script_whole : (s t : Script) → s.lines.items ≡ [] → Extends s t → t.old_rest.now ≡ [] → t.new_rest.now ≡ [] →
    IsScript s.old_rest.now s.new_rest.now (signed_lines t.lines.items)
script_whole s t none h old new = grind (arith, common_steps, texts_of-nil)
