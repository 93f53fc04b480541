-- A line more.
use Rattle.std.proofs.Common.{◌≡◌, ◌<◌, ◌+◌, ℕ, List, [], ◌∷◌, ◌++◌, map, length, take, take-append-drop, length-append, append_assoc, refl, sym, ◌∙◌, ap, ap₂, arith, rules}
use Rattle.std.proofs.lemmas.List.{map-append, map_push}
use Rattle.ud_model.specs.text.Lines.{Line, text_of, line_at, lines_of, texts_of, numbered_from, split_lines}
use Rattle.ud_model.specs.aids.LineViews.{as_line}
use Rattle.ud_passes.specs.names.NameTables.{body_of, names_in}
use Rattle.ud_model.specs.declared.kind.Mode.TheVariants.{C}
use Rattle.ud_text.proofs.lemmas.scan.LongerTextLemmas.{after, all_lines, still_whole, one_text, whole_if_more, nothing_ends, some_left}
use Rattle.ud_passes.proofs.names.tables.names_in.Goals as goal

pub loop-rest-init : goal.loop-rest-init
unfolding split_lines
loop-rest-init c = ([], refl, (λ some. nothing_ends), search rules)

pub loop-rest-preserved : goal.loop-rest-preserved
loop-rest-preserved c = let rest : List ℕ = c.loop-rest.rest.now in
    let i = c.loop-rest.invariant in
    let some : 0 < length rest = some_left rest (sym c.is_empty.ensures ∙ c.loop-rest-test.true) in
    let k : Line = as_line c.line_in-line.result in
    let n : length (text_of k) ≡ length k.body + length k.ending = length-append k.body k.ending in
    let to = c.line_in-line.ensures.bytes in
    let p : List ℕ = take (length (text_of k)) rest in
    let one : texts_of p ≡ p ∷ [] = one_text rest (length (text_of k)) to.0 to.1 some in
    let ends = i.2 some in
    let lines : names_in (i.0 ++ p) ≡ names_in i.0 ++ k.body ∷ [] =
    ap (λ (ls : List Line). map body_of ls) (all_lines C i.0 p ends ∙ ap (λ (ts : List (List ℕ)). lines_of i.0 ++ numbered_from (after C i.0 p ends) ts) one)
    ∙ map-append body_of (lines_of i.0) (line_at (after C i.0 p ends) p ∷ [])
    ∙ ap (λ (b : List ℕ). names_in i.0 ++ b ∷ []) (sym (ap body_of c.line_in-line.ensures.value)) in
    let same : take (length k.body + length k.ending) rest ≡ p = ap (λ (m : ℕ). take m rest) (sym n) in
    let back = c.split_at.ensures.back in
    let len = c.split_at.ensures.back_len in (
      i.0 ++ p,
      append_assoc i.0 p c.split_at.result.1.now ∙ ap (λ (x : List ℕ). i.0 ++ x) (ap₂ (λ (x y : List ℕ). x ++ y) (sym same) back ∙ take-append-drop (length k.body + length k.ending) rest) ∙ i.1,
      (λ more. still_whole C i.0 p ends (whole_if_more rest (length (text_of k)) to.0 to.1 some (omega (arith, n, len, more)))),
      ap (λ (x : List _). map (λ m. m.now) x) c.in_ok-push.ensures.items ∙ map_push (λ m. m.now) _ _ ∙ ap (λ (x : List (List ℕ)). x ++ k.body ∷ []) i.3 ∙ sym lines,
    )
