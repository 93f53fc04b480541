-- NextLemmas: what a scanner and a list of lines have of the item that comes next.
use Rattle.std.proofs.Common.{◌≡◌, List, [], ◌∷◌, ◌++◌, map, ◌∙◌, ap, rules}
use Rattle.std.proofs.lemmas.List.{map-append}
use Rattle.ud_model.specs.text.Lines.{Line}
use Rattle.ud_model.specs.text.Scans.{Reading}
use Rattle.ud_model.specs.text.Scanning.{next_reading}
use Rattle.ud_model.specs.sections.Tree.{Item, Tree}
use Rattle.ud_model.specs.sections.Items.{Options, reading_of, line_of, mode_after, next_item}
use Rattle.ud_model.proofs.sections.Soundness.{reading_of-item_of}
use Rattle.ud_model.proofs.sections.FaultStays.{line_of-next_item}

-- there is one more reading
pub readings_more : (o : Options) (xs : List (Item Reading)) (t : Tree Reading) (l : Line) →
    map reading_of (xs ++ next_item o xs t l ∷ []) ≡ map reading_of xs ++ next_reading (map reading_of xs) (mode_after o t) l ∷ []
readings_more o xs t l = search (rules, map-append, reading_of-item_of)

-- there is one more line
pub lines_more : (o : Options) (xs : List (Item Reading)) (t : Tree Reading) (l : Line) →
    map line_of (xs ++ next_item o xs t l ∷ []) ≡ map line_of xs ++ l ∷ []
lines_more o xs t l = map-append line_of xs (next_item o xs t l ∷ []) ∙ ap (λ k. map line_of xs ++ k ∷ []) (line_of-next_item o xs t l)
