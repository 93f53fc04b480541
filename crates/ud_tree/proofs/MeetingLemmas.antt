-- MeetingLemmas: what stays if a directory is met for the first time.
use Rattle.std.proofs.Common.{◌≡◌, ℕ, List, Bool, true, false, Option, IsNone, is_some, refl, ap, sym, ◌∙◌, subst, cond, string_bytes, nat_cmp}
use Rattle.std.specs.Cmp.Lexicographic.{slice_cmp}
use Rattle.std.specs.Str.{bytes_eq}
use Rattle.std.specs.BTreeMap as tree
use Rattle.std.specs.BTreeMap.{BTreeMap, get_by_text}
use Rattle.std.specs.String.{string_cmp}
use Rattle.std.specs.declared.string.String.{String}
use Rattle.std.proofs.lemmas.Slice.Eq.{bytes_eq-Decides}
use Rattle.std.proofs.lemmas.Map.Text.{btree_map_updates_text}
use Rattle.ud_replace.specs.declared.node.FileId.{FileId}
use Rattle.ud_tree.specs.declared.disk.facts.Facts.{Facts}
use Rattle.ud_tree.specs.Evidence.{Looking, is_same}
use Rattle.ud_tree.specs.Meeting.{KeepsMet, KnowsProc, found as found_at, differs}

unless_true : (b : Bool) → ¬ (b ≡ true) → b ≡ false
unless_true true not_true = absurd (not_true refl)
unless_true false not_true = refl

-- Other directories keep what was met there.
pub keeps_first : {Y : Type 0} (bs : List ℕ) (m n : BTreeMap (String Y) FileId) (w : Option FileId) → IsNone (get_by_text m bs) → tree.UpdatesBy string_cmp (λ k. slice_cmp nat_cmp bs (string_bytes k)) m n w → KeepsMet m n
keeps_first bs m n w none u directory some =
    let apart : ¬ (bs ≡ directory) = λ same. let absent : is_some (get_by_text m directory) ≡ false = subst (λ f. is_some (get_by_text m f) ≡ false) same none in cc in
    let other : bytes_eq bs directory ≡ false = unless_true (bytes_eq bs directory) (λ alike. apart ((bytes_eq-Decides bs directory).0 alike)) in
    btree_map_updates_text bs m n w u directory ∙ ap (λ b. cond b w (get_by_text m directory)) other

-- A look by the number of an open directory tells whether `/proc` leads there.
pub knows_by_look : {F N : Type 0} (L : Looking F N) (file : F) (path : List ℕ) (found shown : Facts) (same : Bool) → same ≡ is_same shown.node.id found.node.id → L.numbers file path →
    L.followed path found → L.shows file shown → KnowsProc L same
knows_by_look L file path found shown true is numbered follow show = found_at file path numbered (record {
  found = found;
  shown = shown;
  follow = follow;
  show = show;
  same = sym is;
})
knows_by_look L file path found shown false is numbered follow show = differs file path found shown numbered follow show (sym is)
