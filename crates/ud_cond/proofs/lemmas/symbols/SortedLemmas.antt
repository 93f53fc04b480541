-- Sorted rows: where a search ends, and how rows stay sorted.
use Rattle.std.proofs.Common.{◌≡◌, ◌<◌, ◌≤◌, ◌+◌, ◌-◌, ℕ, List, length, get_or, Bool, false, Result, Ok, Err, IfOk, IfErr, if◌then◌else◌, Ordering, Less, Equal, Greater, is_eq, is_lt, bytes_eq, sym, ◌∙◌, ap, ap₂, subst, arith}
use Rattle.std.specs.List.{insert}
use Rattle.std.specs.List.Sorted.{IsSearchInRange, IsBinarySearchResult, IsNonDecreasingBy}
use Rattle.std.specs.Ordering.{nat_cmp, ordering_then, ordering_reverse, ordering_index}
use Rattle.std.specs.Cmp.{IsTotalOrder}
use Rattle.std.specs.Cmp.Lexicographic.{slice_cmp}
use Rattle.std.proofs.lemmas.Bool.{cases_lt}
use Rattle.std.proofs.lemmas.Cmp.{on_total, then_total, nat_cmp_total, nat_list_cmp_total, tied_itself}
use Rattle.std.proofs.lemmas.List.{get_or_default}
use Rattle.std.proofs.lemmas.List.Edits.{length-insert, get_or-insert_below, get_or-insert_at, get_or-insert_above}
use Rattle.std.proofs.lemmas.List.Sorted.{searchable_from_sorted}
use Rattle.std.proofs.lemmas.Map.Text.{is_eq-slice_cmp}
use Rattle.std.proofs.lemmas.Slice.Eq.{bytes_eq-Decides}
use Rattle.ud_model.specs.conditions.Table.{Argument}
use Rattle.ud_cond.specs.symbols.Keys.{key_of}
use Rattle.ud_cond.specs.symbols.SymbolTable.{same_key_cmp, name_cmp, name_at, no_row, AreSorted, IsRowOf, IsGapFor}
use Rattle.ud_cond.proofs.lemmas.symbols.TableLemmas.{NoneFrom, IsLastRow}

alike_total : IsTotalOrder same_key_cmp
alike_total = then_total (on_total length nat_cmp_total) nat_list_cmp_total

pub name_total : IsTotalOrder name_cmp
name_total = then_total (on_total key_of nat_cmp_total) alike_total

then_equal : (a b : Ordering) → ordering_then a b ≡ Equal → b ≡ Equal
then_equal a b e = grind arith

-- names that compare as equal are equal
name_ties : (m n : List ℕ) → name_cmp m n ≡ Equal → m ≡ n
name_ties m n e =
    let alike : same_key_cmp m n ≡ Equal = then_equal (nat_cmp (key_of m) (key_of n)) (same_key_cmp m n) e in
    let tied : slice_cmp nat_cmp m n ≡ Equal = then_equal (nat_cmp (length m) (length n)) (slice_cmp nat_cmp m n) alike in
    (bytes_eq-Decides m n).0 (sym (is_eq-slice_cmp m n) ∙ ap is_eq tied)

-- names of which one comes before the other differ
pub apart : (m n : List ℕ) (o : Ordering) → name_cmp m n ≡ o → is_eq o ≡ false → bytes_eq m n ≡ false
apart m n o e f = grind (arith, bytes_eq-Decides, tied_itself, name_total)

-- the comparison the other way round
turned : (m n : List ℕ) → name_cmp m n ≡ Less → name_cmp n m ≡ Greater
turned m n e = grind (arith, name_total)

module _ (rows : List Argument) (sorted : AreSorted rows) where
  -- the row of a name is the last row of the name
  pub last-row : (i : ℕ) (name : List ℕ) → IsRowOf rows i name → IsLastRow rows i name
  last-row i name row = grind (arith, apart, turned)

  rise : (name : List ℕ) → IsNonDecreasingBy (λ a. ordering_index (name_cmp a.name name)) rows
  rise name = searchable_from_sorted name_total (λ a. a.name) rows name (λ k d low high.
      let less : name_cmp (get_or rows k d).name (get_or rows (k + 1) d).name ≡ Less =
      ap₂ name_cmp (default k d (omega arith)) (default (k + 1) d high) ∙ sorted k (k + 1) (omega arith) high in
      ap is_lt (turned (get_or rows k d).name (get_or rows (k + 1) d).name less))
    where
      default : (k : ℕ) (d : Argument) → k < length rows → (get_or rows k d).name ≡ name_at rows k
      default k d high = grind (arith, get_or_default)

  -- the keys of sorted rows don't fall
  pub rise-keys : (key : ℕ) → IsNonDecreasingBy (λ a. ordering_index (nat_cmp (key_of a.name) key)) rows
  rise-keys key = searchable_from_sorted nat_cmp_total (λ a. key_of a.name) rows key (λ k d low high.
      let less : name_cmp (get_or rows k d).name (get_or rows (k + 1) d).name ≡ Less =
      ap₂ name_cmp (default k d (omega arith)) (default (k + 1) d high) ∙ sorted k (k + 1) (omega arith) high in
      (grind (arith, turned (get_or rows k d).name (get_or rows (k + 1) d).name less)))
    where
      default : (k : ℕ) (d : Argument) → k < length rows → (get_or rows k d).name ≡ name_at rows k
      default k d high = grind (arith, get_or_default)

  -- a binary search ends at the name's row, or at its gap
  pub searched : (name : List ℕ) (r : Result ℕ ℕ) → IsSearchInRange r (length rows) → IsBinarySearchResult (λ a. name_cmp a.name name) rows r →
      IfOk r (λ i. IsRowOf rows i name) × IfErr r (λ i. IsGapFor rows i name)
  searched name (Ok i) within same = grind (arith, name_ties)
  searched name (Err i) within parted =
      (tt, record { within = within; after = λ k low. (parted (rise name)).0 k no_row (omega arith) low; before = λ k low high. (parted (rise name)).1 k no_row low high })

-- a name that has a gap has no row
pub none-gap : (rows : List Argument) (i : ℕ) (name : List ℕ) → IsGapFor rows i name → NoneFrom rows i name
none-gap rows i name gap k low high = grind (arith, bytes_eq-Decides, tied_itself, name_total)

pub none-at_all : (rows : List Argument) (i : ℕ) (name : List ℕ) → IsGapFor rows i name → NoneFrom rows 0 name
none-at_all rows i name gap k low high = grind (arith, cases_lt, apart, none-gap)

-- a search by keys that finds no row ends at the name's gap
pub gap-keys : (rows : List Argument) (sorted : AreSorted rows) (name : List ℕ) (r : Result ℕ ℕ) → IsSearchInRange r (length rows) →
    IsBinarySearchResult (λ a. nat_cmp (key_of a.name) (key_of name)) rows r → IfErr r (λ i. IsGapFor rows i name)
gap-keys rows sorted name (Ok i) within same = tt
gap-keys rows sorted name (Err i) within parted = record {
  within = within;
  after = λ k low. ap (λ o. ordering_then o (same_key_cmp (name_at rows k) name)) ((parted (rise-keys rows sorted (key_of name))).0 k no_row (omega arith) low);
  before = λ k low high. ap (λ o. ordering_then o (same_key_cmp (name_at rows k) name)) ((parted (rise-keys rows sorted (key_of name))).1 k no_row low high);
}

-- names with one inserted: each is an old one before the position, the new one at it, or an old one
-- after it, moved up by one
ascends-more : (R : List ℕ → List ℕ → Ordering) (old new : ℕ → List ℕ) (n i : ℕ) (x : List ℕ) → ((j k : ℕ) → j < k → k < n → R (old j) (old k) ≡ Less) →
    ((k : ℕ) → k < i → new k ≡ old k) → ((k : ℕ) → k ≡ i → new k ≡ x) → ((k : ℕ) → i < k → new k ≡ old (k - 1)) →
    ((k : ℕ) → k < i → R (old k) x ≡ Less) → ((k : ℕ) → i ≤ k → k < n → R x (old k) ≡ Less) → (j k : ℕ) → j < k → k < n + 1 → i ≤ n → R (new j) (new k) ≡ Less
ascends-more R old new n i x sorted below here above after before j k low high within = grind arith

-- a row is inserted in its gap
pub sorted-insert : (rows : List Argument) (i : ℕ) (a : Argument) → AreSorted rows → IsGapFor rows i a.name → AreSorted (insert rows i a)
sorted-insert rows i a sorted gap j k low high = let new = insert rows i a in
    let more : length new ≡ length rows + 1 = length-insert rows i a gap.within in
    let above : (n : ℕ) → i < n → name_at new n ≡ name_at rows (n - 1) =
    λ n l. subst (λ m. name_at new m ≡ name_at rows (n - 1)) {x = n - 1 + 1} (omega arith) (ap (λ r. r.name) (get_or-insert_above rows i a no_row (n - 1) (omega arith) gap.within)) in
    ascends-more name_cmp (name_at rows) (name_at new) (length rows) i a.name sorted
    (λ n l. ap (λ r. r.name) (get_or-insert_below rows i a no_row n l gap.within))
    (λ n e. ap (name_at new) e ∙ ap (λ r. r.name) (get_or-insert_at rows i a no_row gap.within))
    above gap.after (λ n l h. name_total.antisymm a.name (name_at rows n) ∙ ap ordering_reverse (gap.before n l h))
    j k low (omega arith) gap.within

-- a row is inserted, unless the allocation fails
pub sorted-added : (rows : List Argument) (i : ℕ) (a : Argument) (b : Bool) → AreSorted rows → IsGapFor rows i a.name → AreSorted (if b then insert rows i a else rows)
sorted-added rows i a b sorted gap = grind (arith, sorted-insert)
