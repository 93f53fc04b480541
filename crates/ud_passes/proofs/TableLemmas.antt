-- Tables: a row more, and the order of the rows.
use Rattle.std.proofs.Common.{◌≡◌, ℕ, zero, suc, ◌+◌, ◌-◌, ◌<◌, ◌≤◌, List, [], ◌∷◌, ◌++◌, length, map, take, drop, get_or, replicate, min, Bool, true, false, if◌then◌else◌, bytes_eq, refl, sym, ◌∙◌, ap, ap₂, subst, arith, is_lt}
use Rattle.std.specs.List.{All, count_by}
use Rattle.std.specs.List.Sorted.{IsPermutation, IsSorted}
use Rattle.std.specs.declared.cmp.Ordering.{Ordering}
use Rattle.std.specs.Ordering.{nat_cmp}
use Rattle.std.specs.Cmp.{IsTotalOrder}
use Rattle.std.specs.Cmp.Lexicographic.{slice_cmp}
use Rattle.std.proofs.lemmas.Cmp.{nat_list_cmp_total, nat_cmp_total, on_total, back_total, then_total}
use Rattle.std.proofs.lemmas.List.{get_or-map, length-map, map-append, get_or-take, get_or-drop, length-take-le, length-drop}
use Rattle.std.proofs.lemmas.List.Elements.{All-push}
use Rattle.std.proofs.lemmas.List.MinMax.{ranks_by}
use Rattle.std.proofs.lemmas.List.Folds.{sum_by-replicate}
use Rattle.std.proofs.lemmas.List.Sums.{sum_by-append, sum_by-cons}
use Rattle.std.proofs.Math.Seq.{take-add}
use Rattle.std.proofs.lemmas.List.Sorted.{sum_by-IsPermutation, All-permutation, sorted_far}
use Rattle.std.proofs.lemmas.Map.Text.{is_eq-slice_cmp}
use Rattle.std.proofs.lemmas.Slice.Eq.{bytes_eq-Decides}
use Rattle.ud_passes.specs.names.NameTables.{NameCount, count_of, rows_with, row_cmp, IsTable}
use Rattle.ud_passes.specs.names.RowViews.{AreCounts}

-- 1. Counts.

module _ {X : Type 0} (p : X → Bool) where
  abbrev one_if : X → ℕ
  one_if x = if p x then 1 else 0

  pub count-append : (xs ys : List X) → count_by p (xs ++ ys) ≡ count_by p xs + count_by p ys
  count-append xs ys = sum_by-append one_if xs ys

  count-cons : (x : X) (xs : List X) → count_by p (x ∷ xs) ≡ (if p x then 1 else 0) + count_by p xs
  count-cons x xs = sum_by-cons one_if x xs

  pub count-permuted : (xs ys : List X) → IsPermutation xs ys → count_by p ys ≡ count_by p xs
  count-permuted xs ys h = sum_by-IsPermutation one_if xs ys h

  count-none : (xs : List X) → ((k : ℕ) (d : X) → k < length xs → p (get_or xs k d) ≡ false) → count_by p xs ≡ 0
  count-none [] h = refl
  count-none (x ∷ xs) h = let first : p x ≡ false = h 0 x (omega arith) in
      grind (arith, count-cons, first, count-none xs (λ k d l. h (suc k) d (omega arith)))

  none-counted : (xs : List X) → count_by p xs ≡ 0 → (k : ℕ) (d : X) → k < length xs → p (get_or xs k d) ≡ false
  none-counted [] e k d l = absurd (omega arith)
  none-counted (x ∷ xs) e zero d l = grind (arith, count-cons)
  none-counted (x ∷ xs) e (suc k) d l = grind (arith, count-cons, none-counted xs)

pub replicated : {X : Type 0} (f : X → List ℕ) (x : List ℕ) (ps : List X) → ((k : ℕ) → k < length ps → (d : X) → bytes_eq (f (get_or ps k d)) x ≡ true) → map f ps ≡ replicate (length ps) x
replicated f x [] h = refl
replicated f x (p ∷ ps) h =
    ap₂ (λ (a : List ℕ) (more : List (List ℕ)). a ∷ more) ((bytes_eq-Decides (f p) x).0 (h 0 (omega arith) p)) (replicated f x ps (λ k l d. h (suc k) (omega arith) d))

-- 2. A row more.

module _ (names : List (List ℕ)) (rows : List NameCount) (x : List ℕ) (k : ℕ) where
  abbrev row : NameCount
  row = record { count = k; name = x }

  pub row_more : AreCounts names rows → count_of x names ≡ 0 → 0 < k → AreCounts (names ++ replicate k x) (rows ++ row ∷ [])
  row_more h z some = record {
    counts = All-push (λ r. r.count ≡ count_of r.name (names ++ replicate k x)) rows row old
        (grind (arith, all x, z, bytes_eq-Decides x x));
    once = once;
  }
    where
      no_row : rows_with x rows ≡ 0
      no_row = h.once x ∙ ap (λ (n : ℕ). min 1 n) z

      all : (n : List ℕ) → count_of n (names ++ replicate k x) ≡ count_of n names + (if bytes_eq x n then k else 0)
      all n = count-append (λ m. bytes_eq m n) names (replicate k x) ∙ ap (λ (c : ℕ). count_of n names + c) (grind (arith, sum_by-replicate))

      old : All (λ r. r.count ≡ count_of r.name (names ++ replicate k x)) rows
      old = λ i d l.
          let none = none-counted (λ r. bytes_eq r.name x) rows no_row i d l in
          grind (arith, h.counts i d l, all (get_or rows i d).name, bytes_eq-Decides, none)

      once : (n : List ℕ) → rows_with n (rows ++ row ∷ []) ≡ min 1 (count_of n (names ++ replicate k x))
      once n = let e = count-append (λ r. bytes_eq r.name n) rows (row ∷ []) in
          grind (arith, e, h.once n, all n, z, no_row, some, bytes_eq-Decides)

-- 3. Names that are sorted.

equal_if : (a b : List ℕ) → is_lt (slice_cmp nat_cmp a b) ≡ false → is_lt (slice_cmp nat_cmp b a) ≡ false → bytes_eq a b ≡ true
equal_if a b e f =
    let back = nat_list_cmp_total.antisymm b a in grind (arith, back, is_eq-slice_cmp a b)

-- `RowsAt f xs rows i`: the rows of the names before the index `i`. The name there is none of them.
pub record RowsAt {X : Type 0} (f : X → List ℕ) (xs : List X) (rows : List NameCount) (i : ℕ) : Type 0 where
  pub counts : AreCounts (map f (take i xs)) rows
  pub apart : i < length xs → (d : X) → count_of (f (get_or xs i d)) (map f (take i xs)) ≡ 0

module _ {X : Type 0} (f : X → List ℕ) (xs : List X) (up : IsSorted (λ x y. slice_cmp nat_cmp (f x) (f y)) xs) where
  -- A name that isn't the one before it is none of those before it.
  pub none_before : (i j : ℕ) (d : X) → j + 1 ≡ i → i < length xs → bytes_eq (f (get_or xs i d)) (f (get_or xs j d)) ≡ false → count_of (f (get_or xs i d)) (map f (take i xs)) ≡ 0
  none_before i j d n l e = count-none (λ m. bytes_eq m (f (get_or xs i d))) (map f (take i xs)) other
    where
      far : (a b : ℕ) → a ≤ b → b < length xs → is_lt (slice_cmp nat_cmp (f (get_or xs b d)) (f (get_or xs a d))) ≡ false
      far a b le lt = sorted_far (λ x y. is_lt (slice_cmp nat_cmp (f x) (f y))) (ranks_by nat_list_cmp_total f) xs up a b d le lt

      other : (k : ℕ) (g : List ℕ) → k < length (map f (take i xs)) → bytes_eq (get_or (map f (take i xs)) k g) (f (get_or xs i d)) ≡ false
      other k g m =
          let taken = length-take-le i xs (omega arith) in
          let len : length (map f (take i xs)) ≡ i = length-map (take i xs) f ∙ taken in
          let lt : k < i = omega (arith, m, len) in
          let at : get_or (map f (take i xs)) k g ≡ f (get_or xs k d) =
          get_or-map f (take i xs) k d g (omega (arith, lt, taken))
          ∙ ap f (get_or-take i xs k d lt) in
          let low = far k j (omega arith) (omega arith) in
          let high = far j i (omega arith) l in
          grind (arith, at, low, high, equal_if, bytes_eq-Decides)

  pub rows_next : (rows : List NameCount) (x : List ℕ) (i count : ℕ) → RowsAt f xs rows i → i < length xs → count ≤ length (drop i xs) → ((d : X) → f (get_or xs i d) ≡ x) →
      ((k : ℕ) → k < count → (d : X) → bytes_eq (f (get_or (drop i xs) k d)) x ≡ true) →
      (count < length (drop i xs) → (d : X) → bytes_eq (f (get_or (drop i xs) count d)) x ≡ false) →
      (0 < count) × RowsAt f xs (rows ++ record { count = count; name = x } ∷ []) (i + count)
  rows_next rows x i count h l within is same_as other = (some xs l refl, record { counts = counts; apart = apart })
    where
      long : length (drop i xs) ≡ length xs - i
      long = length-drop i xs

      some : (ys : List X) → i < length ys → ys ≡ xs → 0 < count
      some [] m e = absurd (omega arith)
      some (d ∷ ys) m e = by count refl
        where
          by : (k : ℕ) → count ≡ k → 0 < k
          by zero z =
              let first : bytes_eq (f (get_or (drop i xs) count d)) x ≡ false = other (omega (arith, long, l, z)) d in
              let at : f (get_or (drop i xs) count d) ≡ x =
              ap f (ap (λ (k : ℕ). get_or (drop i xs) k d) z ∙ get_or-drop i xs 0 d ∙ ap (λ (k : ℕ). get_or xs k d) (omega arith)) ∙ is d in
              let no : true ≡ false = sym ((bytes_eq-Decides x x).1 refl) ∙ sym (ap (λ (a : List ℕ). bytes_eq a x) at) ∙ first in
              absurd (cc)
          by (suc k) z = omega arith

      ps : map f (take count (drop i xs)) ≡ replicate count x
      ps = replicated f x (take count (drop i xs)) (λ k m d.
          let n : k < count = omega (arith, m, length-take-le count (drop i xs) within) in
          ap (λ (a : X). bytes_eq (f a) x) (get_or-take count (drop i xs) k d n) ∙ same_as k n d)
          ∙ ap (λ (n : ℕ). replicate n x) (length-take-le count (drop i xs) within)

      all : map f (take (i + count) xs) ≡ map f (take i xs) ++ replicate count x
      all = ap (λ (ys : List X). map f ys) (take-add i count xs) ∙ map-append f (take i xs) (take count (drop i xs)) ∙ ap (λ (ys : List (List ℕ)). map f (take i xs) ++ ys) ps

      counts : AreCounts (map f (take (i + count) xs)) (rows ++ record { count = count; name = x } ∷ [])
      counts = subst (λ (ns : List (List ℕ)). AreCounts ns (rows ++ record { count = count; name = x } ∷ [])) (sym all) (by xs l refl)
        where
          by : (ys : List X) → i < length ys → ys ≡ xs → AreCounts (map f (take i xs) ++ replicate count x) (rows ++ record { count = count; name = x } ∷ [])
          by [] m e = absurd (omega arith)
          by (d ∷ ys) m e =
              row_more (map f (take i xs)) rows x count h.counts (ap (λ (n : List ℕ). count_of n (map f (take i xs))) (sym (is d)) ∙ h.apart l d) (some xs l refl)

      apart : i + count < length xs → (d : X) → count_of (f (get_or xs (i + count) d)) (map f (take (i + count) xs)) ≡ 0
      apart m d = let pos : 0 < count = some xs l refl in
          let next : f (get_or (drop i xs) count d) ≡ f (get_or xs (i + count) d) = ap f (get_or-drop i xs count d) in
          let last : f (get_or xs (i + count - 1) d) ≡ x =
          ap f (ap (λ (k : ℕ). get_or xs k d) (omega arith) ∙ sym (get_or-drop i xs (count - 1) d)) ∙ (bytes_eq-Decides (f (get_or (drop i xs) (count - 1) d)) x).0 (same_as (count - 1) (omega arith) d) in
          none_before (i + count) (i + count - 1) d (omega arith) m
          (ap₂ (λ (a b : List ℕ). bytes_eq a b) (sym next) last ∙ other (omega (arith, long, m)) d)

  -- The same, of the rest of the names.
  pub rows_next_in : (rows : List NameCount) (x : List ℕ) (i count : ℕ) (rest : List X) → rest ≡ drop i xs → RowsAt f xs rows i → i < length xs → count ≤ length rest → ((d : X) → f (get_or xs i d) ≡ x) →
      ((k : ℕ) → k < count → (d : X) → bytes_eq (f (get_or rest k d)) x ≡ true) →
      (count < length rest → (d : X) → bytes_eq (f (get_or rest count d)) x ≡ false) →
      (0 < count) × RowsAt f xs (rows ++ record { count = count; name = x } ∷ []) (i + count)
  rows_next_in rows x i count rest e = rw e (rows_next rows x i count)

-- 4. The table.

pub row_cmp_total : IsTotalOrder row_cmp
row_cmp_total = then_total (back_total (on_total (λ (r : NameCount). r.count) nat_cmp_total)) (on_total (λ (r : NameCount). r.name) nat_list_cmp_total)

pub sorted_map : {X Y : Type 0} (cmp : Y → Y → Ordering) (f : X → Y) (xs : List X) → IsSorted (λ a b. cmp (f a) (f b)) xs → IsSorted cmp (map f xs)
sorted_map cmp f [] h = λ k d le lt. absurd (omega arith)
sorted_map cmp f (x ∷ xs) h = λ k d le lt.
    let n : length (map f (x ∷ xs)) ≡ length (x ∷ xs) = length-map (x ∷ xs) f in
    ap₂ (λ (a b : _). is_lt (cmp a b)) (get_or-map f (x ∷ xs) (k + 1) x d (omega (arith, n, lt))) (get_or-map f (x ∷ xs) k x d (omega (arith, n, lt))) ∙ h k x le (omega (arith, n, lt))

-- The names and the rows in another order.
pub table_of : (names others : List (List ℕ)) (rows sorted : List NameCount) → IsPermutation names others → AreCounts others rows → IsPermutation rows sorted → IsSorted row_cmp sorted → IsTable names sorted
table_of names others rows sorted p h q up = record {
  counts = λ i d l.
      All-permutation (λ r. r.count ≡ count_of r.name others) rows sorted q h.counts i d l ∙ count-permuted (λ m. bytes_eq m (get_or sorted i d).name) names others p;
  once = λ n.
      count-permuted (λ r. bytes_eq r.name n) rows sorted q ∙ h.once n ∙ ap (λ (c : ℕ). min 1 c) (count-permuted (λ m. bytes_eq m n) names others p);
  ordered = up;
}
