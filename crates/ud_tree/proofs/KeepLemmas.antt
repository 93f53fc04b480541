-- Each file that was found is kept in the list of files, by itself or by one that stands for it.
use Rattle.std.proofs.Common.{◌≡◌, inl, inr, ℕ, ◌<◌, ◌+◌, List, [], ◌∷◌, ◌++◌, length, map, take, get_or, Bool, true, false, refl, sym, ap, ◌∙◌, subst, true≢false, arith, zero, suc}
use Rattle.std.proofs.lemmas.List.{take_more, get_or_default, map-id}
use Rattle.std.proofs.lemmas.List.Elements.{All-weaker, All-contains, All-push, All-nil, Contains-push, Contains-get_or}
use Rattle.std.proofs.lemmas.Cmp.{nat_list_cmp_total}
use Rattle.std.specs.List.{All, Contains}
use Rattle.std.specs.Ordering.{is_lt, nat_cmp, ordering_then}
use Rattle.std.specs.Cmp.Lexicographic.{slice_cmp}
use Rattle.std.specs.Prelude.{string_bytes, not, IsSorted}
use Rattle.std.specs.BTreeSet.{BTreeSet, contains}
use Rattle.std.specs.declared.cmp.Ordering.{Ordering}
use Rattle.std.specs.declared.cmp.Ordering.TheVariants.{Less, Equal, Greater}
use Rattle.ud_tree.specs.declared.walk.Found.{Found}
use Rattle.ud_tree.specs.Walks.{IsBefore, IsKept, ArePicked, key_cmp, Key, key_of}
use Rattle.std.proofs.lemmas.Grind.{common_steps}

less_is_none : Less ≡ Equal → ⊥
less_is_none e = absurd cc

greater_is_none : Greater ≡ Equal → ⊥
greater_is_none e = absurd cc

both_equal : (r s : Ordering) → ordering_then r s ≡ Equal → (r ≡ Equal) × (s ≡ Equal)
both_equal r s e = grind arith

same_lists : (xs ys : List ℕ) → slice_cmp nat_cmp xs ys ≡ Equal → xs ≡ ys
same_lists [] [] e = refl
same_lists [] (y ∷ ys) e = absurd (less_is_none e)
same_lists (x ∷ xs) [] e = absurd (greater_is_none e)
same_lists (x ∷ xs) (y ∷ ys) e = let both = both_equal (nat_cmp x y) (slice_cmp nat_cmp xs ys) e in
    let head : x ≡ y = (grind (arith, both.0)) in
    let tail : xs ≡ ys = same_lists xs ys both.1 in
    cc

-- If neither of two files is before the other, they have the same path.
same_path : (f g : Found) → ¬ (IsBefore f g) → ¬ (IsBefore g f) → string_bytes f.path ≡ string_bytes g.path
same_path f g a b = grind (arith, common_steps, same_lists, nat_list_cmp_total)

-- A file of a sorted list is before none of the earlier ones.
sorted_before : (cmp : Found → Found → Ordering) (all : List Found) →
    ((f g : Found) → IsBefore f g → is_lt (cmp f g) ≡ true) → IsSorted cmp all → (n : ℕ) (x : Found) → n < length all →
    x ≡ get_or all n x → All (λ f. ¬ (IsBefore x f)) (take n all)
sorted_before cmp all test sorted zero x within is = All-nil (λ f. ¬ (IsBefore x f))
sorted_before cmp all test sorted (suc n) x within is =
    subst (λ (fs : List Found). All (λ f. ¬ (IsBefore x f)) fs) (sym (ap (λ (i : ℕ). take i all) next_index ∙ take_more all n x (omega arith)))
    (All-push (λ f. ¬ (IsBefore x f)) (take n all) (get_or all n x)
    (All-weaker (λ f. ¬ (IsBefore (get_or all n x) f)) (λ f. ¬ (IsBefore x f)) (λ f k. (grind (arith, common_steps, nat_list_cmp_total, k, next))) (take n all)
    (sorted_before cmp all test sorted n (get_or all n x) (omega arith) (get_or_default all n x (get_or all n x) (omega arith)))) next)
  where
    next_index : suc n ≡ n + 1
    next_index = omega arith

    next : ¬ (IsBefore x (get_or all n x))
    next b =
        let lt : is_lt (cmp (get_or all (n + 1) x) (get_or all n x)) ≡ false = sorted n x (omega arith) (omega arith) in
        let same : x ≡ get_or all (n + 1) x = is ∙ ap (λ (i : ℕ). get_or all i x) next_index in
        true≢false (sym (test (get_or all (n + 1) x) (get_or all n x) (subst (λ (y : Found). IsBefore y (get_or all n x)) same b)) ∙ lt)

-- The same, of files that are among the earlier ones.
pub sorted_files : (cmp : Found → Found → Ordering) (all yielded files : List Found) →
    ((f g : Found) → IsBefore f g → is_lt (cmp f g) ≡ true) → IsSorted cmp all → (x : Found) →
    length yielded < length all → x ≡ get_or all (length yielded) x →
    map (λ (y : Found). y) yielded ≡ take (length yielded) all → All (Contains yielded) files →
    All (λ f. ¬ (IsBefore x f)) files
sorted_files cmp all yielded files test sorted x within is so_far h =
    All-weaker (Contains yielded) (λ f. ¬ (IsBefore x f)) (λ f there. All-contains (λ f. ¬ (IsBefore x f)) yielded f earlier there) files h
  where
    earlier : All (λ f. ¬ (IsBefore x f)) yielded
    earlier = subst (All (λ f. ¬ (IsBefore x f))) (sym (sym (map-id yielded) ∙ so_far)) (sorted_before cmp all test sorted (length yielded) x within is)

-- A file with the path of one of them is kept.
pub kept_by_path : (files : List Found) (found : Found) → All (λ f. ¬ (IsBefore found f)) files → (last : Found) × Contains files last × (¬ (IsBefore last found)) → IsKept files found
kept_by_path files found sorted h =
    (h.0, h.1, inl (same_path h.0 found h.2 (All-contains (λ f. ¬ (IsBefore found f)) files h.0 sorted h.1)))

-- A file with the device and number of one of them is kept.
pub kept_by_key : (seen : BTreeSet Key) (files : List Found) (found : Found) (added : Bool) → ArePicked seen files → added ≡ not (contains key_cmp seen (key_of found.id)) → added ≡ false →
    IsKept files found
kept_by_key seen files found added h is old =
    let has = h.only (key_of found.id) (not_false (contains key_cmp seen (key_of found.id)) (sym is ∙ old)) in
    let both : key_of has.0.id ≡ key_of found.id = has.2 in
    let same : has.0.id ≡ found.id = ap (λ (k : Key). record { device = k.0; inode = k.1; born = k.2 }) both in
    (has.0, has.1, inr same)
  where
    not_false : (b : Bool) → not b ≡ false → b ≡ true
    not_false true e = refl
    not_false false e = absurd (true≢false e)

-- A file that was added is kept.
pub kept_itself : (files after : List Found) (found : Found) → after ≡ files ++ found ∷ [] → IsKept after found
kept_itself files after found is = (found, subst (λ (fs : List Found). Contains fs found) (sym is) (Contains-push files found), inl refl)

-- A file that is kept stays so.
pub kept_later : (files after : List Found) (all : List Found) → All (Contains after) files → All (IsKept files) all → All (IsKept after) all
kept_later files after all h k = All-weaker (IsKept files) (IsKept after) (λ f e. (e.0, All-contains (Contains after) files e.0 h e.1, e.2)) all k

-- After all were picked, each is kept.
pub kept_all : (files yielded all found : List Found) → map (λ (y : Found). y) yielded ≡ all → ((f : Found) → Contains found f → Contains all f) → All (IsKept files) yielded → All (IsKept files) found
kept_all files yielded all found ends inside k n d within =
    All-contains (IsKept files) all (get_or found n d) (subst (All (IsKept files)) (sym (map-id yielded) ∙ ends) k) (inside (get_or found n d) (Contains-get_or found n d within))
