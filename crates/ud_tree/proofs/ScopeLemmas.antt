-- Paths below those of the command line.
use Rattle.std.proofs.Common.{◌≡◌, ◌⊎◌, inl, inr, ℕ, Bool, true, false, List, ◌++◌, length, take, drop, refl, sym, ap, ◌∙◌, subst, arith, length-append, take-append-drop}
use Rattle.std.proofs.lemmas.List.{take-append-le, take_all}
use Rattle.std.specs.List.{Contains, ends_with}
use Rattle.std.specs.Prelude.{codes, if◌then◌else◌, nat_eq}
use Rattle.ud_tree.specs.Scopes.{IsDirectoryPath, IsRooted, IsBelow}

-- The bytes after the first ones are below.
pub below_root : {paths : List (List ℕ)} {path : List ℕ} {root : ℕ} → IsRooted paths path root → IsBelow paths path (drop root path)
below_root {path = path} {root = root} h = record {
  named = h.named;
  given = h.given;
  directory = take root path;
  is_directory = h.is_root;
  whole = sym (take-append-drop root path);
}

-- The same, of a path that was taken apart.
pub below_first : {paths : List (List ℕ)} {path bytes below : List ℕ} {root : ℕ} → below ≡ drop root bytes → bytes ≡ path → IsRooted paths path root → IsBelow paths path below
below_first {paths = paths} {path = path} {root = root} first same h = subst (IsBelow paths path) (sym (first ∙ ap (drop root) same)) (below_root h)

-- A longer path begins alike.
pub rooted_more : {paths : List (List ℕ)} {path : List ℕ} {root : ℕ} (more : List ℕ) → IsRooted paths path root → IsRooted paths (path ++ more) root
rooted_more {path = path} {root = root} more h = record {
  named = h.named;
  given = h.given;
  is_root = subst (IsDirectoryPath h.named) (sym (take-append-le root path more h.within)) h.is_root;
  within = let both = length-append path more in let few = h.within in omega (arith, both, few);
}

-- One of two texts, by a test.
either : (first : Bool) (x y : List ℕ) → ((if first then x else y) ≡ x) ⊎ ((if first then x else y) ≡ y)
either true x y = inl refl
either false x y = inr refl

-- So does the path of a directory with its slash.
pub rooted_directory : {paths : List (List ℕ)} {path directory : List ℕ} {root : ℕ} → IsDirectoryPath path directory → IsRooted paths path root → IsRooted paths directory root
rooted_directory {paths = paths} {path = path} {root = root} is h =
    subst (λ (p : List ℕ). IsRooted paths p root) (sym is) (elim (either (ends_with nat_eq path (codes "/")) path (path ++ codes "/")) [
      | inl same ↦ subst (λ (p : List ℕ). IsRooted paths p root) (sym same) h
      | inr more ↦ subst (λ (p : List ℕ). IsRooted paths p root) (sym more) (rooted_more (codes "/") h)
    ])

-- A directory of the command line begins with itself.
pub rooted_start : {paths : List (List ℕ)} {path directory : List ℕ} (root : ℕ) → Contains paths path → IsDirectoryPath path directory → root ≡ length directory → IsRooted paths directory root
rooted_start {path = path} {directory = directory} root there is whole = record {
  named = path;
  given = there;
  is_root = subst (IsDirectoryPath path) (sym (take_all root directory (omega arith))) is;
  within = omega arith;
}
