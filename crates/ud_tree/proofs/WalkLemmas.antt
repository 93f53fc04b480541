-- Parts of a walk, one after another.
use Rattle.std.proofs.Common.{◌≡◌, ◌⊎◌, inl, inr, List, [], ◌++◌, subst, arith}
use Rattle.std.proofs.lemmas.List.Elements.{All-weaker, All-contains, Contains-append_left, Contains-append_right}
use Rattle.std.specs.List.{Contains}
use Rattle.ud_replace.specs.Calls.{Call, WalkCall}
use Rattle.ud_tree.specs.declared.walk.Found.{Found}
use Rattle.ud_tree.specs.Walks.{WasMet, Finds, IsFileList, IsWalk}

-- A file was there before, or was met by these calls.
abbrev pub Origin : List WalkCall → List Found → Found → Type 0
Origin calls before f = Contains before f ⊎ WasMet calls f

pub met_left : (xs ys : List WalkCall) (f : Found) → WasMet xs f → WasMet (xs ++ ys) f
met_left xs ys f h = grind (arith, Contains-append_left)

pub met_right : (xs ys : List WalkCall) (f : Found) → WasMet ys f → WasMet (xs ++ ys) f
met_right xs ys f h = grind (arith, Contains-append_right)

-- A walk from no files has met all that it found.
pub walk_found : {old new : List Call} {before found : List Found} (files : List Found) → before ≡ [] → Finds old new before found → IsFileList found files → IsWalk old new files
walk_found {before = before} {found = found} files none h l = record {
  calls = h.calls;
  are = h.are;
  each = All-weaker (Contains found) (WasMet h.calls) met_each files l.from;
  ascend = l.ascend;
  once = l.once;
}
  where
    only_met : (f : Found) → Origin h.calls before f → WasMet h.calls f
    only_met f (inr m) = m
    only_met f (inl inside) =
        let there : Contains [] f = subst (λ (fs : List Found). Contains fs f) none inside in
        absurd (omega (arith, there.1))

    met_each : (f : Found) → Contains found f → WasMet h.calls f
    met_each f inside = only_met f (All-contains (Origin h.calls before) found f h.each inside)
