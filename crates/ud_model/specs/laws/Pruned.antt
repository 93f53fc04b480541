-- The pruned tree: the output for a text whose sections are all closed, as a tree.
-- unifdef(1): the output has the lines that the table of verdicts keeps, with edited directives.
--
--   Edited L          a line of the output: the line it comes from, and the verdict on that line
--   printed xs ms     the output for these lines with these marks: a removed line is left out, and
--                     an edited one is another directive
--   pruned_lines ns   the output for the nodes, line by line
--   IsPruned ns ps    `ps` are the pruned nodes: the tree of these lines
--   ArePruned ns ps   the same in terms of sections and groups, not lines
--   EachLine T P ns   each text line satisfies `T`, and each opener but `#else` satisfies `P`
--   IsUndecided ns    each condition but that of an `#else` is unknown
--
-- All else follows from the table (Pruning). A section that gives way leaves the nodes of its first
-- kept group, if any. Each other section keeps its kept groups in order, each opener with its
-- verdict (law_pruned). Nodes have exactly one pruned tree.
--
-- Example: of `#if X`, `#elif defined A`, `#elif Y`, `#else`, `#endif` under -DA three lines are
-- left: an `#if X`, an `#else` from the second line and an `#endif` from the third.
use Rattle.std.specs.Prelude.{◌≡◌, List, [], ◌∷◌, ◌++◌, Bool, true, false, if◌then◌else◌}
use Rattle.ud_model.specs.declared.cond.Cond.{Cond}
use Rattle.ud_model.specs.declared.cond.Cond.TheVariants.{Yes, Unknown}
use Rattle.ud_model.specs.declared.verdict.Verdict.{Verdict}
use Rattle.ud_model.specs.declared.verdict.Verdict.TheVariants.{Keep, Remove, ToIf, ToElse, ToEndif}
use Rattle.ud_model.specs.sections.Tree.{item_with, Item, Opener, Nodes, Groups, Elifs, if_line}
use Rattle.ud_model.specs.sections.Tree.{elif_line, else_line, endif_line, nothing, text, section}
use Rattle.ud_model.specs.sections.Tree.{conditional, otherwise, first, elif, closed}
use Rattle.ud_model.specs.sections.Tree.{lines_of_nodes}
use Rattle.ud_model.specs.sections.Pruning.{Part, an_if, an_elif, an_else, Mark, marks, is_kept}
use Rattle.ud_model.specs.sections.Pruning.{gives_way, opener_verdict, endif_verdict}
use Rattle.ud_model.specs.sections.Pruning.{conds_of_elifs, conds_of_groups}

-- A line of the output: the line it comes from, and the verdict on that line.
pub record Edited (L : Type 0) : Type 0 where
  pub line : L
  pub verdict : Verdict

-- A group of a section: the directive that opens it, the conditions of the groups before it, its
-- own condition, its opener and its nodes.
pub record Group (L : Type 0) : Type 0 where
  pub part : Part
  pub before : List Cond
  pub cond : Cond
  pub opener : Item L
  pub nodes : Nodes L

module _ {L : Type 0} where
  -- `group part before c x ns`: the group with these parts.
  abbrev pub group : Part → List Cond → Cond → Item L → Nodes L → Group L
  group part before c x ns =
      record { part = part; before = before; cond = c; opener = x; nodes = ns }

  -- `edited v l`: the line `l` with the verdict `v`.
  abbrev pub edited : Verdict → L → Edited L
  edited v l = record { line = l; verdict = v }

  -- `edited_opener v o`: the opener `o` with the verdict `v` on its line.
  abbrev pub edited_opener : Verdict → Opener L → Opener (Edited L)
  edited_opener v o = record { line = edited v o.line; cond = o.cond; ignoring = o.ignoring }

  -- `kept_line v x`: the line `x` with the verdict `v` as an item of the output, unless it is
  -- removed. An edited directive is another one.
  abbrev pub kept_line : Verdict → Item L → List (Item (Edited L))
  kept_line Remove x = []
  kept_line ToIf (elif_line o) = if_line (edited_opener ToIf o) ∷ []
  kept_line ToElse (elif_line o) = else_line (edited ToElse o.line) ∷ []
  kept_line ToEndif (elif_line o) = endif_line (edited ToEndif o.line) ∷ []
  kept_line ToEndif (else_line l) = endif_line (edited ToEndif l) ∷ []
  kept_line v x = item_with (edited v) x ∷ []

  -- `printed xs ms`: the items of the output for the lines `xs` with the marks `ms`.
  abbrev pub printed : List (Item L) → List Mark → List (Item (Edited L))
  printed [] ms = []
  printed (x ∷ xs) [] = []
  printed (x ∷ xs) (m ∷ ms) = kept_line m.verdict x ++ printed xs ms

  -- `pruned_lines ns`: the items of the output for the nodes `ns`.
  abbrev pub pruned_lines : Nodes L → List (Item (Edited L))
  pruned_lines ns = printed (lines_of_nodes ns) (marks (closed ns))

  -- `IsPruned ns ps`: `ps` are the pruned nodes of `ns`, the tree of the output for them.
  abbrev pub IsPruned : Nodes L → Nodes (Edited L) → Type 0
  IsPruned ns ps = lines_of_nodes ps ≡ pruned_lines ns

  -- `then_nodes ms ns`: the nodes `ms` and then the nodes `ns`.
  abbrev pub then_nodes : Nodes L → Nodes L → Nodes L
  then_nodes ms nothing = ms
  then_nodes ms (text ns l) = text (then_nodes ms ns) l
  then_nodes ms (section ns gs e) = section (then_nodes ms ns) gs e

  -- `groups_of_elifs es`: the groups with a condition, in order.
  abbrev pub groups_of_elifs : Elifs L → List (Group L)
  groups_of_elifs (first o ns) = group an_if [] o.cond (if_line o) ns ∷ []
  groups_of_elifs (elif es o ns) =
      groups_of_elifs es ++ group an_elif (conds_of_elifs es) o.cond (elif_line o) ns ∷ []

  -- `groups_of gs`: the groups of a section, in order.
  abbrev pub groups_of : Groups L → List (Group L)
  groups_of (conditional es) = groups_of_elifs es
  groups_of (otherwise es l ns) =
      groups_of_elifs es ++ group an_else (conds_of_elifs es) Yes (else_line l) ns ∷ []

  -- `is_kept_group g`: the group `g` is kept.
  abbrev pub is_kept_group : Group L → Bool
  is_kept_group g = is_kept g.before g.cond

  -- `left_of all g`: the opener of the group `g` as an item of the output, unless it is removed;
  -- `all` are the section's conditions.
  abbrev pub left_of : List Cond → Group L → List (Item (Edited L))
  left_of all g = kept_line (opener_verdict all g.before g.part g.cond) g.opener

  -- `others_left all gs`: the openers that the table leaves of the groups that aren't kept.
  abbrev pub others_left : List Cond → List (Group L) → List (Item (Edited L))
  others_left all [] = []
  others_left all (g ∷ gs) =
      (if is_kept_group g then [] else left_of all g) ++ others_left all gs

  -- `IsEndif all gs e k`: among the openers of the groups that aren't kept, and the `#endif` on the
  -- line `e`, the table leaves one line, the `#endif` on the line `k`.
  abbrev pub IsEndif : List Cond → List (Group L) → L → Edited L → Type 0
  IsEndif all gs e k =
      others_left all gs ++ kept_line (endif_verdict all) (endif_line e) ≡ endif_line k ∷ []

mutual
  -- `ArePruned ns ps`: `ps` are the nodes that pruning leaves of `ns`.
  pub data ArePruned {L : Type 0} : Nodes L → Nodes (Edited L) → Type 0 where
    no_nodes : ArePruned nothing nothing
    text_stays : {ns : Nodes L} {l : L} {ps : Nodes (Edited L)} → ArePruned ns ps →
        ArePruned (text ns l) (text ps (edited Keep l))
    -- A section that gives way leaves the nodes of its first kept group.
    gives_way_to : {ns : Nodes L} {gs : Groups L} {e : L} {ps qs : Nodes (Edited L)} →
        gives_way (conds_of_groups gs) ≡ true → ArePruned ns ps → AreOfFirst (groups_of gs) qs →
        ArePruned (section ns gs e) (then_nodes ps qs)
    -- Each other section keeps its kept groups.
    section_stays : {ns : Nodes L} {gs : Groups L} {e : L} {ps : Nodes (Edited L)}
        {hs : Groups (Edited L)} {k : Edited L} → gives_way (conds_of_groups gs) ≡ false →
        ArePruned ns ps → AreKept (conds_of_groups gs) (groups_of gs) (groups_of hs) →
        IsEndif (conds_of_groups gs) (groups_of gs) e k →
        ArePruned (section ns gs e) (section ps hs k)

  -- `AreOfFirst gs ps`: `ps` are the pruned nodes of the first kept group of `gs`, or none if no
  -- group is kept.
  pub data AreOfFirst {L : Type 0} : List (Group L) → Nodes (Edited L) → Type 0 where
    no_group : AreOfFirst [] nothing
    of_later : {g : Group L} {gs : List (Group L)} {ps : Nodes (Edited L)} →
        is_kept_group g ≡ false → AreOfFirst gs ps → AreOfFirst (g ∷ gs) ps
    of_this : {g : Group L} {gs : List (Group L)} {ps : Nodes (Edited L)} →
        is_kept_group g ≡ true → ArePruned g.nodes ps → AreOfFirst (g ∷ gs) ps

  -- `AreKept all gs hs`: `hs` are the kept groups of `gs`. Each has the opener that the table
  -- leaves, and its pruned nodes.
  pub data AreKept {L : Type 0} : List Cond → List (Group L) → List (Group (Edited L)) →
      Type 0 where
    no_groups : {all : List Cond} → AreKept all [] []
    without : {all : List Cond} {g : Group L} {gs : List (Group L)} {hs : List (Group (Edited L))} →
        is_kept_group g ≡ false → AreKept all gs hs → AreKept all (g ∷ gs) hs
    with_this : {all : List Cond} {g : Group L} {gs : List (Group L)} {h : Group (Edited L)}
        {hs : List (Group (Edited L))} → is_kept_group g ≡ true → left_of all g ≡ h.opener ∷ [] →
        ArePruned g.nodes h.nodes → AreKept all gs hs → AreKept all (g ∷ gs) (h ∷ hs)

module _ {L : Type 0} (T : L → Type 0) (P : Opener L → Type 0) where
  abbrev mutual
    -- `EachLine T P ns`: each text line in the nodes satisfies `T`, and each opener but an `#else`
    -- satisfies `P`.
    pub EachLine : Nodes L → Type 0
    EachLine nothing = Unit {0}
    EachLine (text ns l) = EachLine ns × T l
    EachLine (section ns gs e) = EachLine ns × GroupLines gs

    -- `GroupLines T P gs`: the same for the groups, with their openers.
    pub GroupLines : Groups L → Type 0
    GroupLines (conditional es) = ElifLines es
    GroupLines (otherwise es l ns) = ElifLines es × EachLine ns

    -- `ElifLines T P es`: the same for these groups, with their openers.
    pub ElifLines : Elifs L → Type 0
    ElifLines (first o ns) = P o × EachLine ns
    ElifLines (elif es o ns) = ElifLines es × P o × EachLine ns

module _ {L : Type 0} where
  -- `Any l`: true of every line `l`.
  abbrev pub Any : L → Type 0
  Any l = Unit {0}

  -- `IsUnknown o`: the condition of the opener `o` is unknown.
  abbrev pub IsUnknown : Opener L → Type 0
  IsUnknown o = o.cond ≡ Unknown

  -- `IsUndecided ns`: each condition in the nodes but that of an `#else` is unknown.
  abbrev pub IsUndecided : Nodes L → Type 0
  IsUndecided ns = EachLine Any IsUnknown ns
