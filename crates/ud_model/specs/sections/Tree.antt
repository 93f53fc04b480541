-- Trees: a text as nested sections.
-- C11 6.10, the grammar of group-part and if-section.
--
--   Item L            a line by its part in sections: text or a directive; `L` is the type of
--                     lines
--   Nodes L           the text lines and whole sections of a text or a group, in order
--   Groups L          the groups of a section: an opener and the nodes after it, group for group
--   Tree L            a text: nodes, and at its end perhaps a section without its `#endif`, in
--                     which the text goes on
--   lines t           the lines of a text, in order; a list of lines has the tree `t` if `lines t`
--                     is that list
--   depth t           the number of sections that are open at the end of the text
--   with_lines f ns   the same nodes with another line in place of each
--
-- Each type grows at its end, as a text does: nodes and then a line, groups and then a group.
use Rattle.std.specs.Prelude.{◌≡◌, ℕ, suc, List, [], ◌∷◌, ◌++◌, Bool, false, ◌||◌, Option, Some}
use Rattle.std.specs.Prelude.{None}
use Rattle.ud_model.specs.declared.cond.Cond.{Cond}

-- A directive with a condition, and whether its section is plain text.
pub record Opener (L : Type 0) : Type 0 where
  pub line : L
  pub cond : Cond
  pub ignoring : Bool

-- A line by its part in sections: text, or one of the directives.
pub data Item (L : Type 0) : Type 0 where
  text_line : L → Item L
  -- `#if`, `#ifdef` or `#ifndef`.
  if_line : Opener L → Item L
  -- `#elif`, `#elifdef` or `#elifndef`.
  elif_line : Opener L → Item L
  else_line : L → Item L
  endif_line : L → Item L

mutual
  -- The text lines and whole sections of a text or a group, in order.
  pub data Nodes (L : Type 0) : Type 0 where
    nothing : Nodes L
    text : Nodes L → L → Nodes L
    -- Nodes, then a section: its groups and its `#endif`.
    section : Nodes L → Groups L → L → Nodes L

  -- The groups of a section.
  pub data Groups (L : Type 0) : Type 0 where
    conditional : Elifs L → Groups L
    -- Groups with a condition, then an `#else` and the nodes of the last group.
    otherwise : Elifs L → L → Nodes L → Groups L

  -- The groups with a condition, each with its opener.
  pub data Elifs (L : Type 0) : Type 0 where
    first : Opener L → Nodes L → Elifs L
    elif : Elifs L → Opener L → Nodes L → Elifs L

-- A section up to the opener of its last group: the groups before it, and the opener.
pub data Head (L : Type 0) : Type 0 where
  if_head : Opener L → Head L
  elif_head : Elifs L → Opener L → Head L
  else_head : Elifs L → L → Head L

-- A text so far: nodes, and the section that is still open, if any.
pub data Tree (L : Type 0) : Type 0 where
  closed : Nodes L → Tree L
  -- Nodes, then a section without its `#endif`, whose last group goes on to the end of the text.
  open_section : Nodes L → Head L → Tree L → Tree L

module _ {L : Type 0} where
  abbrev mutual
    -- `lines_of_nodes ns`: the lines of the nodes, in order.
    pub lines_of_nodes : Nodes L → List (Item L)
    lines_of_nodes nothing = []
    lines_of_nodes (text ns l) = lines_of_nodes ns ++ text_line l ∷ []
    lines_of_nodes (section ns gs e) =
        (lines_of_nodes ns ++ lines_of_groups gs) ++ endif_line e ∷ []

    -- `lines_of_groups gs`: the lines of the groups, in order.
    pub lines_of_groups : Groups L → List (Item L)
    lines_of_groups (conditional es) = lines_of_elifs es
    lines_of_groups (otherwise es l ns) =
        (lines_of_elifs es ++ else_line l ∷ []) ++ lines_of_nodes ns

    -- `lines_of_elifs es`: the lines of the groups with a condition, in order.
    pub lines_of_elifs : Elifs L → List (Item L)
    lines_of_elifs (first o ns) = (if_line o ∷ []) ++ lines_of_nodes ns
    lines_of_elifs (elif es o ns) = (lines_of_elifs es ++ elif_line o ∷ []) ++ lines_of_nodes ns

  -- `lines_of_head h`: the lines of a section up to the opener of its last group.
  abbrev pub lines_of_head : Head L → List (Item L)
  lines_of_head (if_head o) = if_line o ∷ []
  lines_of_head (elif_head es o) = lines_of_elifs es ++ elif_line o ∷ []
  lines_of_head (else_head es l) = lines_of_elifs es ++ else_line l ∷ []

  -- `lines t`: the lines of the text, in order.
  abbrev pub lines : Tree L → List (Item L)
  lines (closed ns) = lines_of_nodes ns
  lines (open_section ns h t) = (lines_of_nodes ns ++ lines_of_head h) ++ lines t

  -- `HasTree xs`: the lines `xs` have a tree.
  abbrev pub HasTree : List (Item L) → Type 0
  HasTree xs = (t : Tree L) × (lines t ≡ xs)

  -- `depth t`: the number of sections that are open at the end of the text.
  abbrev pub depth : Tree L → ℕ
  depth (closed ns) = 0
  depth (open_section ns h t) = suc (depth t)

  -- `opener_of_elifs es`: the first directive of the groups.
  abbrev pub opener_of_elifs : Elifs L → Opener L
  opener_of_elifs (first o ns) = o
  opener_of_elifs (elif es o ns) = opener_of_elifs es

  -- `opener_of_head h`: the first directive of the section.
  abbrev pub opener_of_head : Head L → Opener L
  opener_of_head (if_head o) = o
  opener_of_head (elif_head es o) = opener_of_elifs es
  opener_of_head (else_head es l) = opener_of_elifs es

  -- `is_ignoring t`: an ignoring section is open: one whose first directive is ignoring.
  abbrev pub is_ignoring : Tree L → Bool
  is_ignoring (closed ns) = false
  is_ignoring (open_section ns h t) = (opener_of_head h).ignoring || is_ignoring t

  -- `innermost t`: the first directive of the innermost open section, if any.
  abbrev pub innermost : Tree L → Option (Opener L)
  innermost (closed ns) = None
  innermost (open_section ns h (closed b)) = Some (opener_of_head h)
  innermost (open_section ns h (open_section ms k t)) = innermost (open_section ms k t)

-- `opener_with_line f o`: the opener `o` with `f` applied to its line.
abbrev pub opener_with_line : {L M : Type 0} → (L → M) → Opener L → Opener M
opener_with_line f o = record { line = f o.line; cond = o.cond; ignoring = o.ignoring }

-- `item_with f x`: the item `x` with `f` applied to its line.
abbrev pub item_with : {L M : Type 0} → (L → M) → Item L → Item M
item_with f (text_line l) = text_line (f l)
item_with f (if_line o) = if_line (opener_with_line f o)
item_with f (elif_line o) = elif_line (opener_with_line f o)
item_with f (else_line l) = else_line (f l)
item_with f (endif_line l) = endif_line (f l)

module _ {L M : Type 0} (f : L → M) where
  abbrev mutual
    -- `with_lines ns`: the nodes `ns` with `f` applied to each line.
    pub with_lines : Nodes L → Nodes M
    with_lines nothing = nothing
    with_lines (text ns l) = text (with_lines ns) (f l)
    with_lines (section ns gs e) = section (with_lines ns) (groups_with_lines gs) (f e)

    -- `groups_with_lines gs`: the groups `gs` with `f` applied to each line.
    pub groups_with_lines : Groups L → Groups M
    groups_with_lines (conditional es) = conditional (elifs_with_lines es)
    groups_with_lines (otherwise es l ns) = otherwise (elifs_with_lines es) (f l) (with_lines ns)

    -- `elifs_with_lines es`: the groups `es` with `f` applied to each line.
    pub elifs_with_lines : Elifs L → Elifs M
    elifs_with_lines (first o ns) = first (opener_with_line f o) (with_lines ns)
    elifs_with_lines (elif es o ns) =
        elif (elifs_with_lines es) (opener_with_line f o) (with_lines ns)
