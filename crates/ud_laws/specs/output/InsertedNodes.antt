-- Inserted nodes: the tree of an output under `-b` or `-n`, beside the tree of the output without
-- them.
-- C11 6.10: a blank line or a `#line` neither begins nor ends a section.
--
-- Example: under `-n -UA` the section of X in `#if X`, `#ifdef A`, `#endif`, `y`, `#endif` has the
-- text lines `#line 4` and `y`.
use Rattle.std.specs.Prelude.{◌≡◌, ℕ, List, [], ◌∷◌, ◌⊎◌, map}
use Rattle.ud_model.specs.text.Lines.{text_of}
use Rattle.ud_model.specs.text.Scans.{Reading}
use Rattle.ud_model.specs.sections.Tree.{Opener, Nodes, Groups, Elifs, nothing, text, section}
use Rattle.ud_model.specs.sections.Tree.{conditional, otherwise, first, elif, closed}
use Rattle.ud_model.specs.sections.Items.{Options}
use Rattle.ud_model.specs.laws.Rereading.{IsTreeOf, line_bytes, selected_bytes}
use Rattle.ud_laws.specs.output.CSelection.{IsCPair}
use Rattle.ud_model.specs.laws.Worlds.{World, selected, truths_of}
use Rattle.ud_laws.specs.output.InsertedLines.{IsBlankLine, IsNumberLine}

-- `IsSame r s`: both lines have the same bytes and the same scan.
pub record IsSame (r s : Reading) : Type 0 where
  pub bytes : text_of s.line ≡ text_of r.line
  pub scanned : s.scan ≡ r.scan

-- `IsSameOpener o p`: both openers have the same bytes and the same scan, and are decided alike.
pub record IsSameOpener (o p : Opener Reading) : Type 0 where
  pub line : IsSame o.line p.line
  pub cond : p.cond ≡ o.cond
  pub ignoring : p.ignoring ≡ o.ignoring

-- `IsInserted d`: `d` is a blank line by itself, or a `#line`.
abbrev pub IsInserted : Reading → Type 0
IsInserted d = IsBlankLine d ⊎ ((n : ℕ) × IsNumberLine n d)

-- Below, `IsPut d` says that the line `d` may be inserted.
module _ (IsPut : Reading → Type 0) where
  mutual
    -- `NodesWithInserted ns ms`: `ms` are the nodes `ns` with text lines inserted.
    pub data NodesWithInserted : Nodes Reading → Nodes Reading → Type 0 where
      no_nodes : NodesWithInserted nothing nothing
      same_text : {ns ms : Nodes Reading} {r s : Reading} → NodesWithInserted ns ms → IsSame r s →
          NodesWithInserted (text ns r) (text ms s)
      inserted_text : {ns ms : Nodes Reading} {d : Reading} → NodesWithInserted ns ms → IsPut d →
          NodesWithInserted ns (text ms d)
      same_section : {ns ms : Nodes Reading} {gs hs : Groups Reading} {r s : Reading} →
          NodesWithInserted ns ms → GroupsWithInserted gs hs → IsSame r s →
          NodesWithInserted (section ns gs r) (section ms hs s)

    -- `GroupsWithInserted gs hs`: `hs` are the groups `gs` with text lines inserted.
    pub data GroupsWithInserted : Groups Reading → Groups Reading → Type 0 where
      all_conditional : {es fs : Elifs Reading} → ElifsWithInserted es fs →
          GroupsWithInserted (conditional es) (conditional fs)
      last_otherwise : {es fs : Elifs Reading} {r s : Reading} {ns ms : Nodes Reading} →
          ElifsWithInserted es fs → IsSame r s → NodesWithInserted ns ms →
          GroupsWithInserted (otherwise es r ns) (otherwise fs s ms)

    -- `ElifsWithInserted es fs`: `fs` are the groups `es` with text lines inserted.
    pub data ElifsWithInserted : Elifs Reading → Elifs Reading → Type 0 where
      same_first : {o p : Opener Reading} {ns ms : Nodes Reading} → IsSameOpener o p →
          NodesWithInserted ns ms → ElifsWithInserted (first o ns) (first p ms)
      same_elif : {es fs : Elifs Reading} {o p : Opener Reading} {ns ms : Nodes Reading} →
          ElifsWithInserted es fs → IsSameOpener o p → NodesWithInserted ns ms →
          ElifsWithInserted (elif es o ns) (elif fs p ms)

  -- `LinesWithInserted rs ss`: `ss` are the lines `rs` with lines inserted.
  pub data LinesWithInserted : List Reading → List Reading → Type 0 where
    no_lines : LinesWithInserted [] []
    same_line : {r s : Reading} {rs ss : List Reading} → IsSame r s → LinesWithInserted rs ss →
        LinesWithInserted (r ∷ rs) (s ∷ ss)
    inserted_line : {d : Reading} {rs ss : List Reading} → IsPut d → LinesWithInserted rs ss →
        LinesWithInserted rs (d ∷ ss)

-- `SelectsWithInserted o text us v ls`: `text` has a tree of the nodes `us` with lines inserted. If
-- each of its openers has the truth that `v` gives it in `us`, C selects lines with the bytes `ls`,
-- and inserted lines.
pub record SelectsWithInserted (o : Options) (text : List ℕ) (us : Nodes Reading)
    (v : World Reading) (ls : List (List ℕ)) : Type 0 where
  pub nodes : Nodes Reading
  pub is_tree : IsTreeOf o text (closed nodes)
  pub inserted : NodesWithInserted IsInserted us nodes
  pub selects : (x : World Reading) → truths_of x nodes ≡ truths_of v us →
      (rs : List Reading) × (map line_bytes rs ≡ ls) ×
      LinesWithInserted IsInserted rs (selected x nodes)

-- `StillSelects o input output numbered`: whatever truths C may give the conditions of the input,
-- the text `numbered` selects the lines of the input, with lines inserted. `output` is the text
-- without these lines.
abbrev pub StillSelects : Options → List ℕ → List ℕ → List ℕ → Type 0
StillSelects o input output numbered = (ns us : Nodes Reading) → IsTreeOf o input (closed ns) →
    IsTreeOf o output (closed us) → (w v : World Reading) → IsCPair o w ns v us →
    SelectsWithInserted o numbered us v (selected_bytes w ns)
