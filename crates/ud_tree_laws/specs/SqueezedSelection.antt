-- SqueezedSelection: what C selects of an output, and of its squeezed text.
use Rattle.std.specs.Prelude.{◌≡◌, ℕ, List}
use Rattle.ud_model.specs.text.Scans.{Reading}
use Rattle.ud_model.specs.sections.Tree.{Nodes, closed}
use Rattle.ud_model.specs.sections.Items.{Options}
use Rattle.ud_model.specs.laws.Rereading.{IsTreeOf}
use Rattle.ud_model.specs.laws.Worlds.{World, selected, truths_of}
use Rattle.ud_laws.specs.output.InsertedLines.{IsBlankLine}
use Rattle.ud_laws.specs.output.InsertedNodes.{NodesWithInserted, LinesWithInserted}

-- `SelectsButBlanks o squeezed ns`: `squeezed` has a tree, and `ns` are its nodes with blank lines
-- inserted. If each opener has the same truth in both, C selects the same lines of both, and blank
-- ones of `ns`.
pub record SelectsButBlanks (o : Options) (squeezed : List ℕ) (ns : Nodes Reading) : Type 0 where
  pub nodes : Nodes Reading
  pub is_tree : IsTreeOf o squeezed (closed nodes)
  pub inserted : NodesWithInserted IsBlankLine nodes ns
  pub selects : (v w : World Reading) → truths_of w ns ≡ truths_of v nodes →
      LinesWithInserted IsBlankLine (selected v nodes) (selected w ns)
