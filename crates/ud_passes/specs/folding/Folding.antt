-- Folding: what the pass that folds a text appends.
use Rattle.std.specs.Prelude.{◌≡◌, ℕ, List, [], ◌∷◌, ◌++◌, Bool, true, Option, IfSome}
use Rattle.std.specs.List.{flat_map}
use Rattle.ud_model.specs.text.Scans.{Reading}
use Rattle.ud_model.specs.text.Splicing.{c_run_of}
use Rattle.ud_model.specs.text.Scanning.{joins}
use Rattle.ud_simplified.specs.FoldedTexts.{continued, folded_bytes, folded_lines, restored_line}
use Rattle.ud_model.specs.declared.line.Line.{Line as CodeLine}
use Rattle.ud_model.specs.declared.scan.Scan.{Scan as CodeScan}
use Rattle.ud_model.specs.declared.kind.Mode.TheVariants.{C}
use Rattle.ud_passes.specs.Walks.{Walked}
use Rattle.ud_passes.specs.folding.LogicalLines.{plain_lines, c_reading, HasItsSplice, IsGroup}
use Rattle.ud_passes.specs.declared.folding.logical.Last.{Last}
use Rattle.ud_passes.specs.declared.folding.logical.LogicalLine.{LogicalLine}
use Rattle.ud_passes.specs.declared.walk.Walk.{Walk}

-- `FollowsBy b rs`: the line before joins the first of the lines `rs`, if any, exactly if `b`.
abbrev pub FollowsBy : Bool → List Reading → Type 0
FollowsBy b [] = Unit {0}
FollowsBy b (r ∷ rs) = r.scan.joins_before ≡ b

-- `rest_from group rs`: the folded lines `group` and those of the lines `rs` that continue them,
-- and the other folded lines. Without a group, the lines that continue the line before stay.
abbrev pub rest_from : List Reading → List Reading → List ℕ
rest_from [] rs = plain_lines (continued rs) ++ folded_lines rs
rest_from (g ∷ group) rs = folded_bytes (g ∷ group ++ continued rs) ++ folded_lines rs

-- `FoldsReading r group old out l b new`: the line `r` was taken after the lines `group`. Bytes
-- were appended to `old`, and `l` and `b` have the pending lines.
pub record FoldsReading (r : Reading) (group : List Reading) (old : List ℕ) (l : LogicalLine)
    (b : Option Last) (new : List ℕ) : Type 0 where
  pub more : List ℕ
  pub appended : new ≡ old ++ more
  pub next : List Reading
  pub is_group : IsGroup l b next
  pub goes_on : IfSome b (λ _. r.scan.joins_after ≡ true)
  pub rest : (rs : List Reading) → FollowsBy r.scan.joins_after rs →
      rest_from group (r ∷ rs) ≡ more ++ rest_from next rs

-- `FoldsLine line scan l b old m c new`: the line was taken after those that go on, if `l` and `b`
-- have some.
abbrev pub FoldsLine : CodeLine → CodeScan → LogicalLine → Option Last → List ℕ → LogicalLine →
    Option Last → List ℕ → Type 0
FoldsLine line scan l b old m c new = (n : ℕ) (group : List Reading) → IsGroup l b group →
    IfSome b (λ _. scan.joins_before ≡ true) → HasItsSplice line scan →
    FoldsReading (c_reading line scan n) group old m c new

-- `Folded text start l b walk out`: the folded lines before the walk's place were appended to
-- `start`, except those of the pending logical line.
pub record Folded (text start : List ℕ) (l : LogicalLine) (b : Option Last) (walk : Walk)
    (out : List ℕ) : Type 0 where
  pub read : List Reading
  pub walked : Walked C text read walk.rest.now walk.scanner
  pub group : List Reading
  pub is_group : IsGroup l b group
  pub goes_on : IfSome b (λ _. joins (c_run_of read) ≡ true)
  pub done : List ℕ
  pub list_is : out ≡ start ++ done
  pub rest : (rs : List Reading) → FollowsBy (joins (c_run_of read)) rs →
      folded_lines (read ++ rs) ≡ done ++ rest_from group rs

-- `Restored text start walk out`: the lines before the walk's place were appended to `start`, with
-- newlines for vertical tabs.
pub record Restored (text start : List ℕ) (walk : Walk) (out : List ℕ) : Type 0 where
  pub read : List Reading
  pub walked : Walked C text read walk.rest.now walk.scanner
  pub list_is : out ≡ start ++ flat_map (λ (r : Reading). restored_line r.line) read
