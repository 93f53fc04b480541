-- Scripts: the lines of two texts with their signs, as far as read.
--
-- Example: in a script of ten lines whose sixth line changes, the first hunk begins at the position
-- 2 and ends at 9.
use Rattle.std.specs.Prelude.{◌≡◌, ℕ, ◌+◌, ◌-◌, ◌*◌, ◌≤◌, List, [], ◌∷◌, ◌++◌, map, take, drop}
use Rattle.std.specs.Prelude.{length, true, min, max, All, AllPairs}
use Rattle.ud_model.specs.text.Lines.{texts_of}
use Rattle.ud_passes.specs.declared.diff.line.DiffLine.{DiffLine}
use Rattle.ud_passes.specs.declared.diff.script.Script.{Script}
use Rattle.std.specs.List.{flat_map}
use Rattle.ud_passes.specs.diff.Hunks.{SignedLine, Hunk, old_lines, new_lines, is_change}
use Rattle.ud_passes.specs.diff.DiffTexts.{hunk_text}
use Rattle.ud_passes.specs.diff.Contexts.{context, AreKept, AreChanges, HasContext, IsBefore}
use Rattle.ud_passes.specs.diff.Patching.{Turns}

-- `signed line`: the line with its sign and its bytes.
abbrev pub signed : DiffLine → SignedLine
signed line = record { sign = line.sign; bytes = line.bytes.now }

-- `signed_lines lines`: the lines with their signs and their bytes.
abbrev pub signed_lines : List DiffLine → List SignedLine
signed_lines lines = map signed lines

-- `Extends s t`: `t` is `s` after some lines were taken from the rest of either text.
pub record Extends (s t : Script) : Type 0 where
  pub taken : List DiffLine
  pub lines : t.lines.items ≡ s.lines.items ++ taken
  pub old : texts_of s.old_rest.now ≡ old_lines (signed_lines taken) ++ texts_of t.old_rest.now
  pub new : texts_of s.new_rest.now ≡ new_lines (signed_lines taken) ++ texts_of t.new_rest.now

-- `IsScript old new lines`: the old ones among `lines` are the lines of the text `old`, and the new
-- ones the lines of `new`.
pub record IsScript (old new : List ℕ) (lines : List SignedLine) : Type 0 where
  pub old_are : old_lines lines ≡ texts_of old
  pub new_are : new_lines lines ≡ texts_of new

-- `hunk_of old_before new_before lines`: the hunk of these lines.
abbrev pub hunk_of : ℕ → ℕ → List DiffLine → Hunk
hunk_of old_before new_before lines = record {
  old_before = old_before;
  new_before = new_before;
  lines = signed_lines lines;
}

-- `AppendsHunks lines old new`: the printed form of hunks is appended to the bytes `old`, which are
-- then `new`. The hunks turn the old ones of the lines into the new ones. Each hunk has changes and
-- their contexts, and ends before later ones begin.
pub record AppendsHunks (lines : List SignedLine) (old new : List ℕ) : Type 0 where
  pub hunks : List Hunk
  pub printed : new ≡ old ++ flat_map hunk_text hunks
  pub turns : Turns hunks (old_lines lines) (new_lines lines)
  pub in_context : All (HasContext (old_lines lines) (new_lines lines)) hunks
  pub apart : AllPairs IsBefore hunks

-- `between i j lines`: the lines from the position `i` up to `j`.
abbrev pub between : ℕ → ℕ → List DiffLine → List SignedLine
between i j lines = signed_lines (take (j - i) (drop i lines))

-- `BeginsWithChange lines`: the first line is in only one of the texts.
abbrev pub BeginsWithChange : List DiffLine → Type 0
BeginsWithChange [] = ⊥
BeginsWithChange (l ∷ ls) = is_change l.sign ≡ true

-- `gap`: the number of kept lines that ends a hunk, one more than two contexts have.
abbrev pub gap : ℕ
gap = 2 * context + 1

-- `IsNextHunk lines from start end`: from the position `from` on, the next changes are from `first`
-- up to `last`. Kept lines come before `first`; after `last` comes a gap, or kept lines up to the
-- end. From `start` up to `end` are the changes and their contexts.
pub record IsNextHunk (lines : List DiffLine) (from start end : ℕ) : Type 0 where
  pub first : ℕ
  pub last : ℕ
  pub after : from ≤ first
  pub within : last ≤ length lines
  pub kept : AreKept (between from first lines)
  pub changed : AreChanges (between first last lines)
  pub later : AreKept (between last (last + gap) lines)
  pub starts : start ≡ max from (first - context)
  pub ends : end ≡ min (length lines) (last + context)
