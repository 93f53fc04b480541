-- Hunks: the hunks of a unified diff (POSIX XCU, diff -u), as data.
--
-- Example: a kept line `a`, a removed one `b` and an added one `c` have the old lines `a` and `b`,
-- and the new lines `a` and `c`.
use Rattle.std.specs.Prelude.{ℕ, List, map, filter, Bool, true, false}
use Rattle.ud_passes.specs.declared.diff.line.Sign.{Sign}
use Rattle.ud_passes.specs.declared.diff.line.Sign.TheVariants.{Kept, Removed, Added}

-- A line of a text, with its ending, after its sign.
pub record SignedLine : Type 0 where
  pub sign : Sign
  pub bytes : List ℕ

-- A hunk: the numbers of lines before it in the old and the new text, and its lines.
pub record Hunk : Type 0 where
  pub old_before : ℕ
  pub new_before : ℕ
  pub lines : List SignedLine

-- `is_old sign`: a line with this sign is in the old text.
abbrev pub is_old : Sign → Bool
is_old Kept = true
is_old Removed = true
is_old Added = false

-- `is_new sign`: a line with this sign is in the new text.
abbrev pub is_new : Sign → Bool
is_new Kept = true
is_new Removed = false
is_new Added = true

-- `is_change sign`: a line with this sign is in only one of the texts.
abbrev pub is_change : Sign → Bool
is_change Kept = false
is_change Removed = true
is_change Added = true

-- `old_lines ls`: the lines of the old text among the signed lines `ls`.
abbrev pub old_lines : List SignedLine → List (List ℕ)
old_lines ls = map (λ l. l.bytes) (filter (λ l. is_old l.sign) ls)

-- `new_lines ls`: the lines of the new text among the signed lines `ls`.
abbrev pub new_lines : List SignedLine → List (List ℕ)
new_lines ls = map (λ l. l.bytes) (filter (λ l. is_new l.sign) ls)

-- `turned_sign sign`: the sign if old and new are swapped.
abbrev pub turned_sign : Sign → Sign
turned_sign Kept = Kept
turned_sign Removed = Added
turned_sign Added = Removed

-- `turned_line l`: the line `l` with its sign turned.
abbrev pub turned_line : SignedLine → SignedLine
turned_line l = record { sign = turned_sign l.sign; bytes = l.bytes }

-- `turned h`: the hunk `h` with old and new swapped.
abbrev pub turned : Hunk → Hunk
turned h = record {
  old_before = h.new_before;
  new_before = h.old_before;
  lines = map turned_line h.lines;
}
