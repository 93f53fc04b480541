-- Contexts: the lines that hunks show around changes (POSIX XCU, diff -u and patch).
--
-- Example: of ten lines, the hunk that removes the sixth one begins with the third line and ends
-- with the ninth. The hunk that removes the second line begins with the first one and ends with the
-- fifth. One hunk removes the second and the ninth line, since their contexts meet.
use Rattle.std.specs.Prelude.{◌≡◌, ℕ, ◌+◌, ◌*◌, ◌<◌, ◌≤◌, List, [], ◌∷◌, ◌++◌, length, true, false}
use Rattle.std.specs.Prelude.{All}
use Rattle.ud_passes.specs.diff.Hunks.{SignedLine, Hunk, old_lines, new_lines, is_change}

-- `context`: the number of kept lines shown before changes, and after them.
abbrev pub context : ℕ
context = 3

-- `IsKept l`: the line is in both texts.
abbrev pub IsKept : SignedLine → Type 0
IsKept l = is_change l.sign ≡ false

-- `AreKept ls`: each of the lines is in both texts.
abbrev pub AreKept : List SignedLine → Type 0
AreKept ls = All IsKept ls

-- `AreChanges ls`: the lines begin and end with a change, and from one change to the next there are
-- at most as many kept lines as two contexts have.
pub data AreChanges : List SignedLine → Type 0 where
  one : (l : SignedLine) → is_change l.sign ≡ true → AreChanges (l ∷ [])
  more : (ls kept : List SignedLine) (l : SignedLine) → AreChanges ls → AreKept kept →
      length kept ≤ 2 * context → is_change l.sign ≡ true → AreChanges (ls ++ (kept ++ l ∷ []))

-- `IsContext ls AtEdge`: the lines are kept, and as many as a context has; there may be fewer if
-- `AtEdge` is true.
pub record IsContext (ls : List SignedLine) (AtEdge : Type 0) : Type 0 where
  pub kept : AreKept ls
  pub few : length ls ≤ context
  pub fewer : length ls < context → AtEdge

-- `old_end h`: the number of lines of the old text before the hunk or in it.
abbrev pub old_end : Hunk → ℕ
old_end h = h.old_before + length (old_lines h.lines)

-- `new_end h`: the number of lines of the new text before the hunk or in it.
abbrev pub new_end : Hunk → ℕ
new_end h = h.new_before + length (new_lines h.lines)

-- `BeginsTexts h`: no line comes before the hunk.
abbrev pub BeginsTexts : Hunk → Type 0
BeginsTexts h = (h.old_before ≡ 0) × (h.new_before ≡ 0)

-- `EndsTexts old new h`: no line comes after the hunk in the texts with the lines `old` and `new`.
abbrev pub EndsTexts : List (List ℕ) → List (List ℕ) → Hunk → Type 0
EndsTexts old new h = (old_end h ≡ length old) × (new_end h ≡ length new)

-- `HasContext old new h`: the hunk has changes, and contexts before and after them. `old` and `new`
-- are the lines of both texts.
pub record HasContext (old new : List (List ℕ)) (h : Hunk) : Type 0 where
  pub before : List SignedLine
  pub changes : List SignedLine
  pub after : List SignedLine
  pub lines_are : h.lines ≡ before ++ (changes ++ after)
  pub changed : AreChanges changes
  pub begins : IsContext before (BeginsTexts h)
  pub ends : IsContext after (EndsTexts old new h)

-- `IsBefore h k`: the hunk `h` ends before `k` begins, with a line in between.
abbrev pub IsBefore : Hunk → Hunk → Type 0
IsBefore h k = (old_end h < k.old_before) × (new_end h < k.new_before)
