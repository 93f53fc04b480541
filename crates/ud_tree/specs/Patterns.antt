-- Patterns: which names a shell pattern matches (POSIX XCU 2.13).
--
--   set_from text b          a set that isn't negated, by the text after its bracket
--   set_after text b         a set, by the text after its bracket
--   after_part pattern b     the pattern after its first part, if that part matches the byte `b`
--   Matches pattern name     the pattern matches the name
--
-- A name is bytes. `*` matches any bytes, `?` one byte, and `[..]` one byte of a set, or one not in
-- it if `!` or `^` comes first. A `]` that comes first in a set is in it, and `-` between two bytes
-- means all from the first to the second. A bracket without an end is an ordinary byte, and so is
-- one after a backslash.
--
-- Differences from POSIX: there are no character classes, `^` means the same as `!`, and a leading
-- period isn't special. A backslash in a set is an ordinary byte.
--
-- Example: `*.[ch]` matches `a.c`, and `[!a]?` matches `bc`.
use Rattle.std.specs.Prelude.{◌≡◌, ℕ, List, [], ◌∷◌, ◌++◌, Bool, true, false, not, ◌&&◌, ◌||◌, ◌==◌}
use Rattle.std.specs.Prelude.{Option, Some, None, if◌then◌else◌, nat_le, zero, suc, length}

-- `within low high b`: the byte `b` is one from `low` to `high`.
abbrev pub within : ℕ → ℕ → ℕ → Bool
within low high b = nat_le low b && nat_le b high

-- `SetTest`: whether a set has a byte, and the pattern after the set.
pub record SetTest : Type 0 where
  pub has : Bool
  pub after : List ℕ

-- `ends_set first c`: the byte `c` ends a set. A `]` does, unless it comes first.
abbrev pub ends_set : Bool → ℕ → Bool
ends_set first c = c == 93 && not first

-- `item_high c rest`: the last byte of the range that begins with `c`, or `c` itself.
abbrev pub item_high : ℕ → List ℕ → ℕ
item_high c [] = c
item_high c (d ∷ []) = c
item_high c (d ∷ e ∷ rest) = if d == 45 && not (e == 93) then e else c

-- `item_after rest`: what follows this range, or this byte.
abbrev pub item_after : List ℕ → List ℕ
item_after [] = []
item_after (d ∷ []) = d ∷ []
item_after (d ∷ e ∷ rest) = if d == 45 && not (e == 93) then rest else d ∷ e ∷ rest

-- `set_within n first found text b`: the set goes on with at most the first `n` bytes of `text`,
-- and begins there if `first`. `found`: it had `b` before. None if it has no end.
abbrev pub set_within : ℕ → Bool → Bool → List ℕ → ℕ → Option SetTest
set_within zero first found text b = None
set_within (suc n) first found [] b = None
set_within (suc n) first found (c ∷ rest) b =
    if ends_set first c then Some (record { has = found; after = rest })
    else set_within n false (found || within c (item_high c rest) b) (item_after rest) b

-- `set_from text b`: the set that begins with `text` and isn't negated, tested with the byte `b`.
abbrev pub set_from : List ℕ → ℕ → Option SetTest
set_from text b = set_within (length text) true false text b

-- `opposite t`: the test of a set of all other bytes.
abbrev pub opposite : Option SetTest → Option SetTest
opposite None = None
opposite (Some t) = Some (record { has = not t.has; after = t.after })

-- `negates c`: a set that begins with the byte `c` has all bytes except those that follow.
abbrev pub negates : ℕ → Bool
negates c = c == 33 || c == 94

-- `set_after text b`: the set that begins with `text`, tested with the byte `b`.
abbrev pub set_after : List ℕ → ℕ → Option SetTest
set_after [] b = None
set_after (c ∷ rest) b = if negates c then opposite (set_from rest b)
    else set_from (c ∷ rest) b

-- `after_byte c rest b`: `rest`, if the byte `c` before it is `b`.
abbrev pub after_byte : ℕ → List ℕ → ℕ → Option (List ℕ)
after_byte c rest b = if c == b then Some rest else None

-- `after_set set rest b`: the pattern after the set, if it has `b`. If there is no set, the bracket
-- before `rest` is an ordinary byte.
abbrev pub after_set : Option SetTest → List ℕ → ℕ → Option (List ℕ)
after_set None rest b = after_byte 91 rest b
after_set (Some t) rest b = if t.has then Some t.after else None

-- `after_backslash rest b`: the pattern after the byte that follows a backslash, if it is `b`. If
-- none follows, the backslash is an ordinary byte.
abbrev pub after_backslash : List ℕ → ℕ → Option (List ℕ)
after_backslash [] b = after_byte 92 [] b
after_backslash (c ∷ rest) b = after_byte c rest b

-- `after_part pattern b`: the pattern after its first part, if that part matches the byte `b`. A
-- `*` isn't such a part.
abbrev pub after_part : List ℕ → ℕ → Option (List ℕ)
after_part [] b = None
after_part (c ∷ rest) b =
    if c == 42 then None
    else if c == 63 then Some rest
    else if c == 91 then after_set (set_after rest b) rest b
    else if c == 92 then after_backslash rest b
    else after_byte c rest b

-- `Matches pattern name`: the pattern matches the name.
pub data Matches : List ℕ → List ℕ → Type 0 where
  -- Both have ended.
  at_end : Matches [] []
  -- A `*` matches some first bytes, and the rest of the pattern matches the others.
  star : {pattern name : List ℕ} (bytes rest : List ℕ) → name ≡ bytes ++ rest →
      Matches pattern rest → Matches (42 ∷ pattern) name
  -- The first part matches the first byte, and the rest of the pattern matches the others.
  part : {pattern name : List ℕ} (b : ℕ) (after : List ℕ) → after_part pattern b ≡ Some after →
      Matches after name → Matches pattern (b ∷ name)
