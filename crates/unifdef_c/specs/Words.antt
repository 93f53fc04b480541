-- Words: the arguments in a block of bytes, each ended by a zero byte.
use Rattle.std.specs.Prelude.{ℕ, List, [], ◌∷◌, ◌++◌, ◌==◌, if◌then◌else◌}
use Rattle.std.specs.Str.{IsUtf8}

-- `onto_first b words`: `words` with the byte `b` before the first of them.
abbrev pub onto_first : ℕ → List (List ℕ) → List (List ℕ)
onto_first b [] = (b ∷ []) ∷ []
onto_first b (w ∷ ws) = (b ∷ w) ∷ ws

-- `words_of bytes`: the words of the block `bytes`. A zero byte ends each word; the last one may
-- lack it, if it isn't empty.
abbrev pub words_of : List ℕ → List (List ℕ)
words_of [] = []
words_of (b ∷ bs) = if b == 0 then [] ∷ words_of bs else onto_first b (words_of bs)

-- `AreUtf8 words`: each word is UTF-8.
abbrev pub AreUtf8 : List (List ℕ) → Type 0
AreUtf8 [] = Unit {0}
AreUtf8 (w ∷ ws) = IsUtf8 w × AreUtf8 ws

-- `block_of words`: the words, each with a zero byte after it.
abbrev pub block_of : List (List ℕ) → List ℕ
block_of [] = []
block_of (w ∷ ws) = (w ++ 0 ∷ []) ++ block_of ws
