-- One byte more of a path, and how far its last slash is.
use Rattle.std.proofs.Common.{◌≡◌, ℕ, ◌+◌, List, [], ◌∷◌, ◌++◌, length, ◌==◌, cond, arith, take, get_or, ◌<◌, ◌≢◌}
use Rattle.std.proofs.lemmas.List.{take_more, length-take}
use Rattle.std.proofs.lemmas.Grind.{common_steps}
use Rattle.ud_tree.specs.Paths.{directory_len}

-- A slash ends the directory, and no other byte does.
pub directory_len-append : (path : List ℕ) (b : ℕ) →
    directory_len (path ++ b ∷ []) ≡ cond (b == 47) (length path + 1) (directory_len path)
directory_len-append [] b = grind arith
directory_len-append (a ∷ path) b = grind (arith, directory_len-append path b)

-- A slash at `i` ends the directory there.
pub directory_len_slash : (path : List ℕ) (i : ℕ) → i < length path → get_or path i 0 ≡ 47 →
    directory_len (take (i + 1) path) ≡ i + 1
directory_len_slash path i within is =
    grind (arith, take_more path i 0 within, directory_len-append (take i path) (get_or path i 0), length-take i path)

-- Another byte at `i` doesn't change the directory.
pub directory_len_other : (path : List ℕ) (i : ℕ) → i < length path → get_or path i 0 ≢ 47 →
    directory_len (take (i + 1) path) ≡ directory_len (take i path)
directory_len_other path i within is = grind (arith, common_steps, take_more, directory_len-append)

-- a byte ends the directory or doesn't
pub ruleset directory_bytes = (directory_len_slash, directory_len_other)
