-- ParseLemmas: what follows the `#` of a line is no longer than the line.
use Rattle.std.proofs.Common.{◌≡◌, ◌≤◌, ℕ, List, length, Some, arith}
use Rattle.ud_model.specs.text.Bytes.{skip_white}
use Rattle.ud_model.specs.sections.Directives.{skip_white_and_hash}
use Rattle.ud_model.proofs.text.ByteLemmas.{length-skip_white}

-- nor is it without its leading white space
pub length-skip_white_and_hash : (masked behind rest : List ℕ) → skip_white_and_hash masked ≡ Some behind → rest ≡ skip_white behind → length rest ≤ length masked
length-skip_white_and_hash masked behind rest e is =
    grind (arith, length-skip_white masked, length-skip_white behind)
