-- The position of a keyword is within the masked line, and so within the line's body.
use Rattle.std.proofs.Common.{◌≡◌, ℕ, ◌+◌, ◌≤◌, List, [], ◌∷◌, length, Bool, Option, Some, None, if◌then◌else◌, refl, arith, rules}
use Rattle.ud_model.specs.text.Bytes.{leading_word, skip_word}
use Rattle.ud_model.specs.text.Scans.{Scan}
use Rattle.ud_model.specs.sections.Directives.{Content, directive, text, content_of, skip_white_and_hash, skip_hash, content_after_hash, directive_at}
use Rattle.ud_model.specs.answer.Printing.{keyword_in}
use Rattle.ud_model.specs.declared.kind.Kind.{Kind}
use Rattle.ud_model.proofs.text.ByteLemmas.{length-skip_white}

-- A leading word and the rest after it are the text.
pub word_and_rest : (t : List ℕ) → length (leading_word t) + length (skip_word t) ≡ length t
word_and_rest [] = refl
word_and_rest (b ∷ bs) = grind (arith, word_and_rest bs)

pub sign_le : (t rest : List ℕ) → skip_hash t ≡ Some rest → length rest ≤ length t
sign_le t rest e = grind arith

-- In this content the keyword ends within so many bytes, and the bytes after it aren't longer.
abbrev pub Lies : ℕ → Content → Type 0
Lies n (directive d) = (d.keyword.at + d.keyword.len ≤ n) × (length d.after ≤ n)
Lies n _ = Unit {0}

lies_fresh : (scan : Scan) (fresh : Bool) (rest : List ℕ) (k : Option Kind) → length rest ≤ length scan.masked →
    Lies (length scan.masked) (if fresh then directive_at scan rest k else text)
lies_fresh scan fresh rest k h = grind (arith, word_and_rest)

lies_after : (scan : Scan) (sign : Option (List ℕ)) → skip_white_and_hash scan.masked ≡ sign → Lies (length scan.masked) (content_after_hash scan sign)
lies_after scan None e = tt
lies_after scan (Some rest) e = search (rules, length-skip_white, sign_le, lies_fresh)

-- The keyword lies within the masked line.
pub keyword_lies : (scan : Scan) → (keyword_in (content_of scan)).at + (keyword_in (content_of scan)).len ≤ length scan.masked
keyword_lies scan = grind (arith, lies_after)
