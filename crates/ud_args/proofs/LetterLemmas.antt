-- Letters of a text in UTF-8, and the options that they give.
use Rattle.std.proofs.Common.{◌≡◌, ◌∙◌, ℕ, ◌<◌, List, [], ◌∷◌, ◌++◌, ◌+◌, length, refl, chars, arith, ◌≢◌, suc, add-one, ap, sym, map, drop, get_or, string_bytes, String, Global}
use Rattle.std.proofs.Math.Seq.{drop-cons}
use Rattle.std.specs.Str.{IsUtf8, encode_utf8_all}
use Rattle.std.specs.Char.{encode_utf8}
use Rattle.std.proofs.lemmas.Grind.{common_steps}
use Rattle.std.proofs.lemmas.Str.{chars-nil, chars_past_char, encodes-chars, char_from_byte}
use Rattle.std.proofs.StrCases.{chars_of_empty}
use Rattle.ud_model.specs.answer.CommandLine.{option_letters}
use Rattle.ud_args.specs.CommandLines.{Parsed, option, option_then}

option_then-cons : (c n : ℕ) (cs : List ℕ) (next rest : List Parsed) → 0 < length (encode_utf8_all cs)
    → option_then c n cs next rest ≡ option c n (encode_utf8_all cs) ∷ rest
option_then-cons c n cs next rest e = grind arith

-- the bytes after a letter are its argument, if there are any
pub option_then-bytes : (c n : ℕ) (bytes : List ℕ) (next rest : List Parsed) → IsUtf8 bytes → 0 < length bytes
    → option_then c n (chars bytes) next rest ≡ option c n bytes ∷ rest
option_then-bytes c n bytes next rest u e = grind (arith, option_then-cons, encodes-chars)

-- a text that begins with another letter than `-` is an operand
pub option_letters-other : (bytes rest : List ℕ) (c : ℕ) → bytes ≡ encode_utf8 c ++ rest → c ≢ 45 → option_letters bytes ≡ []
option_letters-other [] rest c e h = refl
option_letters-other (b ∷ bs) rest c e h =
    grind (arith, common_steps, (λ (k : b ≡ 45). h (char_from_byte (b ∷ bs) rest c e (omega (arith, k)) (omega arith) ∙ k)))

-- the words from an index on are the one there and those after it
pub texts-next : (words : List (String Global)) (n : ℕ) (w : String Global) → n < length words → w ≡ get_or words n w
    → map string_bytes (drop n words) ≡ string_bytes w ∷ map string_bytes (drop (n + 1) words)
texts-next words n w h e = rw (add-one, drop-cons words n w h) (ap (λ (x : String Global). string_bytes x ∷ map string_bytes (drop (suc n) words)) (sym e))

-- the words after one, and the letters after one
pub ruleset word_steps =
    (common_steps, chars-nil, chars_of_empty, chars_past_char, option_then-bytes, texts-next)
