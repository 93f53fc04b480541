-- By a search of all bytes.
use Rattle.std.proofs.Common.{ℕ, ◌+◌, List, length, Option, Some, None, IfSome, IfNone, true, false}
use Rattle.memchr.specs.Find.{IsFirstByte, is_byte}
use Rattle.ud_text.specs.lines.LinesState.{UpToNewline}
use Rattle.ud_text.proofs.lemmas.lines.NewlineLemmas.{up_to_newline-found, up_to_newline-none}
use Rattle.ud_text.proofs.lines.find_newline.Goals as goal

found : (s : List ℕ) (r : Option ℕ) → IsFirstByte (is_byte 10) s r → IfSome r (λ at. UpToNewline s (at + 1) true)
found s None none = tt
found s (Some at) is = up_to_newline-found s at is.0 is.1

missed : (s : List ℕ) (r : Option ℕ) → IsFirstByte (is_byte 10) s r → IfNone r (UpToNewline s (length s) false)
missed s None none = up_to_newline-none s none
missed s (Some at) is = tt

pub returns-in-None-clause-found : goal.returns-in-None-clause-found
returns-in-None-clause-found c = found c.args.chunk.now c.memchr.result c.memchr.ensures

pub returns-in-None-clause-none : goal.returns-in-None-clause-none
returns-in-None-clause-none c = missed c.args.chunk.now c.memchr.result c.memchr.ensures
