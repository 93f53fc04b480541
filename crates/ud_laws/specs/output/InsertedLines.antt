-- Inserted lines: how the lines of an output under `-n` and `-b` are numbered and scanned.
-- C11 6.10.4p3: `#line n` makes n the number of the next line, and each further line counts on.
-- unifdef(1), `-n`, `-b`.
--
--   with_blank_renumber b n o   the same options, with `-b` and `-n` or without
--   KeepsNumbers args more      `more` mean what `args` mean, with `-b`, `-n` or both
--   AddsNumbers o input r s     `s` is the outcome with `-b`, `-n` or both, `r` the one without
--   AnswersNumbered args more input a c
--                               `c` is the answer with `-b`, `-n` or both, and `a` the one without
--   IsLone s                    the line is scanned by itself: nothing joins it to its neighbours,
--                               and it lies in no comment
--   IsPrinted j r s             `r` and `s` are the output for the judged line `j`: the same bytes
--                               and the same scan
--   Counted js rs ss n          `rs` is the output for the judged lines without `-b` and `-n`, and
--                               `ss` the output with one of them, both as they are read. Counting
--                               on in `ss`, and anew after each inserted `#line`, each line of
--                               `rs` has its own number in the input. The next line would have the
--                               number `n`.
--   CountsLines o js text numbered
--                               so are the lines of both texts counted
--
-- Example: under `-n -UA` the output for `x`, `#ifdef A`, `y`, `#endif`, `z` is `x`, `#line 5`,
-- `z`, and `z` has the number 5.
use Rattle.std.specs.Prelude.{◌≡◌, ℕ, suc, List, [], ◌∷◌, ◌++◌, Bool, true, false, codes, decimal}
use Rattle.std.specs.Prelude.{◌||◌, None}
use Rattle.ud_model.specs.text.Lines.{text_of}
use Rattle.ud_model.specs.text.Scans.{Reading, plain_scan}
use Rattle.ud_model.specs.sections.Pruning.{is_removed}
use Rattle.ud_model.specs.sections.Items.{Options, mode_by}
use Rattle.ud_model.specs.answer.CommandLine.{usage_fault, options_of}
use Rattle.ud_model.specs.answer.Printing.{Judged, piece_by}
use Rattle.ud_model.specs.answer.Outcomes.{Outcome, HasOutcome}
use Rattle.ud_model.specs.answer.Answer.{Answer, IsAnswer}
use Rattle.ud_model.specs.laws.Rereading.{IsPlain}
use Rattle.ud_model.specs.aids.ReadAs.{read_as}

-- `with_blank_renumber b n o`: the options `o`, with `-b` if `b` and `-n` if `n`, else without.
abbrev pub with_blank_renumber : Bool → Bool → Options → Options
with_blank_renumber b n o = record {
  settings = record o.settings { blank = b; renumber = n };
  table = o.table;
}

-- `KeepsNumbers args more`: the arguments `more` have no fault, and mean what `args` mean, with
-- `-b`, `-n` or both.
pub record KeepsNumbers (args more : List (List ℕ)) : Type 0 where
  pub blank : Bool
  pub renumber : Bool
  pub given : (blank || renumber) ≡ true
  pub options : options_of more ≡ with_blank_renumber blank renumber (options_of args)
  pub no_fault : usage_fault more ≡ None

-- `AddsNumbers o input r s`: under plain options the text has the outcome `r`, and with `-b`, `-n`
-- or both the outcome `s`. Spaces replace lost bytes.
pub record AddsNumbers (o : Options) (input : List ℕ) (r s : Outcome) : Type 0 where
  pub plain : IsPlain o
  pub padded : o.settings.unpadded ≡ false
  pub blank : Bool
  pub renumber : Bool
  pub some : (blank || renumber) ≡ true
  pub runs : HasOutcome o input r
  pub numbered : HasOutcome (with_blank_renumber blank renumber o) input s

-- `AnswersNumbered args more input a c`: `a` is the answer to plain arguments, and `c` the answer
-- to the arguments `more`, which add `-b`, `-n` or both.
pub record AnswersNumbered (args more : List (List ℕ)) (input : List ℕ) (a c : Answer) : Type 0
  where
    pub plain : IsPlain (options_of args)
    pub keeps : KeepsNumbers args more
    pub answer : IsAnswer args input a
    pub numbered : IsAnswer more input c

-- `IsLone s`: the line is scanned by itself, as in plain mode.
abbrev pub IsLone : Reading → Type 0
IsLone s = s.scan ≡ plain_scan s.line

-- `IsBlankLine s`: the line has an empty body, and is scanned by itself.
abbrev pub IsBlankLine : Reading → Type 0
IsBlankLine s = (s.line.body ≡ []) × IsLone s

-- `IsNumberLine n s`: the line is a `#line` that gives the next line the number `n`, and is scanned
-- by itself.
abbrev pub IsNumberLine : ℕ → Reading → Type 0
IsNumberLine n s = (s.line.body ≡ codes "#line " ++ decimal n) × IsLone s

-- `IsPrinted j r s`: `r` and `s` are the output for the judged line `j`, with the same bytes and
-- the same scan.
pub record IsPrinted (j : Judged) (r s : Reading) : Type 0 where
  pub stays : is_removed j.verdict ≡ false
  pub bytes : text_of r.line ≡ piece_by false j.verdict j.keyword j.line
  pub same : text_of s.line ≡ text_of r.line
  pub scanned : s.scan ≡ r.scan

-- `Counted js rs ss n`: each line of `rs` is in `ss` too, and counted there by its number in the
-- input. The next line would have the number `n`.
pub data Counted : List Judged → List Reading → List Reading → ℕ → Type 0 where
  no_line : Counted [] [] [] 1
  -- A removed line, not printed.
  goes : {js : List Judged} {rs ss : List Reading} {n : ℕ} → Counted js rs ss n → (j : Judged) →
      is_removed j.verdict ≡ true → Counted (js ++ j ∷ []) rs ss n
  -- A removed line that is blanked.
  blanked : {js : List Judged} {rs ss : List Reading} → (j : Judged) →
      Counted js rs ss j.line.number → is_removed j.verdict ≡ true →
      (d : Reading) → IsBlankLine d → Counted (js ++ j ∷ []) rs (ss ++ d ∷ []) (suc j.line.number)
  -- A line that counts on.
  counts_on : {js : List Judged} {rs ss : List Reading} → (j : Judged) →
      Counted js rs ss j.line.number → (r s : Reading) → IsPrinted j r s →
      Counted (js ++ j ∷ []) (rs ++ r ∷ []) (ss ++ s ∷ []) (suc j.line.number)
  -- A line with which the count starts anew.
  starts_anew : {js : List Judged} {rs ss : List Reading} {n : ℕ} → Counted js rs ss n →
      (j : Judged) → (d : Reading) → IsNumberLine j.line.number d →
      (r s : Reading) → IsPrinted j r s →
      Counted (js ++ j ∷ []) (rs ++ r ∷ []) ((ss ++ d ∷ []) ++ s ∷ []) (suc j.line.number)

-- `CountsLines o js text numbered`: each line of `text` is in `numbered` too, and counted there by
-- its number in the input, which has the lines `js`. Both are read in the mode of `o`.
abbrev pub CountsLines : Options → List Judged → List ℕ → List ℕ → Type 0
CountsLines o js text numbered = (k : ℕ) × Counted js (read_as (mode_by o.settings.plain) text)
    (read_as (mode_by o.settings.plain) numbered) k
