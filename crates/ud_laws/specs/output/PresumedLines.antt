-- Presumed lines: the numbers that C gives the lines of an output under `-n` or `-b`.
-- C11 6.10.4p2: a line's number is one greater than the number of newlines before it.
-- C11 6.10.4p3: a `#line` with digits gives the next line their number, at most 2147483647.
-- C11 6.10.1p6: no `#line` in a skipped group is obeyed.
-- C11 6.10.8.1: `__LINE__` is the line's presumed number.
--
--   line_operand scan          the text after `# line`, if the line begins so
--   HasNoLineDirective mode t  no line of the text `t` begins with `# line`
--   GivesNumber n r            the line `r` is a `#line` that gives the next line the number `n`
--   Presumed                   a line that C processes, with its presumed number, and whether C has
--                              skipped no `#line` since the last one that it obeyed
--   Presumes ls ps sure n      of the lines `ls` C processes those of `ps`, with these numbers. The
--                              next line has the number `n`; `sure` means that C has skipped no
--                              `#line` since the last one that it obeyed
--   ArePresumed mode t ls      C processes the lines `ls` of the text `t`, and numbers them
--   HaveOwnNumbers ps          each line has its own number in the text as its presumed number
--   IsLineFor js r n           `r` is printed for the line `n` of the input, which has the
--                              judged lines `js`
--   HaveInputNumbers js ps     each sure line that isn't inserted is printed for the line of
--                              the input that has its presumed number
--   NumbersAsInput mode js t   so does each, whatever C processes of the text `t`
--   NumbersSelected o t        C processes and numbers what is selected of the text `t`
--
-- Example: under `-n -UA` the output for `#if X`, `#ifdef A`, `#endif`, `y`, `#endif`, `z` is
-- `#if X`, `#line 4`, `y`, `#endif`, `z`. If X isn't 0, `z` has the number 6. Else C skips the
-- `#line`, and `z` has the number 5.
use Rattle.std.specs.Prelude.{◌≡◌, ◌≤◌, ℕ, suc, List, [], ◌∷◌, ◌++◌, map, Bool, true, not, false}
use Rattle.std.specs.Prelude.{◌&&◌, Option, Some, None, is_some, bytes_eq, codes, decimal, ◌⊎◌}
use Rattle.std.specs.Prelude.{if◌then◌else◌}
use Rattle.ud_model.specs.text.Bytes.{skip_white, leading_word, skip_word}
use Rattle.ud_model.specs.text.Lines.{text_of}
use Rattle.ud_model.specs.text.Scans.{Scan, Reading}
use Rattle.ud_model.specs.sections.Directives.{skip_white_and_hash}
use Rattle.ud_model.specs.sections.Tree.{Nodes, closed}
use Rattle.ud_model.specs.sections.Pruning.{is_removed}
use Rattle.ud_model.specs.sections.Items.{Options, mode_by}
use Rattle.ud_model.specs.answer.Printing.{Judged, piece_by}
use Rattle.ud_model.specs.laws.Worlds.{World, selected}
use Rattle.ud_model.specs.laws.Rereading.{IsTreeOf}
use Rattle.ud_model.specs.aids.ReadAs.{read_as}
use Rattle.ud_laws.specs.output.InsertedNodes.{IsInserted}
use Rattle.ud_model.specs.declared.kind.Mode.{Mode}

-- `after_line rest`: the text after the word `line` and white space, if `rest` begins with white
-- space and that word. `rest` follows the `#`, if any.
abbrev pub after_line : Option (List ℕ) → Option (List ℕ)
after_line None = None
after_line (Some rest) =
    if bytes_eq (leading_word (skip_white rest)) (codes "line")
    then Some (skip_white (skip_word (skip_white rest))) else None

-- `line_operand scan`: the text after `# line` and white space, if both the line and its logical
-- line begin so.
abbrev pub line_operand : Scan → Option (List ℕ)
line_operand scan = if scan.fresh then after_line (skip_white_and_hash scan.masked) else None

-- `HaveNoLineDirective rs`: no line of `rs` begins with `# line`.
abbrev pub HaveNoLineDirective : List Reading → Type 0
HaveNoLineDirective [] = Unit {0}
HaveNoLineDirective (r ∷ rs) = (line_operand r.scan ≡ None) × HaveNoLineDirective rs

-- `HasNoLineDirective mode text`: no line of `text` begins with `# line`, each read in this mode.
abbrev pub HasNoLineDirective : Mode → List ℕ → Type 0
HasNoLineDirective mode text = HaveNoLineDirective (read_as mode text)

-- `GivesNumber n r`: the line `r` is a `#line` with the digits of `n`, and joins no other line.
pub record GivesNumber (n : ℕ) (r : Reading) : Type 0 where
  pub operand : line_operand r.scan ≡ Some (decimal n)
  pub alone : r.scan.joins_after ≡ false
  pub limit : n ≤ 2147483647

-- A line that C processes, with its presumed number. It is sure if C has skipped no `#line` since
-- the last one that it obeyed.
pub record Presumed : Type 0 where
  pub line : Reading
  pub number : ℕ
  pub sure : Bool

-- `Presumes ls ps sure n`: among the lines `ls`, C processes those of `ps`. The next line has the
-- number `n`, and is sure if `sure`.
pub data Presumes : List Reading → List Presumed → Bool → ℕ → Type 0 where
  no_lines : Presumes [] [] true 1
  -- A line that C skips, or a conditional directive.
  passes : {ls : List Reading} {ps : List Presumed} {sure : Bool} {n : ℕ} →
      Presumes ls ps sure n → (r : Reading) →
      Presumes (ls ++ r ∷ []) ps (sure && not (is_some (line_operand r.scan))) (suc n)
  -- A line other than `#line` that C processes.
  processes : {ls : List Reading} {ps : List Presumed} {sure : Bool} {n : ℕ} →
      Presumes ls ps sure n → (r : Reading) → line_operand r.scan ≡ None →
      Presumes (ls ++ r ∷ []) (ps ++ record { line = r; number = n; sure = sure } ∷ []) sure (suc n)
  -- A `#line` that C obeys.
  obeys : {ls : List Reading} {ps : List Presumed} {sure : Bool} {n : ℕ} →
      Presumes ls ps sure n → (r : Reading) → (m : ℕ) → GivesNumber m r →
      Presumes (ls ++ r ∷ []) (ps ++ record { line = r; number = n; sure = sure } ∷ []) true m

-- `ArePresumed mode text ls`: among the lines of `text`, each read in this mode, C processes the
-- lines `ls` and numbers them.
pub record ArePresumed (mode : Mode) (text : List ℕ) (ls : List Reading) : Type 0 where
  pub lines : List Presumed
  pub sure : Bool
  pub next : ℕ
  pub presumes : Presumes (read_as mode text) lines sure next
  pub are : map (λ (p : Presumed). p.line) lines ≡ ls

-- `HasOwnNumber p`: `p` is sure, and its presumed number is the number of its line in the text.
pub record HasOwnNumber (p : Presumed) : Type 0 where
  pub sure : p.sure ≡ true
  pub number : p.number ≡ p.line.line.number

-- `HaveOwnNumbers ps`: each of `ps` has its own number.
abbrev pub HaveOwnNumbers : List Presumed → Type 0
HaveOwnNumbers [] = Unit {0}
HaveOwnNumbers (p ∷ ps) = HasOwnNumber p × HaveOwnNumbers ps

-- `IsLineFor js r n`: `r` is printed for the line of `js` with the number `n`.
pub record IsLineFor (js : List Judged) (r : Reading) (n : ℕ) : Type 0 where
  pub judged : Judged
  pub before : List Judged
  pub later : List Judged
  pub among : js ≡ before ++ judged ∷ later
  pub number : judged.line.number ≡ n
  pub stays : is_removed judged.verdict ≡ false
  pub bytes : text_of r.line ≡ piece_by false judged.verdict judged.keyword judged.line

-- `HasInputNumber js p`: if `p` is sure, it is inserted, or is printed for the line of `js` that
-- has its presumed number.
abbrev pub HasInputNumber : List Judged → Presumed → Type 0
HasInputNumber js p = p.sure ≡ true → IsInserted p.line ⊎ IsLineFor js p.line p.number

-- `HaveInputNumbers js ps`: each of `ps` has its input number.
abbrev pub HaveInputNumbers : List Judged → List Presumed → Type 0
HaveInputNumbers js [] = Unit {0}
HaveInputNumbers js (p ∷ ps) = HasInputNumber js p × HaveInputNumbers js ps

-- `NumbersAsInput mode js text`: whatever C processes of `text`, each line in this mode, the lines
-- have their input numbers.
abbrev pub NumbersAsInput : Mode → List Judged → List ℕ → Type 0
NumbersAsInput mode js text = (ps : List Presumed) (sure : Bool) (n : ℕ) →
    Presumes (read_as mode text) ps sure n → HaveInputNumbers js ps

-- `NumbersSelected o text`: in each world C processes the selected lines of `text`, and numbers
-- them.
abbrev pub NumbersSelected : Options → List ℕ → Type 0
NumbersSelected o text = (vs : Nodes Reading) → IsTreeOf o text (closed vs) → (x : World Reading) →
    ArePresumed (mode_by o.settings.plain) text (selected x vs)
