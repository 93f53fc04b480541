-- Faults: the faulty lines of a text, and what is wrong with them.
-- C11 6.10 (a directive out of its place), C11 5.2.4.1 (limits); unifdef(1), "Obfuscated
-- preprocessor control line".
--
--   Fault                 a fault with its line
--   Case                  the cases in which a line is faulty, in the order in which they are
--                         checked
--   Holds xs x c          the case `c` holds for the line `x` after the lines `xs`
--   FaultOf xs x f        `f` is the line's fault: that of the first case that holds
--   AreFaultless o xs t   no line is faulty; `t` is their tree, and each was read in the
--                         mode that the lines before give
--   end_fault xs t        the fault of a text that ends after these lines
--
-- The verdicts are those of the text up to the line; no later line changes them.
use Rattle.std.specs.Prelude.{◌≡◌, ℕ, ◌<◌, List, [], ◌∷◌, ◌++◌, length, Bool, true, false, not}
use Rattle.std.specs.Prelude.{◌&&◌, ◌||◌, IsTrue, Option, Some, None}
use Rattle.ud_model.specs.text.Lines.{Line, text_of}
use Rattle.ud_model.specs.text.Scans.{Reading, is_spanning}
use Rattle.ud_model.specs.sections.Directives.{Content, cut_keyword, directive, text, content_of}
use Rattle.ud_model.specs.sections.Tree.{Item, Opener, Tree, closed, nothing, text_line, if_line}
use Rattle.ud_model.specs.sections.Tree.{elif_line, else_line, endif_line, lines, HasTree, depth}
use Rattle.ud_model.specs.sections.Tree.{innermost}
use Rattle.ud_model.specs.sections.Pruning.{Mark, marks, is_removed}
use Rattle.ud_model.specs.sections.Items.{Options, reading_of, line_of, next_item}
use Rattle.ud_model.specs.declared.kind.CommentAt.{CommentAt}
use Rattle.ud_model.specs.declared.kind.CommentAt.TheVariants.{Outside, InLine, InBlock}
use Rattle.ud_model.specs.declared.verdict.Verdict.{Verdict}
use Rattle.ud_model.specs.declared.verdict.Verdict.TheVariants.{Keep, Remove, ToIf, ToElse, ToEndif}
use Rattle.ud_model.specs.declared.limits.TheConstants.{MAX_LINE_BYTES, MAX_LINES, MAX_DEPTH}

-- A fault of a text, and its line.
pub data Fault : Type 0 where
  too_many_lines : ℕ → Fault
  line_too_long : ℕ → Fault
  obfuscated : ℕ → Fault
  inappropriate_elif : ℕ → Fault
  inappropriate_else : ℕ → Fault
  inappropriate_endif : ℕ → Fault
  too_many_levels : ℕ → Fault
  eof_in_comment : ℕ → Fault
  -- The last line, and the line of the innermost open section's first directive.
  premature_eof : ℕ → ℕ → Fault

-- A case in which a line is faulty.
pub data Case : Type 0 where
  -- The line is after the last one that a text may have.
  past_last : Case
  -- The line has too many bytes.
  too_long : Case
  -- It can't be known whether the line is a directive.
  cut : Case
  -- A directive is out of its place.
  out_of_place : Case
  -- The line opens one section too many.
  too_deep : Case
  -- A directive that spans lines would have to be edited or removed.
  obfuscated_case : Case

-- `earlier c`: the cases before `c` in their order.
abbrev pub earlier : Case → List Case
earlier past_last = []
earlier too_long = past_last ∷ []
earlier cut = past_last ∷ too_long ∷ []
earlier out_of_place = past_last ∷ too_long ∷ cut ∷ []
earlier too_deep = past_last ∷ too_long ∷ cut ∷ out_of_place ∷ []
earlier obfuscated_case = past_last ∷ too_long ∷ cut ∷ out_of_place ∷ too_deep ∷ []

-- All cases, in their order.
abbrev pub cases : List Case
cases = past_last ∷ too_long ∷ cut ∷ out_of_place ∷ too_deep ∷ obfuscated_case ∷ []

-- `is_cut content`: the line's keyword is cut.
abbrev pub is_cut : Content → Bool
is_cut cut_keyword = true
is_cut (directive d) = false
is_cut text = false

-- `is_directive x`: the item is a directive.
abbrev pub is_directive : Item Reading → Bool
is_directive (text_line r) = false
is_directive (if_line o) = true
is_directive (elif_line o) = true
is_directive (else_line r) = true
is_directive (endif_line r) = true

-- `keeps_rest v`: the text after the keyword stays, and so do the lines that the directive is
-- joined to.
abbrev pub keeps_rest : Verdict → Bool
keeps_rest Keep = true
keeps_rest Remove = false
keeps_rest ToIf = true
keeps_rest ToElse = false
keeps_rest ToEndif = false

-- `ends_removed ms`: the last line is removed.
abbrev pub ends_removed : List Mark → Bool
ends_removed [] = false
ends_removed (m ∷ []) = is_removed m.verdict
ends_removed (m ∷ n ∷ ms) = ends_removed (n ∷ ms)

-- `is_obfuscated_after removed x m`: `x` is a directive that spans lines, and all groups around its
-- section are kept. Its verdict isn't Keep or ToIf, or it joins the line before and `removed` is
-- true, which means that this line is removed.
abbrev pub is_obfuscated_after : Bool → Item Reading → Mark → Bool
is_obfuscated_after removed x m =
    is_directive x && is_spanning (reading_of x).scan && m.kept
    && (not (keeps_rest m.verdict) || ((reading_of x).scan.joins_before && removed))

-- `is_obfuscated before x m`: the directive `x` is obfuscated after lines with the marks `before`.
abbrev pub is_obfuscated : List Mark → Item Reading → Mark → Bool
is_obfuscated before x m = is_obfuscated_after (ends_removed before) x m

-- `MarksWith xs x before m`: the line `x` after the lines `xs` has the mark `m`, and these have the
-- marks `before`.
abbrev pub MarksWith : List (Item Reading) → Item Reading → List Mark → Mark → Type 0
MarksWith xs x before m = (t : Tree Reading) × (lines t ≡ xs ++ x ∷ []) ×
    (marks t ≡ before ++ m ∷ [])

-- `Holds xs x c`: the case `c` holds for the line `x` after the lines `xs`.
abbrev pub Holds : List (Item Reading) → Item Reading → Case → Type 0
Holds xs x past_last = MAX_LINES < (line_of x).number
Holds xs x too_long = MAX_LINE_BYTES < length (text_of (line_of x))
Holds xs x cut = IsTrue (is_cut (content_of (reading_of x).scan))
Holds xs x out_of_place = HasTree xs × ¬ (HasTree (xs ++ x ∷ []))
Holds xs x too_deep = (t : Tree Reading) × (lines t ≡ xs ++ x ∷ []) × (MAX_DEPTH < depth t)
Holds xs x obfuscated_case = (before : List Mark) × (m : Mark) × MarksWith xs x before m ×
    IsTrue (is_obfuscated before x m)

-- `NoneHolds xs x cs`: none of the cases `cs` holds.
abbrev pub NoneHolds : List (Item Reading) → Item Reading → List Case → Type 0
NoneHolds xs x [] = Unit {0}
NoneHolds xs x (c ∷ cs) = (¬ Holds xs x c) × NoneHolds xs x cs

-- `misplaced_fault x`: the fault of a misplaced `#elif`, `#else` or `#endif`, each with its own.
-- Text and `#if` are never misplaced.
abbrev pub misplaced_fault : Item Reading → Option Fault
misplaced_fault (text_line r) = None
misplaced_fault (if_line o) = None
misplaced_fault (elif_line o) = Some (inappropriate_elif o.line.line.number)
misplaced_fault (else_line r) = Some (inappropriate_else r.line.number)
misplaced_fault (endif_line r) = Some (inappropriate_endif r.line.number)

-- `fault_in x c`: the fault that the case `c` gives the line `x`.
abbrev pub fault_in : Item Reading → Case → Option Fault
fault_in x past_last = Some (too_many_lines (line_of x).number)
fault_in x too_long = Some (line_too_long (line_of x).number)
fault_in x cut = Some (obfuscated (line_of x).number)
fault_in x out_of_place = misplaced_fault x
fault_in x too_deep = Some (too_many_levels (line_of x).number)
fault_in x obfuscated_case = Some (obfuscated (line_of x).number)

-- `FaultOf xs x f`: the first case that holds for the line `x` after the lines `xs` gives it the
-- fault `f`.
pub record FaultOf (xs : List (Item Reading)) (x : Item Reading) (f : Fault) : Type 0 where
  pub which : Case
  pub holds : Holds xs x which
  pub first : NoneHolds xs x (earlier which)
  pub named : fault_in x which ≡ Some f

-- `AreFaultless o xs t`: the lines `xs` are read one after another without a fault, and `t` is
-- their tree.
pub data AreFaultless (o : Options) : List (Item Reading) → Tree Reading → Type 0 where
  no_lines : AreFaultless o [] (closed nothing)
  one_more : (xs : List (Item Reading)) (t : Tree Reading) → AreFaultless o xs t →
      (l : Line) (u : Tree Reading) →
      lines u ≡ xs ++ next_item o xs t l ∷ [] → NoneHolds xs (next_item o xs t l) cases →
      AreFaultless o (xs ++ next_item o xs t l ∷ []) u

-- `last_number xs`: the number of the last line, or 0 if there is none.
abbrev pub last_number : List (Item Reading) → ℕ
last_number [] = 0
last_number (x ∷ []) = (line_of x).number
last_number (x ∷ y ∷ ys) = last_number (y ∷ ys)

-- `is_in_block c`: a block comment is open.
abbrev pub is_in_block : CommentAt → Bool
is_in_block Outside = false
is_in_block InLine = false
is_in_block InBlock = true

-- `ends_in_comment xs`: a block comment is open at the end of the last line.
abbrev pub ends_in_comment : List (Item Reading) → Bool
ends_in_comment [] = false
ends_in_comment (x ∷ []) = is_in_block (reading_of x).scan.comment
ends_in_comment (x ∷ y ∷ ys) = ends_in_comment (y ∷ ys)

-- `end_by unclosed last o`: the fault of a text that ends with the line `last`: in a comment if
-- `unclosed`, else in the section that `o` opens, if any.
abbrev pub end_by : Bool → ℕ → Option (Opener Reading) → Option Fault
end_by true last o = Some (eof_in_comment last)
end_by false last (Some o) = Some (premature_eof last o.line.line.number)
end_by false last None = None

-- `end_fault xs t`: the fault of a text that ends after the lines `xs`. An unclosed comment comes
-- before an open section.
abbrev pub end_fault : List (Item Reading) → Tree Reading → Option Fault
end_fault xs t = end_by (ends_in_comment xs) (last_number xs) (innermost t)
