-- Processing: what a preprocessor does with the files of a tree, whose lines change its state.
-- C11 5.1.1.2, 6.10, 6.10.1p6, 6.10.2, 6.10.3.
--
--   expression_written c       the expression that the condition `c` means, if it ends on its line
--   Preprocessor S F L         what a preprocessor with the states `S` may do at lines `L`, which
--                              may include the files `F`
--   Processes p files ns s t   from the state `s`, `p` processes the nodes `ns`, and ends in `t`
--   over_readings takes ..     the preprocessor with these choices over lines that were read
--   DecidesAsC table decides   each condition is decided as C may
--   HasOneChoice p             `p` has at most one choice in each state, like a program
--
-- A state has all that a preprocessor knows: its macros, the open files, the text written. So what
-- it does at a line may depend on every line before, in this file and in others. A file may be
-- processed several times, and may include itself. A preprocessor that stops, as at `#error`, or
-- whose state contradicts the options, has no choice, and nothing is processed.
--
-- A text line comes with its scan, so a preprocessor knows what is a comment. If the line isn't
-- fresh, and no text before it goes on, it belongs to a directive and means nothing.
--
-- Evaluating a condition that ends on its line changes nothing, so `__COUNTER__` in a condition is
-- left out. A condition that continues is given by its first line alone; a state may have the
-- truths of such conditions, past and future. Lines come without numbers, so `__LINE__` is left
-- out.
--
-- Example: in `#define A 1`, `#if A`, `x`, `#endif` the first line leads to a state where the
-- condition is true, and `x` is taken.
use Rattle.std.specs.Prelude.{◌≡◌, ℕ, List, Bool, true, false, Option, None, if◌then◌else◌}
use Rattle.ud_model.specs.text.Scans.{Scan, Reading}
use Rattle.ud_model.specs.conditions.Table.{Argument}
use Rattle.ud_model.specs.conditions.Expressions.{Expression}
use Rattle.ud_model.specs.sections.Tree.{Opener, Nodes, Groups, Elifs, nothing, section}
use Rattle.ud_model.specs.sections.Tree.{conditional, otherwise, first, elif}
use Rattle.ud_model.specs.sections.Tree as tree
use Rattle.ud_model.specs.laws.Rereading.{line_bytes}
use Rattle.ud_laws.specs.output.CSelection.{MayBe}
use Rattle.ud_model.specs.laws.WrittenConditions.{condition_by_test, Condition, condition_on}

-- `expression_written c`: the expression that the condition `c` means; None if it continues on the
-- next line.
abbrev pub expression_written : Condition → Option Expression
expression_written c = if c.goes_on then None else condition_by_test c.test c.text

-- A preprocessor with the states `S`: the choices that it has at lines `L`, which may include the
-- files `F`. It may have none.
pub record Preprocessor (S F L : Type 0) : Type 1 where
  -- `takes s l t`: the text line `l` leads from the state `s` to `t`.
  pub takes : S → L → S → Type 0
  -- `enters s l f t`: in the state `s` the text line `l` includes the file `f`, which begins in
  -- the state `t`.
  pub enters : S → L → F → S → Type 0
  -- `leaves s t`: at the end of an included file, it goes from the state `s` on in `t`.
  pub leaves : S → S → Type 0
  -- `decides s o b t`: in the state `s` the condition of the opener `o` may be `b`, which leads to
  -- the state `t`.
  pub decides : S → Opener L → Bool → S → Type 0

-- `NoneTrue p es s t`: the conditions of these groups, evaluated in order, are each false, and lead
-- from the state `s` to `t`.
pub data NoneTrue {S F L : Type 0} (p : Preprocessor S F L) : Elifs L → S → S → Type 0 where
  first_false : {o : Opener L} {ns : Nodes L} {s t : S} → p.decides s o false t →
      NoneTrue p (first o ns) s t
  elif_false : {es : Elifs L} {o : Opener L} {ns : Nodes L} {s t u : S} → NoneTrue p es s t →
      p.decides t o false u → NoneTrue p (elif es o ns) s u

mutual
  -- `Processes p files ns s t`: the nodes `ns` lead from the state `s` to `t`.
  pub data Processes {S F L : Type 0} (p : Preprocessor S F L) (files : F → Nodes L) :
      Nodes L → S → S → Type 0 where
    no_nodes : {s : S} → Processes p files nothing s s
    takes_line : {ns : Nodes L} {l : L} {s t u : S} → Processes p files ns s t →
        p.takes t l u → Processes p files (tree.text ns l) s u
    includes_file : {ns : Nodes L} {l : L} {f : F} {s t u v x : S} → Processes p files ns s t →
        p.enters t l f u → Processes p files (files f) u v → p.leaves v x →
        Processes p files (tree.text ns l) s x
    selects_group : {ns : Nodes L} {gs : Groups L} {e : L} {s t u : S} →
        Processes p files ns s t → ProcessesOne p files gs t u →
        Processes p files (section ns gs e) s u

  -- `ProcessesOne p files gs s t`: the group of a section that is processed, if any, leads from `s`
  -- to `t`. The group of `#else` is processed if no condition is true.
  pub data ProcessesOne {S F L : Type 0} (p : Preprocessor S F L) (files : F → Nodes L) :
      Groups L → S → S → Type 0 where
    no_group : {es : Elifs L} {s t : S} → NoneTrue p es s t →
        ProcessesOne p files (conditional es) s t
    true_group : {es : Elifs L} {s t : S} → ProcessesTrue p files es s t →
        ProcessesOne p files (conditional es) s t
    true_before_else : {es : Elifs L} {l : L} {ns : Nodes L} {s t : S} →
        ProcessesTrue p files es s t → ProcessesOne p files (otherwise es l ns) s t
    else_group : {es : Elifs L} {l : L} {ns : Nodes L} {s t u : S} → NoneTrue p es s t →
        Processes p files ns t u → ProcessesOne p files (otherwise es l ns) s u

  -- `ProcessesTrue p files es s t`: the first group whose condition is true leads from `s` to `t`.
  -- No condition after it is evaluated.
  pub data ProcessesTrue {S F L : Type 0} (p : Preprocessor S F L) (files : F → Nodes L) :
      Elifs L → S → S → Type 0 where
    first_true : {o : Opener L} {ns : Nodes L} {s t u : S} → p.decides s o true t →
        Processes p files ns t u → ProcessesTrue p files (first o ns) s u
    true_before : {es : Elifs L} {o : Opener L} {ns : Nodes L} {s t : S} →
        ProcessesTrue p files es s t → ProcessesTrue p files (elif es o ns) s t
    elif_true : {es : Elifs L} {o : Opener L} {ns : Nodes L} {s t u v : S} →
        NoneTrue p es s t → p.decides t o true u → Processes p files ns u v →
        ProcessesTrue p files (elif es o ns) s v

-- `over_readings takes enters leaves decides`: the preprocessor with these choices over lines that
-- were read. It is given a text line's bytes and scan, and an opener's condition.
abbrev pub over_readings : {S F : Type 0} → (S → List ℕ → Scan → S → Type 0) →
    (S → List ℕ → Scan → F → S → Type 0) → (S → S → Type 0) → (S → Condition → Bool → S → Type 0) →
    Preprocessor S F Reading
over_readings takes enters leaves decides = record {
  takes = λ s r t. takes s (line_bytes r) r.scan t;
  enters = λ s r f t. enters s (line_bytes r) r.scan f t;
  leaves = leaves;
  decides = λ s o b t. decides s (condition_on o.line) b t;
}

-- `DecidesAsC table decides`: each truth that a condition may have is one that C may give it by the
-- table, and evaluating a condition that ends on its line changes nothing.
abbrev pub DecidesAsC : {S : Type 0} → List Argument → (S → Condition → Bool → S → Type 0) →
    Type 0
DecidesAsC {S} table decides = (s : S) (c : Condition) (b : Bool) (t : S) → decides s c b t →
    MayBe table (expression_written c) b × (c.goes_on ≡ false → s ≡ t)

-- `HasOneChoice p`: in each state `p` has at most one choice for each line, condition and end of a
-- file.
pub record HasOneChoice {S F L : Type 0} (p : Preprocessor S F L) : Type 0 where
  pub one_step : (s : S) (l : L) (t u : S) → p.takes s l t → p.takes s l u → t ≡ u
  pub one_kind : (s : S) (l : L) (f : F) (t u : S) → p.takes s l t → p.enters s l f u → ⊥
  pub one_file : (s : S) (l : L) (f g : F) (t u : S) → p.enters s l f t → p.enters s l g u →
      (f ≡ g) × (t ≡ u)
  pub one_return : (s t u : S) → p.leaves s t → p.leaves s u → t ≡ u
  pub one_truth : (s : S) (o : Opener L) (b c : Bool) (t u : S) → p.decides s o b t →
      p.decides s o c u → (b ≡ c) × (t ≡ u)
