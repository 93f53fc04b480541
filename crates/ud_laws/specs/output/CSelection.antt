-- C selection: the choices that C has for the conditions of a text, whatever symbols the options
-- leave open.
-- C11 6.10.1p4: each unlisted symbol is a number, perhaps a different one at each use (CValues).
--
-- A condition that continues on the next line, or whose text is no expression, may be true or
-- false. The lines are lines as read: under `-t` each by itself, with comments and continuations as
-- text, so a C compiler may select others (law_answer_selects).
--
-- Example: of `#if A && X`, `#elif X`, `#endif` with A undefined, the first condition is false in
-- each C world, and the second one true or false. `#if 1 / 0` has no C world, since C gives its
-- condition no value.
use Rattle.std.specs.Prelude.{◌≡◌, ℕ, List, Bool, true, false, Option, Some, None}
use Rattle.ud_model.specs.text.Scans.{Reading}
use Rattle.ud_model.specs.conditions.Table.{Argument}
use Rattle.ud_model.specs.conditions.Expressions.{Expression}
use Rattle.ud_model.specs.laws.CValues.{Number, IsZero, IsCValue}
use Rattle.ud_model.specs.sections.Tree.{Nodes, closed}
use Rattle.ud_model.specs.sections.Items.{Options}
use Rattle.ud_model.specs.laws.Worlds.{World, EachReached}
use Rattle.ud_model.specs.laws.Rereading.{IsTreeOf, KeepsTruths, selected_bytes}
use Rattle.ud_model.specs.laws.WrittenConditions.{condition_in}

-- `HasTruth b c`: a condition with the value `c` has the truth `b`: it is true if the value isn't 0
-- (6.10.1p6).
abbrev pub HasTruth : Bool → Number → Type 0
HasTruth true c = IsZero c → ⊥
HasTruth false c = IsZero c

-- `MayBe table e b`: C may find the condition `e` to be `b`, by some value that it may have.
abbrev pub MayBe : List Argument → Option Expression → Bool → Type 0
MayBe table None b = Unit {0}
MayBe table (Some e) b = (c : Number) × IsCValue table e c × HasTruth b c

-- `IsCWorld table w ns`: each condition that is evaluated in the world `w` has a truth there that C
-- may give it.
abbrev pub IsCWorld : List Argument → World Reading → Nodes Reading → Type 0
IsCWorld table w ns = EachReached w (λ o. MayBe table (condition_in o.line) (w o.line)) ns

-- `IsCPair o w before v after`: C may give the conditions of `before` the truths of the world `w`,
-- and `v` gives each opener of `after` the truth of the opener it comes from.
pub record IsCPair (o : Options) (w : World Reading) (before : Nodes Reading) (v : World Reading)
    (after : Nodes Reading) : Type 0 where
  pub c_world : IsCWorld o.table w before
  pub truths : KeepsTruths w before v after

-- `SelectsAlike o input output`: whatever truths C may give the conditions of the input, the lines
-- selected from both texts are the same, byte by byte (6.10.1p6).
abbrev pub SelectsAlike : Options → List ℕ → List ℕ → Type 0
SelectsAlike o input output = (ns us : Nodes Reading) → IsTreeOf o input (closed ns) →
    IsTreeOf o output (closed us) → (w v : World Reading) → IsCPair o w ns v us →
    selected_bytes v us ≡ selected_bytes w ns
