-- Examples: what is selected in a world, and in the worlds that C may give a text, computed by the
-- checker.
use Rattle.std.proofs.Common.{◌≡◌, refl, ℕ, ◌==◌, ◌||◌, List, [], ◌∷◌, codes, Some, None, Bool, true, false, arith, pos}
use Rattle.std.specs.List.{Contains}
use Rattle.ud_model.specs.text.Scans.{Reading, plain_scan}
use Rattle.ud_model.specs.conditions.Table.{Argument}
use Rattle.ud_model.specs.conditions.Tokens.{next_token}
use Rattle.ud_model.specs.conditions.Expressions.{named, is_defined, binary, unary}
use Rattle.ud_model.specs.conditions.Parsing.{tokens_of, reads, expression_of}
use Rattle.ud_model.specs.conditions.Symbols.{resolve}
use Rattle.ud_model.specs.conditions.Constants.{suffix_sign}
use Rattle.ud_model.specs.conditions.Values.{name_value, name_has_u, apply_binary_known}
use Rattle.ud_model.specs.laws.CValues.{signed, of_and_left, of_open_name, of_known_name}
use Rattle.ud_model.specs.sections.Tree.{Nodes, Opener, nothing, text, section, conditional, otherwise, first, elif}
use Rattle.ud_model.specs.laws.Worlds.{World, selected, Agrees}
use Rattle.ud_laws.specs.output.CSelection.{MayBe, IsCWorld}
use Rattle.ud_model.specs.laws.WrittenConditions.{condition_in}
use Rattle.ud_laws.specs.output.GoneSymbols.{names_in_conditions}
use Rattle.ud_laws.specs.output.ListedNames.{IsNoValue}
use Rattle.ud_model.specs.declared.cond.Cond.{Cond}
use Rattle.ud_model.specs.declared.cond.Cond.TheVariants.{Yes, No, Unknown}
use Rattle.ud_model.specs.declared.kind.Mode.TheVariants.{Plain}
use Rattle.ud_model.specs.declared.operator.Operator.TheVariants.{And, Not}
use Rattle.ud_model.proofs.conditions.DecidedConditions.{no_is_false}
use Rattle.ud_laws.proofs.examples.CValueExamples.{sets, undefines}

-- An opener with this condition.
abbrev opener : {L : Type 0} → L → Cond → Opener L
opener line cond = record { line = line; cond = cond; ignoring = false }

-- A world in which the conditions on the lines 1 and 5 are true.
abbrev some_world : ℕ → Bool
some_world l = (l == 1) || (l == 5)

-- `#if` on line `n`, text on 2, `#else` on 3, text on 4.
abbrev with_else : ℕ → Nodes ℕ
with_else n = section nothing
    (otherwise (first (opener n Unknown) (text nothing 2)) 3 (text nothing 4)) 6

-- The first group is selected if its condition is true, else that of `#else`.
pub one_selected : (selected some_world (with_else 1) ≡ 2 ∷ []) × (selected some_world (with_else 7) ≡ 4 ∷ [])
one_selected = (refl, refl)

-- A world agrees with the decision on each opener that is reached: the one on line 2 isn't.
pub agrees_with_true : Agrees some_world (section nothing
    (conditional (elif (first (opener 1 Yes) nothing) (opener 2 Yes) nothing)) 3)
agrees_with_true = (tt, ((refl, λ e. tt), λ e. cc))

pub differs_from_false : ¬ (Agrees some_world
    (section nothing (conditional (first (opener 1 No) nothing)) 2))
differs_from_false h = cc

-- A line with this number, in plain mode.
abbrev line_at : ℕ → List ℕ → Reading
line_at n body = record {
  line = record { body = body; ending = 10 ∷ []; number = n };
  mode = Plain;
  scan = plain_scan (record { body = body; ending = 10 ∷ []; number = n });
}

-- The condition of an `#ifndef` is that its name isn't defined. A text that isn't understood has
-- none.
pub conditions_of : (condition_in (line_at 1 (codes "#ifndef A")) ≡
    Some (unary Not (is_defined (codes "A") false))) ×
    (condition_in (line_at 1 (codes "#if A ? X : 1")) ≡ None)
unfolding expression_of reads tokens_of next_token
conditions_of = (refl, refl)

-- A is undefined.
abbrev without : List Argument
without = undefines (codes "A") ∷ []

-- `#if A && X`, and the section of it, `a`, `#elif X`, `b`, `#endif`.
abbrev if_both : Reading
if_both = line_at 1 (codes "#if A && X")

abbrev some_lines : Nodes Reading
some_lines = section nothing (conditional (elif (first (opener if_both No)
    (text nothing (line_at 2 (codes "a")))) (opener (line_at 3 (codes "#elif X")) Unknown)
    (text nothing (line_at 4 (codes "b"))))) (line_at 5 (codes "#endif"))

-- A world in which the condition on this line alone is true.
abbrev true_on : ℕ → World Reading
true_on n r = r.line.number == n

-- With A undefined `A && X` is false, and X may be true.
pub may_be_false : MayBe without (condition_in if_both) false
unfolding expression_of reads tokens_of next_token suffix_sign name_value name_has_u resolve
may_be_false = (signed (pos 0), of_and_left (of_known_name {z = pos 0} refl) refl, refl)

x_true : MayBe without (condition_in (line_at 3 (codes "#elif X"))) true
unfolding expression_of reads tokens_of next_token suffix_sign name_value name_has_u resolve
x_true = (signed (pos 7), of_open_name refl (record { sfits = omega arith }), λ h. cc)

-- So there is a world in which C selects `b`.
pub second_group : IsCWorld without (true_on 3) some_lines ×
    (selected (true_on 3) some_lines ≡ line_at 4 (codes "b") ∷ [])
second_group = ((tt, ((may_be_false, λ e. tt), λ e. (x_true, λ t. tt))), refl)

-- There is none in which C selects `a`, since with A undefined `A && X` is never true.
pub never_true : ¬ (MayBe without (condition_in if_both) true)
unfolding expression_of reads tokens_of next_token suffix_sign apply_binary_known name_value
    name_has_u resolve
never_true h = h.2 (no_is_false without (record { constants = false; strict = false })
    (binary And (named (codes "A") false) (named (codes "X") false)) h.0 refl h.1)

pub not_the_first : ¬ (IsCWorld without (true_on 1) some_lines)
not_the_first h = never_true h.1.0.0

-- The conditions have the names A and X, so VMS is gone, and A isn't.
pub names_left : names_in_conditions some_lines ≡ codes "A" ∷ codes "X" ∷ codes "X" ∷ []
unfolding expression_of reads tokens_of next_token suffix_sign
names_left = refl

pub vms_is_gone : ¬ (Contains (codes "A" ∷ codes "X" ∷ codes "X" ∷ []) (codes "VMS"))
vms_is_gone h = grind arith

-- Under `-DX=VMS`, VMS would count: X has it as its value.
pub vms_is_value : ¬ (IsNoValue (sets (codes "X") (codes "VMS") ∷ []) (codes "VMS"))
vms_is_value h = h (codes "X") refl
