use Rattle.std.proofs.Common.{◌≡◌, ◌∙◌, ◌∷◌, true, if◌then◌else◌, sym, ap, arith, ℕ, List, Bool, Some, None}
use Rattle.ud_model.specs.conditions.Expressions.{is_prefix}
use Rattle.ud_model.specs.conditions.Parsing.{reads, step, needs, has, before, paren, stuck, Meaning, Frame, asks}
use Rattle.ud_cond.specs.CondViews.{as_token}
use Rattle.ud_cond.specs.expressions.Keepings.{flags_in}
use Rattle.ud_cond.proofs.lemmas.expressions.ReadingLemmas.{reads-stuck, reads-on}
use Rattle.std.proofs.lemmas.Grind.{common_steps}
use Rattle.ud_model.specs.conditions.Tokens.{next_token}
use Rattle.ud_cond.specs.expressions.DefinedOperands.{asked_name}
use Rattle.ud_cond.proofs.expressions.reader.read_operand.Goals as goal

-- The text after `defined`, case by case: what it means in a state that asks for a name.

module _ {A : Type 0} (m : Meaning A) (s : List (Frame A)) where
  -- the name that a `defined` asks for
  pub asked : (text n : List ℕ) (p : Bool) (rest : List ℕ) → asked_name (next_token text) ≡ Some (n, p, rest) → reads m (asks s) text ≡ reads m (has (m.is_defined n p) s) rest
  asked text n p rest e = grind (arith, reads-on, reads-stuck)

  -- no name
  pub asked_none : (text : List ℕ) → asked_name (next_token text) ≡ None → reads m (asks s) text ≡ None
  asked_none text e = grind (arith, reads-on, reads-stuck)

pub returns-in_err-name-in-Defined-clause-none : goal.returns-in_err-name-in-Defined-clause-none
returns-in_err-name-in-Defined-clause-none g c = let m = g.K.Keeper.meaning c.args.keeper.now in
    rw c.from_residual.ensures
    (λ s. ap (λ t. reads m (step m (needs s) (as_token t)) c.args.rest.now) c.in-Defined.is ∙ asked_none m s c.args.rest.now (sym c.in_err-name-in-Defined.ensures.name))

pub returns-then-not-is_prefix-clause-none : goal.returns-then-not-is_prefix-clause-none
returns-then-not-is_prefix-clause-none g c = grind (arith, common_steps, reads-stuck)

pub returns-in-Number-clause-some : goal.returns-in-Number-clause-some
returns-in-Number-clause-some g c = λ s h.
    let m = g.K.Keeper.meaning c.args.keeper.now in
    (has (m.constant c.in-Number.word.now) s, (h.0, c.constant.ensures.kept (flags_in g.K.Keeper.keeping s) h.1), ap (λ t. reads m (step m (needs s) (as_token t)) c.args.rest.now) c.in-Number.is)

pub returns-in-Name-clause-some : goal.returns-in-Name-clause-some
returns-in-Name-clause-some g c = λ s h.
    let m = g.K.Keeper.meaning c.args.keeper.now in (
      has (m.named c.in-Name.name.now c.in-Name.arguments) s,
      (h.0, c.named-part.ensures.kept (flags_in g.K.Keeper.keeping s) h.1),
      ap (λ t. reads m (step m (needs s) (as_token t)) c.args.rest.now) c.in-Name.is,
    )

pub returns-in_ok-name-in-Defined-clause-some : goal.returns-in_ok-name-in-Defined-clause-some
returns-in_ok-name-in-Defined-clause-some g c = λ s h.
    let m = g.K.Keeper.meaning c.args.keeper.now in
    let n = c.in_ok-name-in-Defined in (
      has (m.is_defined n.name.now n.enclosed) s,
      (h.0, c.asked-part.ensures.kept (flags_in g.K.Keeper.keeping s) h.1),
      ap (λ t. reads m (step m (needs s) (as_token t)) c.args.rest.now) c.in-Defined.is ∙ asked m s c.args.rest.now n.name.now n.enclosed n.end.now (sym n.ensures.name),
    )

pub returns-else-not-is_prefix-clause-some : goal.returns-else-not-is_prefix-clause-some
returns-else-not-is_prefix-clause-some g c = λ s h.
    let m = g.K.Keeper.meaning c.args.keeper.now in
    let o = c.in-Operator.operator in
    let yes : is_prefix o ≡ true = sym c.is_prefix.ensures ∙ c.if-not-is_prefix.false in (
      needs (before o ∷ s),
      (c.push_prefix.ensures ∙ ap (λ ps. before o ∷ ps) h.0, c.note.ensures.noted (flags_in g.K.Keeper.keeping s) h.1),
      ap (λ t. reads m (step m (needs s) (as_token t)) c.args.rest.now) c.in-Operator.is ∙ ap (λ b. reads m (if b then needs (before o ∷ s) else stuck) c.args.rest.now) yes,
    )

pub returns-in-Opening-clause-some : goal.returns-in-Opening-clause-some
returns-in-Opening-clause-some g c = λ s h.
    let m = g.K.Keeper.meaning c.args.keeper.now in (
      needs (paren ∷ s),
      (
        c.push_paren.ensures ∙ ap (λ ps. paren ∷ ps) h.0,
        c.note-in-Opening.ensures.noted (flags_in g.K.Keeper.keeping s) h.1,
      ),
      ap (λ t. reads m (step m (needs s) (as_token t)) c.args.rest.now) c.in-Opening.is,
    )

pub returns-in-Closing-clause-none : goal.returns-in-Closing-clause-none
returns-in-Closing-clause-none g c = λ s.
    let m = g.K.Keeper.meaning c.args.keeper.now in
    ap (λ t. reads m (step m (needs s) (as_token t)) c.args.rest.now) c.in-Closing.is ∙ reads-stuck m c.args.rest.now
