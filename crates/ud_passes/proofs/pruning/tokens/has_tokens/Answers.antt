-- One token more is the same, or another one.
use Rattle.std.proofs.Common.{◌≡◌, ◌+◌, List, ◌∷◌, Bool, false, length, drop, get_or, Some, refl, sym, ◌∙◌, ap, ap₂}
use Rattle.std.proofs.lemmas.List.{drop_more}
use Rattle.ud_model.specs.conditions.Tokens.{Token}
use Rattle.ud_model.specs.aids.Residuals.{chosen}
use Rattle.ud_simplified.specs.ResidualTexts.{are_tokens}
use Rattle.ud_model.specs.conditions.Parsing.{tokens_of}
use Rattle.ud_cond.specs.CondViews.{as_token}
use Rattle.ud_passes.proofs.TokenLists.{Begins, begins, Splits, splits, one_less}
use Rattle.ud_passes.proofs.pruning.tokens.has_tokens.Goals as goal

pub loop-flag-init : goal.loop-flag-init
loop-flag-init c = λ tokens e n. (tokens, e, n, refl)

pub returns-in_default : goal.returns-in_default
returns-in_default c = λ tokens e n.
    let i = c.loop-flag.invariant tokens e n in
    let flag : Bool = get_or c.args.flags.now c.loop-flag.flag-index false in
    let later : List Bool = drop (c.loop-flag.flag-index + 1) c.args.flags.now in
    let d : drop c.loop-flag.flag-index c.args.flags.now ≡ flag ∷ later = drop_more c.args.flags.now c.loop-flag.flag-index false c.loop-flag-test.true in
    let b : Begins i.0 = begins flag later i.0 (ap (λ (l : List Bool). length l) (sym d) ∙ i.2) in
    absurd (c.in_default.ensures.none b.token b.others (i.1 ∙ ap Some b.is))

pub returns-in_default-after_left : goal.returns-in_default-after_left
returns-in_default-after_left c = λ tokens e n.
    let i = c.loop-flag.invariant tokens e n in
    let flag : Bool = get_or c.args.flags.now c.loop-flag.flag-index false in
    let later : List Bool = drop (c.loop-flag.flag-index + 1) c.args.flags.now in
    let d : drop c.loop-flag.flag-index c.args.flags.now ≡ flag ∷ later = drop_more c.args.flags.now c.loop-flag.flag-index false c.loop-flag-test.true in
    let t : Token = as_token c.in-Some.token in
    let s : Splits t c.in-Some.after.now i.0 = splits c.loop-flag.text_rest.now t c.in-Some.after.now i.0 c.in-Some.ensures.some i.1 in
    sym (i.3 ∙ ap₂ (λ (l : List Bool) (ts : List Token). are_tokens (tokens_of c.loop-flag.left_rest.now) (chosen l ts)) d s.is ∙ c.in_default-after_left.ensures.none later s.others)

pub loop-flag-preserved : goal.loop-flag-preserved
loop-flag-preserved c = λ tokens e n.
    let i = c.loop-flag.invariant tokens e n in
    let flag : Bool = get_or c.args.flags.now c.loop-flag.flag-index false in
    let later : List Bool = drop (c.loop-flag.flag-index + 1) c.args.flags.now in
    let d : drop c.loop-flag.flag-index c.args.flags.now ≡ flag ∷ later = drop_more c.args.flags.now c.loop-flag.flag-index false c.loop-flag-test.true in
    let t : Token = as_token c.in-Some.token in
    let s : Splits t c.in-Some.after.now i.0 = splits c.loop-flag.text_rest.now t c.in-Some.after.now i.0 c.in-Some.ensures.some i.1 in (
      s.others,
      s.rest_has,
      one_less flag later t s.others (ap (λ (l : List Bool). length l) (sym d) ∙ i.2 ∙ ap (λ (l : List Token). length l) s.is),
      i.3 ∙ ap₂ (λ (l : List Bool) (ts : List Token). are_tokens (tokens_of c.loop-flag.left_rest.now) (chosen l ts)) d s.is ∙ c.in-Some-after_left.ensures.some later s.others,
    )
