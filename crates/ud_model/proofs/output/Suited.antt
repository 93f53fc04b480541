-- A directive is edited only if it can be: an `#elif` to an `#if` or `#else`, an `#elif` or `#else`
-- to an `#endif`.
use Rattle.std.proofs.Common.{◌≡◌, List, [], Bool, refl, sym, subst, arith}
use Rattle.ud_model.specs.declared.cond.Cond.{Cond}
use Rattle.ud_model.specs.declared.cond.Cond.TheVariants.{Yes, Unknown}
use Rattle.ud_model.specs.declared.verdict.Verdict.{Verdict}
use Rattle.ud_model.specs.declared.verdict.Verdict.TheVariants.{Keep, Remove, ToIf, ToElse, ToEndif}
use Rattle.ud_model.specs.sections.Tree.{Item, Opener, if_line, elif_line, else_line, endif_line}
use Rattle.ud_model.specs.sections.Pruning.{an_if, an_elif, an_else, marked, endif_verdict}
use Rattle.ud_model.specs.aids.SoFar.{verdict_so_far}
use Rattle.ud_model.proofs.output.Edits.{KeepsOrGoes, endif_keeps, if_keeps}
use Rattle.ud_model.proofs.sections.Stages.{Stage, stage, verdict_at, verdict_by_stage}

-- The verdict is one that such a line may get.
abbrev pub Suits : {L : Type 0} → Verdict → Item L → Type 0
Suits Keep x = Unit {0}
Suits Remove x = Unit {0}
Suits ToIf (elif_line o) = o.cond ≡ Unknown
Suits ToElse (elif_line o) = Unit {0}
Suits ToEndif (elif_line o) = Unit {0}
Suits ToEndif (else_line l) = Unit {0}
Suits _ _ = ⊥

module _ {L : Type 0} where
  -- A verdict that suits if all groups around are kept does so in each case.
  pub suits_marked : (kept : Bool) (v : Verdict) (x : Item L) → Suits v x → Suits (marked kept v).verdict x
  suits_marked kept v x h = grind arith

  -- Each line may stay or be removed.
  keeps_suit : (v : Verdict) (x : Item L) → KeepsOrGoes v → Suits v x
  keeps_suit v x h = grind arith

  -- The table gives an `#if` a verdict that suits it.
  pub suits_if : (o : Opener L) (c : Cond) → Suits (verdict_so_far [] an_if c) (if_line o)
  suits_if o c = keeps_suit (verdict_so_far [] an_if c) (if_line o) (if_keeps c)

  elif_at : (s : Stage) (o : Opener L) (c : Cond) → o.cond ≡ c → Suits (verdict_at s an_elif c) (elif_line o)
  elif_at s o c e = grind arith

  -- The table gives a directive that opens a further group a verdict that suits it. It becomes the
  -- first one only if its condition is unknown.
  pub suits_elif : (cs : List Cond) (o : Opener L) → Suits (verdict_so_far cs an_elif o.cond) (elif_line o)
  suits_elif cs o = subst (λ (v : Verdict). Suits v (elif_line o)) (sym (verdict_by_stage cs an_elif o.cond)) (elif_at (stage cs) o o.cond refl)

  -- The table gives an `#else` a verdict that suits it.
  pub suits_else : (cs : List Cond) (l : L) → Suits (verdict_so_far cs an_else Yes) (else_line l)
  suits_else cs l = grind (arith, verdict_by_stage)

  -- The table gives an `#endif` a verdict that suits it.
  pub suits_endif : (cs : List Cond) (l : L) → Suits (endif_verdict cs) (endif_line l)
  suits_endif cs l = keeps_suit (endif_verdict cs) (endif_line l) (endif_keeps cs)
