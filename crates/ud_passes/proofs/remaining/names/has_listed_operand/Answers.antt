-- Name by name.
use Rattle.std.proofs.Common.{ℕ, List, Bool, ◌||◌, sym, ◌∙◌, ap}
use Rattle.std.specs.List.{list_any}
use Rattle.ud_model.specs.conditions.Conditions.{is_listed}
use Rattle.ud_passes.proofs.remaining.names.has_listed_operand.Goals as goal

pub returns-then-is_listed : goal.returns-then-is_listed
returns-then-is_listed c = λ calls h. sym (
    c.loop-name.invariant.same calls h ∙ ap (λ (x : List (List ℕ)). list_any (is_listed calls) x) c.in-Some.ensures.steps
    ∙ ap (λ (b : Bool). b || list_any (is_listed calls) c.next.new.self) (sym (c.is_listed.ensures calls h) ∙ c.if-is_listed.true))

pub returns : goal.returns
returns c = λ calls h. sym (c.loop-name.invariant.same calls h ∙ ap (λ (x : List (List ℕ)). list_any (is_listed calls) x) c.in-None.ensures.steps.0)
