use Rattle.std.proofs.Common.{◌∷◌, ℕ, List, Some, sym, ap, ◌∙◌}
use Rattle.ud_replace.specs.Calls.{was_read}
use Rattle.ud_replace.specs.Filling.{confirmed, not_read, other_text, other_facts, other_version}
use Rattle.ud_replace.proofs.StepLemmas.{looks_from, still_text, no_text}
use Rattle.ud_replace.proofs.replacement.confirm.Goals as goal

pub returns-in-None : goal.returns-in-None
returns-in-None g c = not_read _ c.in-None.ensures.noted

pub returns-then-ne : goal.returns-then-ne
returns-then-ne g c = other_text _ c.in-Some.seen (no_text _ _ c.as_slice.ensures.value c.if-ne.ensures) c.in-Some.ensures.noted

pub returns-then-not-has_facts_of : goal.returns-then-not-has_facts_of
returns-then-not-has_facts_of g c =
    let text = still_text _ _ c.as_slice.ensures.value c.if-ne.ensures in
    other_facts c.in-Some.seen (sym c.if-not-has_facts_of.ensures)
    (c.in-Some.ensures.noted ∙ ap (λ (t : List ℕ). was_read c.args.name.now t (Some c.in-Some.seen) ∷ g.F.Directory.history c.args.directory.now) text)

pub returns-then-not-is_unchanged : goal.returns-then-not-is_unchanged
returns-then-not-is_unchanged g c =
    let text = still_text _ _ c.as_slice.ensures.value c.if-ne.ensures in
    other_version c.in-Some.seen (sym c.if-not-has_facts_of.ensures)
    (looks_from (c.in-Some.ensures.noted ∙ ap (λ (t : List ℕ). was_read c.args.name.now t (Some c.in-Some.seen) ∷ g.F.Directory.history c.args.directory.now) text) c.if-not-is_unchanged.ensures)

pub returns : goal.returns
returns g c = let text = still_text _ _ c.as_slice.ensures.value c.if-ne.ensures in
    confirmed c.in-Some.seen (sym c.if-not-has_facts_of.ensures)
    (looks_from (c.in-Some.ensures.noted ∙ ap (λ (t : List ℕ). was_read c.args.name.now t (Some c.in-Some.seen) ∷ g.F.Directory.history c.args.directory.now) text) c.if-not-is_unchanged.ensures)
