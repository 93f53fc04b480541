-- By whether the file is among the others, and by what was read of it.
use Rattle.std.proofs.Common.{sym, ◌∙◌, append-nil, arith}
use Rattle.ud_replace.specs.Moments.{no_call}
use Rattle.ud_tree.specs.declared.other_files.OtherKind.TheVariants.{Named, Silent, Unsearched}
use Rattle.ud_tree.proofs.OtherLemmas.{touches_more, reads_more}
use Rattle.ud_tree.proofs.other_files.add_other.Goals as goal

pub returns-then-is_among-clause-touches : goal.returns-then-is_among-clause-touches
returns-then-is_among-clause-touches g c = no_call

pub returns-in_err-look_at-clause-touches : goal.returns-in_err-look_at-clause-touches
returns-in_err-look_at-clause-touches g c = touches_more c.look_at.ensures.answer no_call c.look_at.ensures.call

pub returns-in_err-push-in-Named-clause-touches : goal.returns-in_err-push-in-Named-clause-touches
returns-in_err-push-in-Named-clause-touches g c = touches_more c.look_at.ensures.answer no_call c.look_at.ensures.call

pub returns-in_ok-push-in-Named-clause-touches : goal.returns-in_ok-push-in-Named-clause-touches
returns-in_ok-push-in-Named-clause-touches g c = touches_more c.look_at.ensures.answer no_call c.look_at.ensures.call

pub returns-in_ok-push-in-Named-clause-adds : goal.returns-in_ok-push-in-Named-clause-adds
returns-in_ok-push-in-Named-clause-adds g c = λ all start h.
    reads_more c.args.found c.as_bytes.result.now c.look_at.ensures.text c.look_at.ensures.answer Named (sym c.is_among.ensures ∙ c.if-is_among.false) c.as_bytes.ensures.value h c.look_at.ensures.call
    (rw (c.in_ok-look_at.was, c.in-Named.is) at c.look_at.ensures.tells) c.in_ok-push-in-Named.ensures.items (λ small. omega arith)

pub returns-in-Silent-clause-touches : goal.returns-in-Silent-clause-touches
returns-in-Silent-clause-touches g c = touches_more c.look_at.ensures.answer no_call c.look_at.ensures.call

pub returns-in-Silent-clause-adds : goal.returns-in-Silent-clause-adds
returns-in-Silent-clause-adds g c = λ all start h.
    reads_more c.args.found c.as_bytes.result.now c.look_at.ensures.text c.look_at.ensures.answer Silent (sym c.is_among.ensures ∙ c.if-is_among.false) c.as_bytes.ensures.value h c.look_at.ensures.call
    (rw (c.in_ok-look_at.was, c.in-Silent.is) at c.look_at.ensures.tells) (sym (append-nil c.args.others.now.named.items)) (λ small. omega arith)

pub returns-in-Unsearched-clause-touches : goal.returns-in-Unsearched-clause-touches
returns-in-Unsearched-clause-touches g c = touches_more c.look_at.ensures.answer no_call c.look_at.ensures.call

pub returns-in-Unsearched-clause-adds : goal.returns-in-Unsearched-clause-adds
returns-in-Unsearched-clause-adds g c = λ all start h.
    reads_more c.args.found c.as_bytes.result.now c.look_at.ensures.text c.look_at.ensures.answer Unsearched (sym c.is_among.ensures ∙ c.if-is_among.false) c.as_bytes.ensures.value h c.look_at.ensures.call
    (rw (c.in_ok-look_at.was, c.in-Unsearched.is) at c.look_at.ensures.tells) (sym (append-nil c.args.others.now.named.items)) (λ small. omega (arith, c.saturating_add-others.ensures))
