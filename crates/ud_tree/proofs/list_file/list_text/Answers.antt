-- By the folded text, or by the text itself.
use Rattle.std.proofs.Common.{List, ℕ, sym, ap, ◌∙◌, subst}
use Rattle.ud_tree.specs.Remainders.{mode_of}
use Rattle.ud_tree.specs.Shown.{ListsFolded}
use Rattle.ud_tree.proofs.ShownLemmas.{lists_folded, lists_itself}
use Rattle.ud_tree.proofs.list_file.list_text.Goals as goal
use Rattle.ud_tree.proofs.list_file.list_text.Goals.{in-Some, in-None}

pub returns : goal.returns
returns c = elim c.match-folded.branch [
  | in-Some w ↦ lists_folded c.args.job.now.arguments.now c.add_listed.result (λ o p.
      let h = rw w.in-Some.is at (c.in_ok-folded.ensures o p) in (
        w.as_slice.ensures.value ∙ h.0,
        subst (λ (x : List ℕ). ListsFolded o (mode_of c.args.job.now.arguments.now) c.args.text.now x)
            (sym (w.as_slice-in-Some.ensures.value ∙ ap (λ v. v.items) w.inner.ensures)) h.1,
      )) (rw w.listing-is at c.add_listed.ensures)
  | in-None w ↦ lists_itself c.args.job.now.arguments.now c.add_listed.result
      (λ o p. rw w.in-None.is at (c.in_ok-folded.ensures o p)) (rw w.listing-is at c.add_listed.ensures)
]
