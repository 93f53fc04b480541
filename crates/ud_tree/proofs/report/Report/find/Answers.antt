-- At once, or the names in the text and then the mentions in the output.
use Rattle.std.proofs.Common.{◌≡◌, [], ◌∷◌, ◌∙◌, refl, subst, sym, arith}
use Rattle.ud_replace.specs.MadeOutcomes.{output_of}
use Rattle.ud_tree.specs.Remainders.{FindsAll}
use Rattle.ud_tree.specs.Runs.{made}
use Rattle.ud_tree.proofs.RemainderLemmas.{finds_at_once, finds_lost, finds_output, finds_then, found_in}
use Rattle.ud_tree.proofs.report.Report.find.Goals as goal
use Rattle.ud_tree.proofs.report.Report.find.Goals.{in-Ok, in-Err}

pub returns-clause-finds : goal.returns-clause-finds
returns-clause-finds g c = finds_then _ [] [] _ (found_in c.as_slice-text.ensures.value c.find_names.ensures.finds) (finds_output (rw c.output-output.ensures at c.search.ensures.finds))

pub returns-then-search_remaining-clause-finds : goal.returns-then-search_remaining-clause-finds
returns-then-search_remaining-clause-finds g c =
    let args = c.args.job.now.arguments.now in
    let kept = c.args.kept.now in
    let same : output_of kept ≡ kept.text.items = grind (arith, c.is_none.ensures, c.if-is_none.true) in
    let out : c.output-output.result.now ≡ kept.text.items = c.output-output.ensures ∙ same in
    let wanted = sym c.search_remaining.ensures ∙ c.if-search_remaining.true in
    elim c.match-add.branch [
      | in-Ok w ↦ subst (λ r. FindsAll args (kept.text.items ∷ []) (made c.args.name.now (output_of kept)) c.args.self.now r) (sym w.self-is)
          (rw same (rw (← c.self.view_is) (finds_at_once wanted refl (rw (← c.mode-mode.ensures, ← c.symbols-symbols.ensures, ← out) w.in-Ok.ensures.added) (rw (← c.mode-mode.ensures, ← c.symbols-symbols.ensures, ← out) w.in-Ok.ensures.unnamed))))
      | in-Err w ↦ subst (λ r. FindsAll args (kept.text.items ∷ []) (made c.args.name.now (output_of kept)) c.args.self.now r) (sym w.self-is) (finds_lost wanted w.note_lack.ensures.lost)
    ]
