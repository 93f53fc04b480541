-- The mentions were added.
use Rattle.std.proofs.Common.{◌∙◌, refl, sym, arith}
use Rattle.std.proofs.lemmas.Bool.{false≢true}
use Rattle.ud_tree.proofs.report.Report.search.Goals as goal

pub returns-in-Ok-clause-finds : goal.returns-in-Ok-clause-finds
returns-in-Ok-clause-finds g c =
    let wanted = sym c.search_remaining.ensures ∙ grind (arith, c.if-not-search_remaining.false) in
    rw (← c.self.view_is) (record {
      kept = λ lost. lost;
      added = λ whole on. rw (← c.mode-mode.ensures, ← c.symbols-symbols.ensures) c.in-Ok.ensures.added;
      same = λ off. absurd (false≢true (sym off ∙ wanted));
      unnamed = refl;
    })
