-- By whether the next rule matches.
use Rattle.std.proofs.Common.{◌≡◌, ◌+◌, ◌++◌, ◌∷◌, [], Option, map, take, string_bytes, sym, subst, ◌∙◌, true≢false}
use Rattle.ud_tree.specs.declared.patterns.Effect.{Effect}
use Rattle.ud_tree.specs.Choices.{Decides, as_rule}
use Rattle.ud_tree.proofs.CoverLemmas.{one_more}
use Rattle.ud_tree.proofs.ChoiceLemmas.{decides_fits, decides_differs}
use Rattle.ud_tree.proofs.patterns.last_effect.Goals.{then-fits_file, else-fits_file}
use Rattle.ud_tree.proofs.patterns.last_effect.Goals as goal

pub loop-text-preserved : goal.loop-text-preserved
loop-text-preserved c =
    let grown : map string_bytes (take (c.loop-text.text-index + 1) c.args.patterns.now) ≡ map string_bytes (take c.loop-text.text-index c.args.patterns.now) ++ c.as_bytes.result.now ∷ [] =
    one_more string_bytes c.args.patterns.now c.loop-text.text-index c.text-item.result c.as_bytes.result.now c.loop-text-test.true c.text-item.is c.as_bytes.ensures.value in
    elim c.if-fits_file.branch [
      | then-fits_file w ↦ subst (λ (e : Option Effect). Decides c.args.below.now (map string_bytes (take (c.loop-text.text-index + 1) c.args.patterns.now)) e) (sym w.last-is)
          (decides_fits c.as_bytes.result.now (as_rule c.rule_of-rule.result) grown c.rule_of-rule.ensures (c.fits_file.ensures.0 w.if-fits_file.true) c.loop-text.invariant)
      | else-fits_file w ↦ subst (λ (e : Option Effect). Decides c.args.below.now (map string_bytes (take (c.loop-text.text-index + 1) c.args.patterns.now)) e) (sym w.last-is)
          (decides_differs c.as_bytes.result.now (as_rule c.rule_of-rule.result) grown c.rule_of-rule.ensures (λ m. true≢false (sym (c.fits_file.ensures.1 m) ∙ w.if-fits_file.false)) c.loop-text.invariant)
    ]
