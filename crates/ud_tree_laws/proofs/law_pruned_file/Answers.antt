-- The pruned text is the simplified text.
use Rattle.std.proofs.Common.{◌≡◌, ℕ, List, true, None, inr, refl, sym, subst}
use Rattle.std.proofs.lemmas.Slice.Eq.{bytes_eq-Decides}
use Rattle.ud_model.specs.text.Lines.{lines_of}
use Rattle.ud_model.specs.answer.Outcomes.{Outcome, HasOutcome}
use Rattle.ud_model.specs.sections.Items.{rules_of}
use Rattle.ud_model.specs.laws.Rereading.{LinesFit}
use Rattle.ud_simplified.specs.FoldedTexts.{folded_text, restored_text}
use Rattle.ud_laws.specs.output.LogicalProcessing.{HasNoLong, IsRewritten}
use Rattle.ud_laws.specs.output.ProcessedFiles.{printed, IsOutput}
use Rattle.ud_model.proofs.output.RereadLaws.{input_tree}
use Rattle.ud_laws.proofs.output.LogicalNodes.{stays_folded}
use Rattle.ud_passes.proofs.FitLemmas.{fitting}
use Rattle.ud_replace.specs.TextOutcomes.{TextOptions, pruned}
use Rattle.ud_tree_laws.proofs.law_pruned_file.Goals as goal

-- The pruned output of a run is its simplified output.
output_pruned : (o : TextOptions) (text : List ℕ) (a : Outcome) → HasOutcome o.run text a → a.fault ≡ None → LinesFit (lines_of a.output) → IsOutput o.run true text (pruned o.run a).output
output_pruned o text a d n f = record {
  text = a.output;
  is_printed = printed a d n;
  is_output = inr (refl, fitting o.run.table (rules_of o.run.settings) a.output f);
}

-- So a text that gives it, if it is folded, replaces the one that gives the text of the run.
rewritten : (o : TextOptions) (text final given : List ℕ) (a : Outcome) → folded_text text ≡ given → folded_text final ≡ (pruned o.run a).output → HasOutcome o.run given a → a.fault ≡ None →
    LinesFit (lines_of a.output) → HasNoLong given → HasNoLong (pruned o.run a).output → IsRewritten o.run true text final
rewritten o text final given a e g d n f m h =
    let d : HasOutcome o.run (folded_text text) a = subst (λ (t : List ℕ). HasOutcome o.run t a) (sym e) d in
    let t = input_tree o.run (folded_text text) d n in
    record {
      nodes = t.0;
      of_input = t.1;
      is_output = subst (λ (out : List ℕ). IsOutput o.run true (folded_text text) out) (sym g) (output_pruned o (folded_text text) a d n f);
      short = subst HasNoLong (sym e) m;
      short_final = subst HasNoLong (sym g) h;
    }

pub returns-clause-folded : goal.returns-clause-folded
returns-clause-folded c = λ o text a h f m n.
    rewritten o text (restored_text (pruned o.run a).output) (folded_text text) a refl ((bytes_eq-Decides (folded_text (restored_text (pruned o.run a).output)) (pruned o.run a).output).0 h.comes) h.runs h.faultless f m n

pub returns-clause-unfolded : goal.returns-clause-unfolded
returns-clause-unfolded c = λ o text a d n f m h.
    rewritten o text (pruned o.run a).output text a (stays_folded text m) (stays_folded (pruned o.run a).output h) d n f m h

pub returns-clause-lines : goal.returns-clause-lines
returns-clause-lines c = λ o text a d n f. output_pruned o text a d n f
