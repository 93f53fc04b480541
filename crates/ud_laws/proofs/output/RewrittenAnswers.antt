-- Files that are replaced while folded are processed as the files, by their logical lines.
use Rattle.std.proofs.Common.{ℕ, List, Bool, sym, ◌∙◌, ap, subst}
use Rattle.std.specs.List.{flat_map}
use Rattle.ud_model.specs.text.Scans.{Scan, Reading}
use Rattle.ud_model.specs.sections.Tree.{Nodes, closed}
use Rattle.ud_model.specs.sections.Items.{Options}
use Rattle.ud_model.specs.laws.Rereading.{IsPlainC, IsTreeOf}
use Rattle.ud_simplified.specs.FoldedTexts.{CLine, folded_text}
use Rattle.ud_laws.specs.output.LogicalProcessing.{HasNoLong, line_items, IsCTree, IsRewritten, RewrittenTree}
use Rattle.ud_model.specs.laws.WrittenConditions.{Condition}
use Rattle.ud_laws.specs.output.Processing.{Preprocessor, Processes}
use Rattle.ud_laws.specs.output.ProcessedFiles.{FileTree}
use Rattle.ud_laws.specs.output.DecidedByNumbers.{MayDecide}
use Rattle.ud_simplified.proofs.FoldedReadings.{same_c_lines}
use Rattle.ud_laws.proofs.output.ProcessedAlike.{IsDoneAlike, processed_alike}
use Rattle.ud_laws.proofs.output.ProcessedAnswers.{output_nodes, outputs_processed}
use Rattle.ud_laws.proofs.output.LogicalNodes.{c_nodes, c_nodes_are, c_nodes_of, lines_short, by_lines, by_logical, nodes_both}

-- 1. The texts between.

module _ (o : Options) (plain : IsPlainC o) {S F : Type 0} (takes : S → List ℕ → Scan → S → Type 0) (enters : S → List ℕ → Scan → F → S → Type 0) (leaves : S → S → Type 0)
    (decides : S → Condition → Bool → S → Type 0) (prunes : Bool) (may : MayDecide o prunes decides) where
  abbrev p : Preprocessor S F Reading
  p = by_lines takes enters leaves decides

  abbrev q : Preprocessor S F CLine
  q = by_logical takes enters leaves decides

  -- The nodes of a text are those of the folded text.
  read_back : (bytes : List ℕ) (us : Nodes CLine) → IsCTree bytes us → IsCTree (folded_text bytes) us
  read_back bytes us i = i ∙ ap (λ (ls : List CLine). flat_map line_items ls) (sym (same_c_lines bytes))

  -- The lines of a folded text do what the logical lines of the text do.
  to_lines : (bytes : List ℕ) → HasNoLong (folded_text bytes) → (ns : Nodes Reading) → IsTreeOf o (folded_text bytes) (closed ns) → (us : Nodes CLine) → IsCTree bytes us → IsDoneAlike q p us ns
  to_lines bytes h ns t us i =
      subst (λ (ms : Nodes CLine). IsDoneAlike q p ms ns) (sym (c_nodes_are o plain (folded_text bytes) h ns t us (read_back bytes us i))) (nodes_both takes enters leaves decides ns (lines_short o plain (folded_text bytes) h ns t)).back

  -- The logical lines of the text do what these lines do.
  to_logical : (bytes : List ℕ) → HasNoLong (folded_text bytes) → (ns : Nodes Reading) → IsTreeOf o (folded_text bytes) (closed ns) → (us : Nodes CLine) → IsCTree bytes us → IsDoneAlike p q ns us
  to_logical bytes h ns t us i =
      subst (λ (ms : Nodes CLine). IsDoneAlike p q ns ms) (sym (c_nodes_are o plain (folded_text bytes) h ns t us (read_back bytes us i))) (nodes_both takes enters leaves decides ns (lines_short o plain (folded_text bytes) h ns t)).to

  -- Each file is processed as it was.
  pub rewritten_processed : (k : RewrittenTree o prunes F) (f : F) (s t : S) → Processes q k.before (k.before f) s t → Processes q k.after (k.after f) s t
  rewritten_processed k f s t g =
      let r : (f : F) → IsRewritten o prunes (k.inputs f) (k.outputs f) = k.are_rewritten in
      let left : (f : F) → (us : Nodes Reading) × IsTreeOf o (folded_text (k.outputs f)) (closed us) = λ f. output_nodes o plain (r f).is_output (r f).nodes (r f).of_input in
      let m : FileTree o prunes F = record {
        inputs = λ f. folded_text (k.inputs f);
        outputs = λ f. folded_text (k.outputs f);
        are_outputs = λ f. (r f).is_output;
        before = λ f. (r f).nodes;
        of_inputs = λ f. (r f).of_input;
        after = λ f. (left f).0;
        of_outputs = λ f. (left f).1;
      } in
      let first_step : (f : F) → IsDoneAlike q p (k.before f) (m.before f) = λ f. to_lines (k.inputs f) (r f).short (r f).nodes (r f).of_input (k.before f) (k.of_inputs f) in
      let last_step : (f : F) → IsDoneAlike p q (m.after f) (k.after f) =
      λ f. to_logical (k.outputs f) (r f).short_final (left f).0 (left f).1 (k.after f) (k.of_outputs f) in
      processed_alike p q (λ s t l. l) m.after k.after last_step
      (outputs_processed o plain takes enters leaves decides may.as_c prunes may.by_numbers m f s t
      (processed_alike q p (λ s t l. l) k.before m.before first_step g (first_step f))) (last_step f)

-- Both texts have nodes.
pub both_nodes : (o : Options) → IsPlainC o → {prunes : Bool} {input final : List ℕ} → IsRewritten o prunes input final → ((ns : Nodes CLine) × IsCTree input ns) × ((us : Nodes CLine) × IsCTree final us)
both_nodes o plain {input = input} {final = final} r = let us = output_nodes o plain r.is_output r.nodes r.of_input in (
  (c_nodes r.nodes, c_nodes_of o plain (folded_text input) r.short r.nodes r.of_input ∙ ap (λ (ls : List CLine). flat_map line_items ls) (same_c_lines input)),
  (c_nodes us.0, c_nodes_of o plain (folded_text final) r.short_final us.0 us.1 ∙ ap (λ (ls : List CLine). flat_map line_items ls) (same_c_lines final)),
)
