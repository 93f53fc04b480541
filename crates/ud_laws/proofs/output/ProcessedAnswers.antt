-- The outputs of files are processed as the files.
use Rattle.std.proofs.Common.{◌≡◌, ◌≢◌, ℕ, List, [], ◌∷◌, Bool, true, refl, sym, ◌∙◌, ap, subst, arith, ◌⊎◌, inl, inr}
use Rattle.ud_model.specs.text.Scans.{Scan, Reading}
use Rattle.ud_model.specs.sections.Tree.{Item, Nodes, Tree, closed, lines_of_nodes, with_lines}
use Rattle.ud_model.specs.sections.Pruning.{Mark}
use Rattle.ud_model.specs.sections.Items.{Options, reading_of, item_of, mode_after, read_after, next_item, rules_of}
use Rattle.ud_model.specs.answer.CommandLine.{options_of}
use Rattle.ud_model.specs.answer.Answer.{Answer, IsAnswer, refused, ran}
use Rattle.ud_model.specs.declared.verdict.Verdict.TheVariants.{Keep}
use Rattle.ud_model.specs.laws.Pruned.{Edited, edited}
use Rattle.ud_model.specs.laws.Rereading.{IsPlain, IsPlainC, AreRead, no_items, one_item, IsTreeOf, CleanRun}
use Rattle.ud_model.specs.laws.WrittenConditions.{Condition}
use Rattle.ud_laws.specs.output.Processing.{DecidesAsC, Preprocessor, over_readings, Processes}
use Rattle.ud_laws.specs.output.ProcessedFiles.{IsPrinted, printed, unedited, IsOutput, FileTree}
use Rattle.ud_laws.specs.output.DecidedByNumbers.{KeepsNumbers}
use Rattle.ud_simplified.specs.SimplifiedTexts.{simplified_under}
use Rattle.ud_laws.proofs.output.SimplifiedTree.{simplified_tree}
use Rattle.ud_simplified.proofs.SimplifiedLineTexts.{lines_left}
use Rattle.ud_laws.proofs.output.ProcessedSimplified.{same_done, simplified_alike}
use Rattle.ud_model.proofs.sections.Soundness.{reading_of-item_of, read_lines, one_tree_of}
use Rattle.ud_model.proofs.sections.Stays.{marks_so_far_same}
use Rattle.ud_laws.proofs.output.AnswerLaws.{faultless}
use Rattle.ud_laws.proofs.output.CProcessed.{nodes_right}
use Rattle.ud_laws.proofs.output.CSelected.{Clear}
use Rattle.ud_model.proofs.output.Each.{Each, each_both, Pairwise}
use Rattle.ud_model.proofs.output.Folded.{folded}
use Rattle.ud_laws.proofs.output.ProcessedAlike.{IsText, LinesText, pruned_stay, whole_stay, IsDoneAlike, nodes_alike, processed_alike}
use Rattle.ud_laws.proofs.output.ProcessedPruned.{HasOutput, is_pruned, is_kept, processed}
use Rattle.ud_laws.proofs.output.ProcessedPruned.{of_origin}
use Rattle.ud_model.proofs.output.RereadLaws.{reread, seen_alike}
use Rattle.ud_model.proofs.output.EachLines.{IsOf, from_items, AnyOpener}
use Rattle.ud_model.proofs.output.PrunedTree.{closed_same}
use Rattle.ud_model.proofs.output.SeenLines.{scanned, left_seen, with_lines-twice}
use Rattle.ud_laws.proofs.output.SelectedAgain.{clear_run}
use Rattle.std.proofs.lemmas.Grind.{common_steps}

-- 1. The text lines of a text are read as text.

abbrev Own : Options → Item Reading → Type 0
Own o x = x ≡ item_of o (reading_of x)

item_own : (o : Options) (x : Item Reading) → Own o x → IsOf IsText AnyOpener x
item_own o x h = grind arith

own_items : (o : Options) (xs : List (Item Reading)) (t : Tree Reading) → AreRead o xs t → Each (IsOf IsText AnyOpener) xs
own_items o _ _ no_items = tt
own_items o _ _ (one_item xs t r l u e) =
    each_both (IsOf IsText AnyOpener) xs (next_item o xs t l ∷ []) (own_items o xs t r)
    (item_own o (next_item o xs t l) (ap (item_of o) (sym (reading_of-item_of o (read_after xs (mode_after o t) l)))), tt)

pub lines_text : (o : Options) (input : List ℕ) (ns : Nodes Reading) → IsTreeOf o input (closed ns) → LinesText ns
lines_text o input ns i = grind (arith, common_steps, from_items, IsText, AnyOpener, Each, IsOf, read_lines, own_items)

-- 2. The nodes that pruning leaves of each file.

kept_seen : (u : Bool) (ns : Nodes Reading) → with_lines (left_seen u) (with_lines (edited Keep) ns) ≡ with_lines scanned ns
kept_seen u ns = with_lines-twice (edited Keep) (left_seen u) ns

-- The answer without a fault is the output of a run.
pub answer_output : {args : List (List ℕ)} {input : List ℕ} {a : Answer} → IsAnswer args input a → a.status ≢ 2 → IsPrinted (options_of args) input a.output
answer_output (refused f e) n = absurd (n refl)
answer_output {args = args} (ran r e d) n = printed r d (faultless (options_of args).settings r.differs r.fault n)

-- The output of a run has nodes.
pub printed_nodes : (o : Options) → IsPlain o → {input output : List ℕ} → IsPrinted o input output → (ns : Nodes Reading) → IsTreeOf o input (closed ns) → (us : Nodes Reading) × IsTreeOf o output (closed us)
printed_nodes o plain {input = input} (printed r d e) ns i = let k = reread o plain input d e ns i in (k.tree, k.is_tree)
printed_nodes o plain unedited ns i = (ns, i)

-- So does its simplified text.
pub output_nodes : (o : Options) → IsPlainC o → {prunes : Bool} {input output : List ℕ} → IsOutput o prunes input output → (ns : Nodes Reading) → IsTreeOf o input (closed ns) →
    (us : Nodes Reading) × IsTreeOf o output (closed us)
output_nodes o plain {prunes = prunes} {output = output} h ns i = let k = printed_nodes o plain.plain h.is_printed ns i in by k.0 k.1 h.is_output
  where
    by : (us : Nodes Reading) → IsTreeOf o h.text (closed us) → (output ≡ h.text) ⊎ ((prunes ≡ true) × (output ≡ simplified_under o h.text)) → (us : Nodes Reading) × IsTreeOf o output (closed us)
    by us j (inl e) = (us, subst (λ (text : List ℕ). IsTreeOf o text (closed us)) (sym e) j)
    by us j (inr e) = let t = simplified_tree o plain.plain.none_ignores plain.in_c h.text us j (lines_left o.table (rules_of o.settings) h.text) in
        (t.0, subst (λ (text : List ℕ). IsTreeOf o text (closed t.0)) (sym e.1) t.1)

module _ (o : Options) (plain : IsPlainC o) {S F : Type 0} (takes : S → List ℕ → Scan → S → Type 0) (enters : S → List ℕ → Scan → F → S → Type 0)
    (leaves : S → S → Type 0) (decides : S → Condition → Bool → S → Type 0) (as_c : DecidesAsC o.table decides) where
  abbrev p : Preprocessor S F Reading
  p = over_readings takes enters leaves decides

  -- The nodes that are left of a file, and that its output has them.
  record Left (ns us : Nodes Reading) : Type 0 where
    nodes : Nodes (Edited Reading)
    output : HasOutput p ns nodes
    alike : IsDoneAlike (of_origin p) p nodes us

  left : (input output : List ℕ) → IsPrinted o input output → (ns us : Nodes Reading) → IsTreeOf o input (closed ns) → IsTreeOf o output (closed us) → Left ns us
  left input _ (printed r d e) ns us b c =
      let k : CleanRun = record { options = o; input = input; outcome = r; clean = record { plain = plain.plain; runs = d; faultless = e }; before = ns; of_input = b; after = us; of_output = c } in
      record {
        nodes = folded ns;
        output = is_pruned (nodes_right o takes enters leaves decides as_c ns
            (subst (λ (ms : List Mark). Pairwise (Clear o) (lines_of_nodes ns) ms) (marks_so_far_same true (closed ns)) (clear_run d e ns b)));
        alike = nodes_alike o.settings.unpadded takes enters leaves decides (folded ns) us (sym (seen_alike k)) (pruned_stay ns (lines_text o input ns b));
      }
  left input _ unedited ns us b c =
      let q : ns ≡ us = closed_same ns us (one_tree_of o input (closed ns) (closed us) b c) in
      record {
        nodes = with_lines (edited Keep) ns;
        output = is_kept;
        alike = nodes_alike o.settings.unpadded takes enters leaves decides (with_lines (edited Keep) ns) us (kept_seen o.settings.unpadded ns ∙ ap (λ (ms : Nodes Reading). with_lines scanned ms) q) (whole_stay ns (lines_text o input ns b));
      }

  module _ (prunes : Bool) (numbers : prunes ≡ true → KeepsNumbers o.table (rules_of o.settings) decides) where
    -- The nodes of a file before, of its output, and after.
    record Steps (before after : Nodes Reading) : Type 0 where
      middle : Nodes Reading
      first_step : Left before middle
      last_step : IsDoneAlike p p middle after

    last : (text output : List ℕ) (us after : Nodes Reading) → IsTreeOf o text (closed us) → IsTreeOf o output (closed after) →
        (output ≡ text) ⊎ ((prunes ≡ true) × (output ≡ simplified_under o text)) → IsDoneAlike p p us after
    last text output us after i j (inl e) =
        let q : us ≡ after = closed_same us after (one_tree_of o text (closed us) (closed after) i (subst (λ (t : List ℕ). IsTreeOf o t (closed after)) e j)) in
        subst (λ (ns : Nodes Reading). IsDoneAlike p p us ns) q (same_done p us)
    last text output us after i j (inr e) =
        simplified_alike o takes enters leaves decides as_c (numbers e.0) plain text us after i (subst (λ (t : List ℕ). IsTreeOf o t (closed after)) e.1 j)

    steps : (input output : List ℕ) → IsOutput o prunes input output → (before after : Nodes Reading) → IsTreeOf o input (closed before) → IsTreeOf o output (closed after) → Steps before after
    steps input output h before after i j = let us = printed_nodes o plain.plain h.is_printed before i in record {
      middle = us.0;
      first_step = left input h.text h.is_printed before us.0 i us.1;
      last_step = last h.text output us.0 after us.1 j h.is_output;
    }

    -- Each file's output is processed as the file.
    pub outputs_processed : (k : FileTree o prunes F) (f : F) (s t : S) → Processes p k.before (k.before f) s t → Processes p k.after (k.after f) s t
    outputs_processed k f s t g =
        let of : (f : F) → Steps (k.before f) (k.after f) = λ f. steps (k.inputs f) (k.outputs f) (k.are_outputs f) (k.before f) (k.after f) (k.of_inputs f) (k.of_outputs f) in
        processed_alike p p (λ s t l. l) (λ f. (of f).middle) k.after (λ f. (of f).last_step)
        (processed_alike (of_origin p) p (λ s t l. l) (λ f. (of f).first_step.nodes) (λ f. (of f).middle) (λ f. (of f).first_step.alike)
        (processed p k.before (λ f. (of f).first_step.nodes) (λ f. (of f).first_step.output) f s t g) (of f).first_step.alike) (of f).last_step
