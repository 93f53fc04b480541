-- A simplified text is processed as the text, if numbers for the uses of names decide conditions.
use Rattle.std.proofs.Common.{rules, ◌≡◌, ℕ, List, map, Bool, Option, Some, None, refl, sym, subst}
use Rattle.ud_model.specs.text.Lexemes.{Cell, shown}
use Rattle.ud_model.specs.text.Scans.{Scan, Reading}
use Rattle.ud_model.specs.sections.Tree.{Opener, Nodes, closed}
use Rattle.ud_model.specs.sections.Items.{Options, rules_of}
use Rattle.ud_model.specs.conditions.Expressions.{Expression}
use Rattle.ud_simplified.specs.ResidualTexts.{simplified_cells}
use Rattle.ud_model.specs.aids.Residuals.{residual}
use Rattle.ud_laws.specs.conditions.Choices.{stay}
use Rattle.ud_model.specs.conditions.Parsing.{expression_of}
use Rattle.ud_model.specs.laws.Rereading.{IsPlainC, IsTreeOf}
use Rattle.ud_simplified.specs.SimplifiedTexts.{simplified_under}
use Rattle.ud_model.specs.laws.WrittenConditions.{Condition}
use Rattle.ud_laws.specs.output.Processing.{DecidesAsC, Preprocessor, over_readings}
use Rattle.ud_laws.specs.output.DecidedByNumbers.{if_condition, KeepsNumbers}
use Rattle.ud_model.proofs.sections.Soundness.{one_tree_of}
use Rattle.ud_laws.proofs.conditions.ResidualTruth.{Tells, tells, truth_kept}
use Rattle.ud_simplified.proofs.ResidualRead.{untouched}
use Rattle.ud_model.proofs.output.PrunedTree.{closed_same}
use Rattle.ud_laws.proofs.output.NodesAlike.{same_nodes, alike_by}
use Rattle.ud_simplified.proofs.SimplifiedLineTexts.{lines_left}
use Rattle.ud_laws.proofs.output.SimplifiedTree.{Like, OpenerLeft, simplified_tree}
use Rattle.ud_laws.proofs.output.ProcessedAlike.{TextAlike, OpenerAlike, IsDoneAlike}
use Rattle.ud_laws.proofs.output.SimplifiedConditions.{condition_stays, operands_go}

module _ {S F L : Type 0} (p : Preprocessor S F L) where
  same_text : (l : L) → TextAlike p p l l
  same_text l = record { takes = λ s t h. h; enters = λ s f t h. h }

  -- At the same nodes the same is done.
  pub same_done : (ns : Nodes L) → IsDoneAlike p p ns ns
  same_done ns = same_nodes same_text (λ o s b t d. d) ns

module _ (o : Options) {S F : Type 0} (takes : S → List ℕ → Scan → S → Type 0) (enters : S → List ℕ → Scan → F → S → Type 0) (leaves : S → S → Type 0) (decides : S → Condition → Bool → S → Type 0)
    (as_c : DecidesAsC o.table decides) (numbers : KeepsNumbers o.table (rules_of o.settings) decides) where
  abbrev p : Preprocessor S F Reading
  p = over_readings takes enters leaves decides

  abbrev left_of : List Cell → Condition
  left_of cells = if_condition (simplified_cells o.table (rules_of o.settings) cells)

  -- The rest of a condition is decided as the condition.
  left_decided : (s t : S) (cells : List Cell) (b : Bool) → decides s (if_condition cells) b t → decides s (left_of cells) b t
  left_decided s t cells b d = by (expression_of (map shown cells)) refl
    where
      by : (e : Option Expression) → expression_of (map shown cells) ≡ e → decides s (left_of cells) b t
      by None e = subst (λ (cs : List Cell). decides s (if_condition cs) b t) (sym (untouched o.table (rules_of o.settings) cells e)) d
      by (Some e) q = let n = numbers s t cells e b q d in
          let k : Tells (residual o.table (rules_of o.settings) e) (stay o.table (rules_of o.settings) n.numbers) n.value = tells o.table (rules_of o.settings) n.allowed n.has in
          subst (λ (u : S). decides s (left_of cells) b u) ((as_c s (if_condition cells) b t d).1 refl)
          (n.left b k.value k.has (truth_kept b n.value k.value k.same.0 k.same.1 n.truth))

  opener_decided : (q k : Opener Reading) → OpenerLeft o q k → OpenerAlike p p q k
  opener_decided q k h s b t d = search (rules, condition_stays, operands_go, left_decided)

  text_done : (l m : Reading) → l ≡ m → TextAlike p p l m
  text_done l m e = subst (λ (r : Reading). TextAlike p p l r) e (same_text p l)

  -- At the simplified text the same is done as at the text.
  pub simplified_alike : IsPlainC o → (bytes : List ℕ) (ns us : Nodes Reading) → IsTreeOf o bytes (closed ns) → IsTreeOf o (simplified_under o bytes) (closed us) → IsDoneAlike p p ns us
  simplified_alike c bytes ns us i j =
      let t = simplified_tree o c.plain.none_ignores c.in_c bytes ns i (lines_left o.table (rules_of o.settings) bytes) in
      let e : t.0 ≡ us = closed_same t.0 us (one_tree_of o (simplified_under o bytes) (closed t.0) (closed us) t.1 j) in
      alike_by text_done opener_decided (subst (λ (ms : Nodes Reading). Like o ns ms) e t.2)
