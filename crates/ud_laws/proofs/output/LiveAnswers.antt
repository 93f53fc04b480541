-- The text lines of the output are the live ones of the input, byte by byte.
use Rattle.std.proofs.Common.{◌≡◌, ◌≢◌, ℕ, List, [], ◌∷◌, ◌++◌, map, None, refl, sym, ◌∙◌, ap, arith}
use Rattle.std.proofs.lemmas.List.{map-append}
use Rattle.ud_model.specs.text.Scans.{Reading}
use Rattle.ud_model.specs.sections.Tree.{Item, Nodes, Groups, Elifs, text_line, if_line, nothing, text, section, conditional, otherwise, first, elif, closed, lines_of_nodes, lines_of_groups, lines_of_elifs, item_with, opener_with_line, with_lines, groups_with_lines, elifs_with_lines}
use Rattle.ud_model.specs.sections.Items.{Options, reading_of, line_of}
use Rattle.ud_model.specs.answer.CommandLine.{options_of}
use Rattle.ud_model.specs.answer.Outcomes.{Outcome, HasOutcome}
use Rattle.ud_model.specs.answer.Answer.{Answer, IsAnswer, refused, ran}
use Rattle.ud_model.specs.laws.Pruned.{Edited, pruned_lines}
use Rattle.ud_model.specs.laws.Rereading.{CleanRun, IsPlain, IsTreeOf, line_bytes, edited_bytes}
use Rattle.ud_laws.specs.output.LiveLines.{text_lines_in, AreLive, LeavesLive, SelectsLive}
use Rattle.ud_model.proofs.sections.Soundness.{read_lines}
use Rattle.ud_model.proofs.output.Folded.{folded}
use Rattle.ud_model.proofs.output.PrintedPruned.{printed-pruned}
use Rattle.ud_laws.proofs.output.AnswerLaws.{faultless}
use Rattle.ud_laws.proofs.output.CSelected.{c_agrees}
use Rattle.ud_laws.proofs.output.OnlyDead.{line_from, live_lines, texts_stay}
use Rattle.ud_model.proofs.output.RereadLaws.{what_is_left, kept_bytes}
use Rattle.ud_laws.proofs.output.SymbolsGone.{same_worlds}
use Rattle.ud_model.specs.conditions.Table.{Argument}
use Rattle.ud_laws.specs.output.GoneSymbols.{SelectsWithout}
use Rattle.ud_model.proofs.output.WorldsExist.{Rise, text_rise}
use Rattle.ud_laws.proofs.output.SelectedAgain.{clear_run, c_world_again, c_selected_again}

module _ {L M : Type 0} (f : L → M) where
  mutual
    pub lines_with : (ns : Nodes L) → lines_of_nodes (with_lines f ns) ≡ map (item_with f) (lines_of_nodes ns)
    lines_with nothing = refl
    lines_with (text ns l) =
        ap (λ (xs : List (Item M)). xs ++ text_line (f l) ∷ []) (lines_with ns) ∙ sym (map-append (item_with f) (lines_of_nodes ns) (text_line l ∷ []))
    lines_with (section ns gs e) = grind (arith, map-append, lines_with ns, groups_with gs)

    groups_with : (gs : Groups L) → lines_of_groups (groups_with_lines f gs) ≡ map (item_with f) (lines_of_groups gs)
    groups_with (conditional es) = elifs_with es
    groups_with (otherwise es l ns) = grind (arith, map-append, elifs_with es, lines_with ns)

    elifs_with : (es : Elifs L) → lines_of_elifs (elifs_with_lines f es) ≡ map (item_with f) (lines_of_elifs es)
    elifs_with (first o ns) = ap (λ (xs : List (Item M)). if_line (opener_with_line f o) ∷ xs) (lines_with ns)
    elifs_with (elif es o ns) = grind (arith, map-append, elifs_with es, lines_with ns)

  texts_with : (xs : List (Item L)) → text_lines_in (map (item_with f) xs) ≡ map f (text_lines_in xs)
  texts_with [] = refl
  texts_with (text_line l ∷ xs) = ap (λ (ls : List M). f l ∷ ls) (texts_with xs)
  texts_with (x ∷ xs) = texts_with xs

  text_bytes : (ns : Nodes L) → text_lines_in (lines_of_nodes (with_lines f ns)) ≡ map f (text_lines_in (lines_of_nodes ns))
  text_bytes ns = ap (λ (xs : List (Item M)). text_lines_in xs) (lines_with ns) ∙ texts_with (lines_of_nodes ns)

module _ (k : CleanRun) where
  abbrev left_lines : List Reading
  left_lines = map line_from (text_lines_in (pruned_lines k.before))

  run_rise : Rise 1 (map reading_of (lines_of_nodes k.before))
  run_rise = text_rise k.input k.before (ap (λ (ys : List (Item Reading)). map line_of ys) (read_lines k.of_input.read) ∙ sym k.of_input.are)

  -- The text lines that are left of the input are the live ones.
  left_live : AreLive k.before left_lines
  left_live = live_lines k.before 1 run_rise

  -- The text lines of the output have the bytes of these.
  left_bytes : map line_bytes (text_lines_in (lines_of_nodes k.after)) ≡ map line_bytes left_lines
  left_bytes =
      sym (text_bytes line_bytes k.after) ∙ ap (λ (us : Nodes (List ℕ)). text_lines_in (lines_of_nodes us)) (what_is_left k) ∙ text_bytes (edited_bytes k.options.settings.unpadded) (folded k.before)
      ∙ ap (λ (xs : List (Item (Edited Reading))). map (edited_bytes k.options.settings.unpadded) (text_lines_in xs)) (sym (printed-pruned k.before))
      ∙ ap (λ (es : List (Edited Reading)). map (edited_bytes k.options.settings.unpadded) es) (sym (texts_stay k.before 1 run_rise)) ∙ kept_bytes k.options.settings.unpadded left_lines

-- The run of an answer, with the trees of its input and its output.
abbrev run_of : (o : Options) (input : List ℕ) (r : Outcome) → HasOutcome o input r → r.fault ≡ None → IsPlain o → (ns us : Nodes Reading) → IsTreeOf o input (closed ns) →
    IsTreeOf o r.output (closed us) → CleanRun
run_of o input r d e p ns us i j = record {
  options = o;
  input = input;
  outcome = r;
  clean = record { plain = p; runs = d; faultless = e };
  before = ns;
  of_input = i;
  after = us;
  of_output = j;
}

-- The text lines of the answer's output are the live ones of its input.
pub answered_live : {args : List (List ℕ)} {input : List ℕ} {a : Answer} → IsAnswer args input a → a.status ≢ 2 → IsPlain (options_of args) → LeavesLive (options_of args) input a.output
answered_live (refused f e) n p = absurd (n refl)
answered_live {args = args} {input = input} (ran r e d) n p = λ ns us i j.
    let k = run_of (options_of args) input r d (faultless (options_of args).settings r.differs r.fault n) p ns us i j in (left_lines k, left_live k, left_bytes k)

-- Each line of the input that C may select is live.
pub answered_c_live : {args : List (List ℕ)} {input : List ℕ} {a : Answer} → IsAnswer args input a → a.status ≢ 2 → SelectsLive (options_of args) input
answered_c_live (refused f e) n = absurd (n refl)
answered_c_live {args = args} {input = input} (ran r e d) n = λ ns i w g l c.
    (w, c_agrees (options_of args) w ns (clear_run d (faultless (options_of args).settings r.differs r.fault n) ns i) g, c)

-- C selects the same lines of the output without a symbol that is gone.
pub answered_without : {args : List (List ℕ)} {input : List ℕ} {a : Answer} → IsAnswer args input a → a.status ≢ 2 →
    IsPlain (options_of args) → (name : List ℕ) (u : List Argument) →
    SelectsWithout (options_of args) name u input a.output
answered_without (refused f e) n p name u = absurd (n refl)
answered_without {args = args} {input = input} (ran r e d) n p name u = λ ns us i j gone same w v pair.
    let k = run_of (options_of args) input r d (faultless (options_of args).settings r.differs r.fault n) p ns us i j in
    ((same_worlds (options_of args).table u name gone.no_value same us gone.unnamed v).0 (c_world_again k w pair.c_world v pair.truths), c_selected_again k w pair.c_world v pair.truths)
