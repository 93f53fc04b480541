-- The laws of the output, from the chain of lemmas.
use Rattle.std.proofs.Common.{◌≡◌, ℕ, ◌≤◌, List, [], ◌∷◌, length, map, Bool, true, false, not, ◌||◌, Option, None, refl, sym, ◌∙◌, ap, ap₂, subst, arith, rules}
use Rattle.std.specs.List.{concat}
use Rattle.std.proofs.lemmas.List.{length-map}
use Rattle.ud_model.specs.text.Lines.{Line, text_of, texts_of, lines_of, AreFormed}
use Rattle.ud_model.specs.text.Scans.{Reading}
use Rattle.ud_model.specs.sections.Tree.{Item, Nodes, Tree, closed, open_section, lines_of_nodes, innermost, item_with, with_lines, Opener, Groups, Elifs, text_line, if_line, elif_line, else_line, endif_line, conditional, first, elif, opener_with_line, groups_with_lines, elifs_with_lines}
use Rattle.ud_model.specs.sections.Pruning.{Mark, marks}
use Rattle.ud_model.specs.sections.Items.{Options, reading_of, line_of}
use Rattle.ud_model.specs.sections.Faults.{Fault, end_fault, ends_in_comment, last_number}
use Rattle.ud_model.specs.answer.Printing.{Judged, judged_lines, piece_after, pieces_by, style_of, some_other, printed_by}
use Rattle.ud_model.specs.answer.Outcomes.{Outcome, HasOutcome, ran_as, HasNoFault, output_by, differs_by}
use Rattle.ud_model.specs.answer.Outcomes.ReadsAs.{stops, ends}
use Rattle.ud_model.specs.laws.Worlds.{World, selected, Agrees, openers, openers_in}
use Rattle.ud_model.specs.laws.Pruned.{Edited, edited, IsPruned, pruned_lines, printed, IsUndecided, IsUnknown, Any}
use Rattle.ud_model.proofs.output.Folded.{folded}
use Rattle.ud_model.specs.laws.Rereading.{IsPlain, IsTreeOf, CleanRun, KeepsTruths, LinesFit, line_bytes, edited_bytes}
use Rattle.ud_model.specs.conditions.Expressions.{Expression}
use Rattle.ud_model.specs.laws.WrittenConditions.{condition_in}
use Rattle.ud_model.specs.declared.settings.Listing.{Listing}
use Rattle.ud_model.specs.declared.verdict.Verdict.TheVariants.{Keep}
use Rattle.ud_model.proofs.sections.Soundness.{sound_read, one_tree_of, sound_lines, read_lines}
use Rattle.ud_model.proofs.output.Changed.{whole_lines_are, lines_join, lone, pieces_lone, no_innermost, end_parts}
use Rattle.ud_model.proofs.output.PrintedPruned.{printed-pruned}
use Rattle.ud_model.proofs.output.PrunedTree.{closed_same, is_folded, pruned_openers}
use Rattle.ud_model.proofs.output.SelectedPruned.{selected-pruned}
use Rattle.ud_model.proofs.output.SameShape.{same_selected, openers-with}
use Rattle.ud_model.proofs.output.SeenLines.{Seen, scanned, left_seen, with_lines-twice, map-twice}
use Rattle.ud_model.proofs.output.WorldsExist.{world_of}
use Rattle.ud_model.proofs.output.EachLines.{other_lines}
use Rattle.ud_model.proofs.output.Undecided.{Keeps, pruned_keeps, Stays, pruned_undecided, undecided_stay}
use Rattle.ud_model.proofs.output.Each.{Each, Pairs, no_pair, pair}
use Rattle.ud_model.proofs.output.Sizes.{whole}
use Rattle.ud_model.proofs.sections.Stays.{length_marks}
use Rattle.std.proofs.lemmas.Slice.Eq.{bytes_eq-Decides}
use Rattle.ud_model.proofs.output.Heeding.{the_mode, are_read}
use Rattle.ud_model.proofs.output.OutputPieces.{line_in, pieces_formed, output_lines}
use Rattle.ud_model.proofs.output.RereadMore.{IsUncut}
use Rattle.ud_model.proofs.output.SoundAgain.{sound_again, IsFew, fit_short, sound_low, sound_few, again_few}
use Rattle.ud_model.proofs.output.PrunedHeights.{pruned_height, height-with}
use Rattle.ud_model.specs.aids.Height.{height, height_of_nodes}
use Rattle.ud_model.specs.declared.limits.TheConstants.{MAX_DEPTH}
use Rattle.ud_model.proofs.output.RereadChain.{AllButLast, lines_end, again}
use Rattle.ud_model.proofs.text.LinesLemmas.{lines_exist}
use Rattle.ud_model.proofs.output.WovenTrees.{Woven, TextGoes, EndifGoes, ElseGoes, IfGoes, ElifGoes, strewn_pairs, weave_nodes}

-- Items that differ from a tree's in their lines alone have a tree of the same shape.

module _ {A B M : Type 0} (f : A → M) (g : B → M) where
  -- The items are alike but for their lines.
  abbrev IsAlong : Item A → Item B → Type 0
  IsAlong x y = item_with g y ≡ item_with f x

  abbrev SameNodes : Nodes A → Nodes B → Type 0
  SameNodes ns us = with_lines g us ≡ with_lines f ns

  abbrev SameGroups : Groups A → Groups B → Type 0
  SameGroups gs hs = groups_with_lines g hs ≡ groups_with_lines f gs

  abbrev SameElifs : Elifs A → Elifs B → Type 0
  SameElifs es fs = elifs_with_lines g fs ≡ elifs_with_lines f es

  if_back : (y : Item B) (o : Opener A) → item_with g y ≡ if_line (opener_with_line f o) → (p : Opener B) × (y ≡ if_line p) × (opener_with_line g p ≡ opener_with_line f o)
  if_back (if_line p) o e = (p, refl, cc)
  if_back _ _ e = cc

  elif_back : (y : Item B) (o : Opener A) → item_with g y ≡ elif_line (opener_with_line f o) → (p : Opener B) × (y ≡ elif_line p) × (opener_with_line g p ≡ opener_with_line f o)
  elif_back (elif_line p) o e = (p, refl, cc)
  elif_back _ _ e = cc

  text_goes : (l : A) (y : Item B) → IsAlong (text_line l) y → TextGoes SameNodes SameGroups SameElifs l y
  text_goes l y e = grind arith

  endif_goes : (l : A) (y : Item B) → IsAlong (endif_line l) y → EndifGoes SameNodes SameGroups SameElifs l y
  endif_goes l y e = grind arith

  else_goes : (l : A) (y : Item B) → IsAlong (else_line l) y → ElseGoes SameNodes SameGroups SameElifs l y
  else_goes l y e = grind arith

  if_goes : (o : Opener A) (y : Item B) → IsAlong (if_line o) y → IfGoes SameNodes SameGroups SameElifs o y
  if_goes o y e = let b = if_back y o e in (b.0, b.1, λ ns us n. ap₂ (λ (k : Opener M) (u : Nodes M). first k u) b.2 n)

  elif_goes : (o : Opener A) (y : Item B) → IsAlong (elif_line o) y → ElifGoes SameNodes SameGroups SameElifs o y
  elif_goes o y e = let b = elif_back y o e in
      (b.0, b.1, λ es fs ns us h n. ap₂ (λ (d : Elifs M) (u : Nodes M). elif d (opener_with_line g b.0) u) h n ∙ ap (λ (k : Opener M). elif (elifs_with_lines f es) k (with_lines f ns)) b.2)

  all_along : (xs : List (Item A)) (ys : List (Item B)) → map (item_with g) ys ≡ map (item_with f) xs → Pairs IsAlong xs ys
  all_along [] [] e = no_pair
  all_along (x ∷ xs) (y ∷ ys) e = let p : item_with g y ≡ item_with f x = cc in
      let q : map (item_with g) ys ≡ map (item_with f) xs = cc in
      pair p (all_along xs ys q)
  all_along _ _ e = cc

  -- Such items are nodes of the same shape.
  pub nodes_along : (ns : Nodes A) (ys : List (Item B)) → map (item_with g) ys ≡ map (item_with f) (lines_of_nodes ns) → Woven SameNodes ns ys
  nodes_along ns ys e =
      weave_nodes IsAlong (λ d. ⊥) SameNodes SameGroups SameElifs (record {
        nothing_goes = refl;
        put_goes = λ ms us d k n. absurd k;
        text_goes = text_goes;
        endif_goes = endif_goes;
        groups_go = λ es fs h. ap (λ (d : Elifs M). conditional d) h;
        else_goes = else_goes;
        if_goes = if_goes;
        elif_goes = elif_goes;
      }) ns ys (strewn_pairs IsAlong (λ d. ⊥) (all_along (lines_of_nodes ns) ys e))

abbrev pub left_piece : Bool → Item (Edited Reading) → List ℕ
left_piece u y = edited_bytes u (line_in y)

printed_bytes : (u : Bool) (xs : List (Item Reading)) (ms : List Mark) → concat (map (left_piece u) (printed xs ms)) ≡ concat (map (lone u false false) (judged_lines xs ms))
printed_bytes u (x ∷ xs) (m ∷ ms) = grind (arith, printed_bytes u xs ms)
printed_bytes _ _ _ = refl

-- Without options the pieces are the output.
pub plain_output : (o : Options) → IsPlain o → (xs : List (Item Reading)) (ms : List Mark) → printed_by o.settings xs ms ≡ concat (map (left_piece o.settings.unpadded) (printed xs ms))
plain_output o p xs ms = grind (arith, pieces_lone, printed_bytes)

map_lines : {A B : Type 0} (f : A → B) (ys : List (Item A)) → map line_in (map (item_with f) ys) ≡ map (λ y. f (line_in y)) ys
map_lines f [] = refl
map_lines f (y ∷ ys) = ap₂ (λ (a : _) (b : List _). a ∷ b) (grind arith) (map_lines f ys)

line_read : (y : Item Reading) → reading_of y ≡ line_in y
line_read y = grind arith

map_readings : (ys : List (Item Reading)) → map (λ y. line_bytes (reading_of y)) ys ≡ map (λ y. line_bytes (line_in y)) ys
map_readings [] = refl
map_readings (y ∷ ys) = ap₂ (λ (a : List ℕ) (b : List (List ℕ)). a ∷ b) (ap line_bytes (line_read y)) (map_readings ys)

pub item_bytes : (u : Bool) (ys : List (Item Reading)) (zs : List (Item (Edited Reading))) → map (item_with scanned) ys ≡ map (item_with (left_seen u)) zs →
    map (λ y. line_bytes (reading_of y)) ys ≡ map (left_piece u) zs
item_bytes u ys zs e = let bytes : List Seen → List (List ℕ) = map (λ (s : Seen). s.bytes) in
    map_readings ys ∙ sym (map-twice (λ (y : Item Reading). scanned (line_in y)) (λ (s : Seen). s.bytes) ys)
    ∙ ap bytes (sym (map_lines scanned ys) ∙ ap (λ (l : List (Item Seen)). map line_in l) e ∙ map_lines (left_seen u) zs)
    ∙ map-twice (λ (z : Item (Edited Reading)). left_seen u (line_in z)) (λ (s : Seen). s.bytes) zs

pub kept_bytes : (u : Bool) (ls : List Reading) → map (edited_bytes u) (map (edited Keep) ls) ≡ map line_bytes ls
kept_bytes u [] = refl
kept_bytes u (l ∷ ls) = ap (λ (t : List (List ℕ)). line_bytes l ∷ t) (kept_bytes u ls)

-- The rest of nodes is no higher.
low_left : (u : Bool) (us ns : Nodes Reading) → with_lines line_bytes us ≡ with_lines (edited_bytes u) (folded ns) → height_of_nodes ns ≤ MAX_DEPTH → height_of_nodes us ≤ MAX_DEPTH
low_left u us ns e h = grind (arith, height-with, pruned_height)

module _ (o : Options) (p : IsPlain o) (input : List ℕ) where
  -- The output's items and their tree, which is the pruned tree of the input. They keep the limits
  -- but for a line's length, none has a cut keyword, and they don't end in a comment.
  pub record Result (r : Outcome) (ns : Nodes Reading) : Type 0 where
    pub tree : Nodes Reading
    pub is_tree : IsTreeOf o r.output (closed tree)
    pub alike : with_lines scanned tree ≡ with_lines (left_seen o.settings.unpadded) (folded ns)
    pub same : with_lines line_bytes tree ≡ with_lines (edited_bytes o.settings.unpadded) (folded ns)
    pub uncut : Each IsUncut is_tree.items
    pub few : Each IsFew is_tree.items
    pub low : height_of_nodes tree ≤ MAX_DEPTH
    pub calm : ends_in_comment is_tree.items ≡ false

  -- An input without a fault has such an output.
  pub reread : {r : Outcome} → HasOutcome o input r → r.fault ≡ None → (ns : Nodes Reading) → IsTreeOf o input (closed ns) → Result r ns
  reread (ran_as (stops xs t f s)) e ns a = cc
  reread (ran_as (ends xs t g)) e ns a =
      let same = one_tree_of o input t (closed ns) (record { items = xs; read = sound_read g.sound; are = g.are }) a in
      let z = again o p xs t g.sound (subst AllButLast g.are (lines_end 1 (texts_of input) (lines_exist input).formed)) in
      let left : printed xs (marks t) ≡ lines_of_nodes (folded ns) = cc (sound_lines g.sound, same, printed-pruned ns) in
      let along =
      nodes_along (left_seen o.settings.unpadded) scanned (folded ns) z.0 (z.1.same ∙ ap (λ (l : List (Item (Edited Reading))). map (item_with (left_seen o.settings.unpadded)) l) left) in
      let bytes : with_lines line_bytes along.nodes ≡ with_lines (edited_bytes o.settings.unpadded) (folded ns) =
      sym (with_lines-twice scanned (λ (q : Seen). q.bytes) along.nodes) ∙ ap (λ (m : Nodes Seen). with_lines (λ (q : Seen). q.bytes) m) along.alike
      ∙ with_lines-twice (left_seen o.settings.unpadded) (λ (q : Seen). q.bytes) (folded ns) in
      let formed : AreFormed (map (left_piece o.settings.unpadded) (printed xs (marks t))) =
      subst (λ (u : Tree Reading). AreFormed (map (left_piece o.settings.unpadded) (printed xs (marks u)))) (sym same)
      (pieces_formed o.settings.unpadded o input xs ns (subst (λ (u : Tree Reading). HasNoFault o (lines_of input) xs u) same g)) in
      let out : output_by o.settings.listing o.settings xs t ≡ concat (map (left_piece o.settings.unpadded) (printed xs (marks t))) = cc (p.unlisted, plain_output o p xs (marks t)) in
      record {
        tree = along.nodes;
        is_tree = record {
          items = z.0;
          read = are_read o p.none_ignores z.0 z.1.read (closed along.nodes) along.lines;
          are = cc (out, output_lines (map (left_piece o.settings.unpadded) (printed xs (marks t))) formed, item_bytes o.settings.unpadded z.0 (printed xs (marks t)) z.1.same, z.1.numbered);
        };
        alike = along.alike;
        same = bytes;
        uncut = z.1.uncut;
        few = again_few o (the_mode o) xs t z.0 z.1 (sound_few o xs t (texts_of input) g.sound (sym g.are));
        low = low_left o.settings.unpadded along.nodes ns bytes (subst (λ (u : Tree Reading). height u ≤ MAX_DEPTH) same (sound_low o xs t g.sound));
        calm = z.1.ends (end_parts (ends_in_comment xs) (last_number xs) (innermost t) e).0;
      }

kept_conditions : (u : Bool) (es : List (Edited Reading)) → Each Keeps es → map (λ (e : Edited Reading). (left_seen u e).condition) es ≡ map (λ (e : Edited Reading). condition_in e.line) es
kept_conditions u [] h = refl
kept_conditions u (e ∷ es) h = grind (arith, kept_conditions u es h.1)

-- The truths of the openers of the folded nodes.
pub truths_folded : (w : World Reading) (before : Nodes Reading) (v : World Reading) (after : Nodes Reading) → KeepsTruths w before v after →
    map v (openers after) ≡ map (λ (e : Edited Reading). w e.line) (openers (folded before))
truths_folded w before v after t = search (rules, pruned_openers)

module _ (k : CleanRun) where
  -- The output has the rest of the input.
  abbrev result : Result k.options k.clean.plain k.input k.outcome k.before
  result = reread k.options k.clean.plain k.input k.clean.runs k.clean.faultless k.before k.of_input

  -- The tree of the output is the one that it has.
  same_tree : k.after ≡ result.tree
  same_tree = closed_same k.after result.tree (one_tree_of k.options k.outcome.output (closed k.after) (closed result.tree) k.of_output result.is_tree)

  -- Each of its lines has the parts that stay of the line from which it comes.
  pub seen_alike : with_lines scanned k.after ≡ with_lines (left_seen k.options.settings.unpadded) (folded k.before)
  seen_alike = ap (with_lines scanned) same_tree ∙ result.alike

  -- This tree is the pruned tree of the input.
  pub what_is_left : with_lines line_bytes k.after ≡ with_lines (edited_bytes k.options.settings.unpadded) (folded k.before)
  what_is_left = ap (with_lines line_bytes) same_tree ∙ result.same

  pub pruned_left : (ps : Nodes (Edited Reading)) → IsPruned k.before ps → with_lines line_bytes k.after ≡ with_lines (edited_bytes k.options.settings.unpadded) ps
  pruned_left ps h = what_is_left ∙ ap (with_lines (edited_bytes k.options.settings.unpadded)) (is_folded k.before ps h)

  -- The lines that are selected of the output are those that are selected of the input.
  pub selected_again : (w v : World Reading) → Agrees w k.before → KeepsTruths w k.before v k.after → map line_bytes (selected v k.after) ≡ map line_bytes (selected w k.before)
  selected_again w v g t =
      same_selected line_bytes (edited_bytes k.options.settings.unpadded) v (λ (x : Edited Reading). w x.line) k.after (folded k.before) what_is_left (truths_folded w k.before v k.after t)
      ∙ ap (λ (l : List (Edited Reading)). map (edited_bytes k.options.settings.unpadded) l) (sym (selected-pruned w k.before g)) ∙ kept_bytes k.options.settings.unpadded (selected w k.before)

  -- Each opener of the output has the condition of the opener from which it comes.
  conditions_folded : map condition_in (openers k.after) ≡ map (λ (e : Edited Reading). condition_in e.line) (openers (folded k.before))
  conditions_folded = sym (map-twice scanned (λ (q : Seen). q.condition) (openers k.after))
      ∙ ap (λ (l : List Seen). map (λ (q : Seen). q.condition) l)
      (sym (openers-with scanned k.after) ∙ ap (λ (m : Nodes Seen). openers m) seen_alike ∙ openers-with (left_seen k.options.settings.unpadded) (folded k.before))
      ∙ map-twice (left_seen k.options.settings.unpadded) (λ (q : Seen). q.condition) (openers (folded k.before)) ∙ kept_conditions k.options.settings.unpadded (openers (folded k.before)) (pruned_keeps k.before)

  pub conditions_same : map condition_in (openers k.after) ≡ map (λ (e : Edited Reading). condition_in e.line) (openers_in (pruned_lines k.before))
  conditions_same = grind (arith, conditions_folded, pruned_openers)

  -- The openers of the output can be given the truths of those from which they come.
  pub truths_kept : (w : World Reading) → (v : World Reading) × KeepsTruths w k.before v k.after
  truths_kept w =
      world_of k.outcome.output k.after (map (λ (e : Edited Reading). w e.line) (openers_in (pruned_lines k.before)))
      (ap (λ (ys : List (Item Reading)). map line_of ys) (read_lines k.of_output.read) ∙ sym k.of_output.are)
      (length-map (openers_in (pruned_lines k.before)) (λ (e : Edited Reading). w e.line)
      ∙ sym (length-map (openers_in (pruned_lines k.before)) (λ (e : Edited Reading). condition_in e.line))
      ∙ ap (λ (l : List (Option Expression)). length l) (sym conditions_same) ∙ length-map (openers k.after) condition_in)

-- Nothing is decided of the output.
pub output_undecided : (u : Bool) (us ns : Nodes Reading) → with_lines line_bytes us ≡ with_lines (edited_bytes u) (folded ns) → IsUndecided us
output_undecided u us ns e = grind (arith, other_lines (edited_bytes u) Any IsUnknown (folded ns), e, other_lines line_bytes Any IsUnknown us, pruned_undecided ns)

-- Nothing is decided of the output of a clean run.
pub after_undecided : (k : CleanRun) → IsUndecided k.after
after_undecided k = output_undecided k.options.settings.unpadded k.after k.before (what_is_left k)

-- If each line stays, the pieces are the lines.
pub whole_pieces : (u : Bool) (ys : List (Item Reading)) (ms : List Mark) → Each Stays ms → map (lone u false false) (judged_lines ys ms) ≡ map whole (judged_lines ys ms)
whole_pieces u (y ∷ ys) (m ∷ ms) h = grind (arith, whole_pieces u ys ms h.1)
whole_pieces _ _ _ _ = refl

none_differ : (js : List Judged) → some_other (map whole js) js ≡ false
none_differ [] = refl
none_differ (j ∷ js) = ap₂ (λ (a b : Bool). not a || b) ((bytes_eq-Decides (whole j) (whole j)).1 refl) (none_differ js)

module _ (o : Options) (p : IsPlain o) (text : List ℕ) (ys : List (Item Reading)) (us : Nodes Reading) (g : HasNoFault o (lines_of text) ys (closed us)) (h : IsUndecided us) where
  the_pieces : pieces_by (piece_after (style_of o.settings)) [] (judged_lines ys (marks (closed us))) ≡ map whole (judged_lines ys (marks (closed us)))
  the_pieces = let js : List Judged = judged_lines ys (marks (closed us)) in
      pieces_lone o.settings.unpadded o.settings.blank o.settings.complement o.settings.renumber [] js p.unnumbered
      ∙ ap₂ (λ (b c : Bool). map (lone o.settings.unpadded b c) js) p.unblanked p.uncomplemented ∙ whole_pieces o.settings.unpadded ys (marks (closed us)) (undecided_stay us h)

  -- A text is printed as it is, if it has no faulty line and nothing of it is decided.
  pub same_output : output_by o.settings.listing o.settings ys (closed us) ≡ text
  same_output =
      let many : length ys ≡ length (marks (closed us)) = cc (sound_lines g.sound, length_marks true (closed us)) in
      ap (λ (q : Listing). output_by q o.settings ys (closed us)) p.unlisted
      ∙ ap (λ (l : List (List ℕ)). concat l) (the_pieces ∙ whole_lines_are ys (marks (closed us)) many ∙ ap (λ (l : List Line). map text_of l) (sym g.are)) ∙ lines_join text

  -- None of its lines differs.
  pub same_lines : differs_by o.settings.listing o.settings ys (closed us) ≡ false
  same_lines = grind (arith, the_pieces, none_differ)

  pub runs_again : end_fault ys (closed us) ≡ None → HasOutcome o text (record { output = text; fault = None; differs = false })
  runs_again e =
      subst (λ (r : Outcome). HasOutcome o text r) (same_parts same_output e same_lines) (ran_as (ends ys (closed us) g))
    where
      same_parts : {a b : List ℕ} {f f' : Option Fault} {d d' : Bool} → a ≡ b → f ≡ f' → d ≡ d' →
          ◌≡◌ {A = Outcome} (record { output = a; fault = f; differs = d }) (record { output = b; fault = f'; differs = d' })
      same_parts x y z = cc

-- No line of the output is faulty, and neither is its end.
output_sound : (o : Options) (p : IsPlain o) (input : List ℕ) {r : Outcome} (ns : Nodes Reading) (z : Result o p input r ns) → LinesFit (lines_of r.output) →
    HasNoFault o (lines_of r.output) z.is_tree.items (closed z.tree) × (end_fault z.is_tree.items (closed z.tree) ≡ None)
output_sound o p input ns z f = grind (arith, sound_again, fit_short, undecided_stay, output_undecided)

-- An output whose lines fit is printed as it is, if the input has this tree.
again_law : (o : Options) → IsPlain o → (input : List ℕ) → {r : Outcome} → HasOutcome o input r → r.fault ≡ None → LinesFit (lines_of r.output) →
    (ns : Nodes Reading) → IsTreeOf o input (closed ns) → HasOutcome o r.output (record { output = r.output; fault = None; differs = false })
again_law o p input {r} d e f ns t = let z : Result o p input r ns = reread o p input d e ns t in
    let s = output_sound o p input ns z f in
    runs_again o p r.output z.is_tree.items z.tree s.0 (output_undecided o.settings.unpadded z.tree ns z.same) s.1

pub input_nodes : (t : Tree Reading) → innermost t ≡ None → (ns : Nodes Reading) × (t ≡ closed ns)
input_nodes (closed ns) e = (ns, refl)
input_nodes (open_section ns h t) e = absurd (no_innermost ns t h e)

-- An input without a fault has a tree whose sections are closed.
pub input_tree : (o : Options) (input : List ℕ) → {r : Outcome} → HasOutcome o input r → r.fault ≡ None → (ns : Nodes Reading) × IsTreeOf o input (closed ns)
input_tree o input h e = grind (arith, input_nodes, sound_read)

-- An output whose lines fit is printed as it is.
pub runs_output : (o : Options) → IsPlain o → (input : List ℕ) → {r : Outcome} → HasOutcome o input r → r.fault ≡ None → LinesFit (lines_of r.output) →
    HasOutcome o r.output (record { output = r.output; fault = None; differs = false })
runs_output o p input {r} d e f = let n : (ns : Nodes Reading) × IsTreeOf o input (closed ns) = input_tree o input d e in search (rules, again_law)
