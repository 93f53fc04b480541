-- Onward: the reading and the output of a text so far are prefixes of those of every longer text.
use Rattle.std.proofs.Common.{◌≡◌, ℕ, List, [], ◌∷◌, ◌++◌, length, map, Bool, true, false, Option, refl, sym, ◌∙◌, ap, ap₂, append_assoc, append-nil, ◌⊎◌, inl, inr, arith}
use Rattle.std.specs.List.{concat}
use Rattle.std.proofs.lemmas.List.{same_from_push}
use Rattle.std.proofs.lemmas.List.Folds.{concat-append}
use Rattle.ud_model.specs.text.Lines.{Line, lines_of}
use Rattle.ud_model.specs.text.Scans.{Reading}
use Rattle.ud_model.specs.sections.Tree.{Item, Tree, lines}
use Rattle.ud_model.specs.sections.Pruning.{Mark, marks}
use Rattle.ud_model.specs.sections.Items.{Options, line_of, next_item}
use Rattle.ud_model.specs.sections.Faults.{Fault, AreFaultless, no_lines, one_more}
use Rattle.ud_model.specs.answer.Printing.{Judged, judged_line, judged_lines, pieces_by, piece_after, style_of}
use Rattle.ud_model.specs.answer.Listing.{levels, listed}
use Rattle.ud_model.specs.answer.Outcomes.{Outcome, output_by, FirstFaultAt, HasNoFault, lines_so_far, ReadsAs, ReadsSoFar, HasOutcome, ran_as, HasOutcomeSoFar, came_as}
use Rattle.ud_model.specs.answer.Outcomes.ReadsAs.{stops, ends}
use Rattle.ud_model.specs.answer.Outcomes.ReadsSoFar.{stops as stops_so_far, breaks, goes_on}
use Rattle.ud_model.specs.declared.settings.Settings.{Settings}
use Rattle.ud_model.specs.declared.settings.Listing.{Listing}
use Rattle.ud_model.specs.declared.settings.Listing.TheVariants.{Off, Names, Depths}
use Rattle.ud_model.proofs.text.Pushes.{ByPush, none, push, by_push, push_not_nil}
use Rattle.ud_model.proofs.text.LinesLemmas.{lines_so_far-append, lines_of-append}
use Rattle.ud_model.proofs.sections.Stays.{marks_stay, length_marks}
use Rattle.ud_model.proofs.sections.Soundness.{lines_with_next, sound_same, faulty_inside, reads_once, reads_so_far_once}
use Rattle.ud_model.proofs.sections.FaultStays.{reads_stay}
use Rattle.ud_model.proofs.answer.LevelLemmas.{levels_stay, length_levels}

-- The second items are the first ones and then more.
abbrev pub BeginsWith : List (Item Reading) → List (Item Reading) → Type 0
BeginsWith xs ys = (zs : List (Item Reading)) × (ys ≡ xs ++ zs)

module _ (o : Options) where
  parts_by : (xs : List (Item Reading)) (t : Tree Reading) → AreFaultless o xs t → {more : List Line} → ByPush more → (ys : List (Item Reading)) (u : Tree Reading) → AreFaultless o ys u →
      map line_of ys ≡ map line_of xs ++ more → BeginsWith xs ys
  parts_by xs t a none ys u b e = ([], sound_same o ys xs u t b a (e ∙ append-nil (map line_of xs)) ∙ sym (append-nil xs))
  parts_by xs t a (push {xs = ms} l p) _ _ no_lines e = absurd (push_not_nil (map line_of xs ++ ms) l (append_assoc (map line_of xs) ms (l ∷ []) ∙ sym e))
  parts_by xs t a (push {xs = ms} l p) _ _ (one_more ys u b k v d m) e =
      let s : (map line_of ys ≡ map line_of xs ++ ms) × (k ≡ l) =
      same_from_push (map line_of ys) (map line_of xs ++ ms) k l (sym (lines_with_next o ys u k) ∙ e ∙ sym (append_assoc (map line_of xs) ms (l ∷ []))) in
      let r : (zs : List (Item Reading)) × (ys ≡ xs ++ zs) = parts_by xs t a p ys u b s.0 in
      (r.0 ++ next_item o ys u k ∷ [], ap (λ (qs : List (Item Reading)). qs ++ next_item o ys u k ∷ []) r.1 ∙ append_assoc xs r.0 (next_item o ys u k ∷ []))

  -- Faultless items whose lines begin with those of others begin with these.
  sound_parts : (xs ys : List (Item Reading)) (t u : Tree Reading) (more : List Line) → AreFaultless o xs t → AreFaultless o ys u → map line_of ys ≡ map line_of xs ++ more → BeginsWith xs ys
  sound_parts xs ys t u more a b e = parts_by xs t a (by_push more) ys u b e

-- Of two prefixes of a list of lines one begins with the other.
meet : (ks bs : List Line) (x : Line) (cs ds : List Line) → ks ++ x ∷ cs ≡ bs ++ ds →
    ((mid : List Line) × (bs ≡ ks ++ x ∷ mid)) ⊎ ((mid : List Line) × (ks ≡ bs ++ mid))
meet ks [] x cs ds e = inr (ks, refl)
meet [] (b ∷ bs) x cs ds e = inl (bs, cc)
meet (a ∷ ks) (b ∷ bs) x cs ds e = grind (arith, meet ks bs x cs ds (cc))

module _ (o : Options) (ls later : List Line) (xs : List (Item Reading)) (t : Tree Reading) (through : HasNoFault o ls xs t) where
  through_more : (all : List Line) → all ≡ ls ++ later → (ys : List (Item Reading)) (u : Tree Reading) → HasNoFault o all ys u → BeginsWith xs ys
  through_more all e ys u h = grind (arith, sound_parts)

  stops_later : (all : List Line) → all ≡ ls ++ later → (ys : List (Item Reading)) (u : Tree Reading) (f : Fault) → FirstFaultAt o all ys u f → BeginsWith xs ys
  stops_later all e ys u f h =
      go (meet (map line_of ys) (map line_of xs) h.faulty h.later later (sym h.are ∙ e ∙ ap (λ (ks : List Line). ks ++ later) through.are))
    where
      go : ((mid : List Line) × (map line_of xs ≡ map line_of ys ++ h.faulty ∷ mid)) ⊎ ((mid : List Line) × (map line_of ys ≡ map line_of xs ++ mid)) → BeginsWith xs ys
      go (inl s) = absurd (faulty_inside o ys xs u t h.faulty s.0 f h.sound h.fault through.sound s.1)
      go (inr s) = sound_parts o xs ys t u s.0 through.sound h.sound s.1

module _ (o : Options) (given more : List ℕ) (xs : List (Item Reading)) (t : Tree Reading) (through : HasNoFault o (lines_so_far given) xs t) where
  ended : {ys : List (Item Reading)} {u : Tree Reading} {g : Option Fault} → ReadsAs o (given ++ more) ys u g → BeginsWith xs ys
  ended (stops ys u f h) =
      stops_later o (lines_so_far given) (lines_of-append given more).0 xs t through (lines_of (given ++ more)) (lines_of-append given more).1 ys u f h
  ended (ends ys u h) =
      through_more o (lines_so_far given) (lines_of-append given more).0 xs t through (lines_of (given ++ more)) (lines_of-append given more).1 ys u h

  gone_on : {ys : List (Item Reading)} {u : Tree Reading} {g : Option Fault} → ReadsSoFar o (given ++ more) ys u g → BeginsWith xs ys
  gone_on (stops_so_far ys u f h) =
      stops_later o (lines_so_far given) (lines_so_far-append given more).0 xs t through (lines_so_far (given ++ more)) (lines_so_far-append given more).1 ys u f h
  gone_on (breaks ys u f h b) =
      through_more o (lines_so_far given) (lines_so_far-append given more).0 xs t through (lines_so_far (given ++ more)) (lines_so_far-append given more).1 ys u h
  gone_on (goes_on ys u h n) =
      through_more o (lines_so_far given) (lines_so_far-append given more).0 xs t through (lines_so_far (given ++ more)) (lines_so_far-append given more).1 ys u h

same_begins : {xs ys : List (Item Reading)} → xs ≡ ys → BeginsWith xs ys
same_begins {xs = xs} e = ([], sym e ∙ sym (append-nil xs))

-- A text that ends is read as the text so far is, and then on.
pub reads_on : (o : Options) (given more : List ℕ) {xs ys : List (Item Reading)} {t u : Tree Reading} {f g : Option Fault} →
    ReadsSoFar o given xs t f → ReadsAs o (given ++ more) ys u g → BeginsWith xs ys
reads_on o given more (stops_so_far xs t f h) b = same_begins (reads_once (reads_stay more (stops_so_far xs t f h)).1 b).0
reads_on o given more (breaks xs t f h k) b = same_begins (reads_once (reads_stay more (breaks xs t f h k)).1 b).0
reads_on o given more (goes_on xs t h n) b = ended o given more xs t h b

-- A text that goes on is read as the text so far is, and then on.
pub reads_further : (o : Options) (given more : List ℕ) {xs ys : List (Item Reading)} {t u : Tree Reading} {f g : Option Fault} →
    ReadsSoFar o given xs t f → ReadsSoFar o (given ++ more) ys u g → BeginsWith xs ys
reads_further o given more (stops_so_far xs t f h) b = same_begins (reads_so_far_once (reads_stay more (stops_so_far xs t f h)).0 b).0
reads_further o given more (breaks xs t f h k) b = same_begins (reads_so_far_once (reads_stay more (breaks xs t f h k)).0 b).0
reads_further o given more (goes_on xs t h n) b = gone_on o given more xs t h b

-- The items that are read are the lines of their tree.
pub read_lines : {o : Options} {input : List ℕ} {xs : List (Item Reading)} {t : Tree Reading} {f : Option Fault} → ReadsAs o input xs t f → lines t ≡ xs
read_lines h = grind arith

-- The items that are read so far are the lines of their tree.
pub read_so_far_lines : {o : Options} {given : List ℕ} {xs : List (Item Reading)} {t : Tree Reading} {f : Option Fault} → ReadsSoFar o given xs t f → lines t ≡ xs
read_so_far_lines h = grind arith

-- Lines and further ones, with their marks.
pub judged_more : (xs ys : List (Item Reading)) (ms ns : List Mark) → length xs ≡ length ms →
    judged_lines (xs ++ ys) (ms ++ ns) ≡ judged_lines xs ms ++ judged_lines ys ns
judged_more [] ys [] ns e = refl
judged_more (x ∷ xs) ys (m ∷ ms) ns e = ap (λ (js : List Judged). judged_line x m ∷ js) (judged_more xs ys ms ns (omega arith))
judged_more xs ys ms ns e = absurd (omega arith)

-- Lines with as many marks are all judged lines.
pub judged_all : (xs : List (Item Reading)) (ms : List Mark) → length ms ≡ length xs → map (λ (j : Judged). j.line) (judged_lines xs ms) ≡ map line_of xs
judged_all (x ∷ xs) (m ∷ ms) e = ap (λ (ls : List Line). line_of x ∷ ls) (judged_all xs ms (omega arith))
judged_all xs ms h = grind arith

-- Lines and further ones, with their levels.
pub listed_more : (d : Bool) (xs ys : List (Item Reading)) (ns ks : List ℕ) → length xs ≡ length ns →
    listed d (xs ++ ys) (ns ++ ks) ≡ listed d xs ns ++ listed d ys ks
listed_more d [] ys [] ks e = refl
listed_more d (x ∷ xs) ys (n ∷ ns) ks e = simp (append_assoc, listed_more d xs ys ns ks (omega arith))
listed_more d xs ys ns ks e = absurd (omega arith)

-- The pieces of lines and further ones.
pub pieces_by-append : (piece : List Judged → Judged → List ℕ) (before js ks : List Judged) →
    pieces_by piece before (js ++ ks) ≡ pieces_by piece before js ++ pieces_by piece (before ++ js) ks
pieces_by-append piece before [] ks = ap (λ (bs : List Judged). pieces_by piece bs ks) (sym (append-nil before))
pieces_by-append piece before (j ∷ js) ks = simp (append_assoc, pieces_by-append piece (before ++ j ∷ []) js ks)

module _ (t u : Tree Reading) (more : List (Item Reading)) (e : lines u ≡ lines t ++ more) where
  as_many_marks : length (lines t) ≡ length (marks t)
  as_many_marks = sym (length_marks true t)

  judged_grow : (rest : List Judged) × (judged_lines (lines u) (marks u) ≡ judged_lines (lines t) (marks t) ++ rest)
  judged_grow = let m : (ms : List Mark) × (marks u ≡ marks t ++ ms) = marks_stay t u more e in
      (judged_lines more m.0, ap₂ judged_lines e m.1 ∙ judged_more (lines t) more (marks t) m.0 as_many_marks)

  -- The pieces of a longer text begin with those of the text, whatever the printer.
  pub pieces_grow : (piece : List Judged → Judged → List ℕ) →
      (rest : List (List ℕ)) × (pieces_by piece [] (judged_lines (lines u) (marks u)) ≡ pieces_by piece [] (judged_lines (lines t) (marks t)) ++ rest)
  pieces_grow piece =
      let j : (ks : List Judged) × (judged_lines (lines u) (marks u) ≡ judged_lines (lines t) (marks t) ++ ks) = judged_grow in (
        pieces_by piece (judged_lines (lines t) (marks t)) j.0,
        ap (pieces_by piece []) j.1 ∙ pieces_by-append piece [] (judged_lines (lines t) (marks t)) j.0,
      )

  listed_grow : (d : Bool) → (rest : List ℕ) × (listed d (lines u) (levels u) ≡ listed d (lines t) (levels t) ++ rest)
  listed_grow d = let m : (ks : List ℕ) × (levels u ≡ levels t ++ ks) = levels_stay t u more e in
      (listed d more m.0, ap₂ (listed d) e m.1 ∙ listed_more d (lines t) more (levels t) m.0 (sym (length_levels t)))

  -- The output of a longer text begins with that of the text.
  pub output_grows : (q : Listing) (s : Settings) → (rest : List ℕ) × (output_by q s (lines u) u ≡ output_by q s (lines t) t ++ rest)
  output_grows Off s = let p = pieces_grow (piece_after (style_of s)) in
      (concat p.0, ap concat p.1 ∙ concat-append (pieces_by (piece_after (style_of s)) [] (judged_lines (lines t) (marks t))) p.0)
  output_grows Names s = listed_grow false
  output_grows Depths s = listed_grow true

printed_on : (s : Settings) (xs ys : List (Item Reading)) (t u : Tree Reading) → lines t ≡ xs → lines u ≡ ys → BeginsWith xs ys →
    (rest : List ℕ) × (output_by s.listing s ys u ≡ output_by s.listing s xs t ++ rest)
printed_on s xs ys t u d e b =
    let r : (rest : List ℕ) × (output_by s.listing s (lines u) u ≡ output_by s.listing s (lines t) t ++ rest) =
    output_grows t u b.0 (e ∙ b.1 ∙ ap (λ (qs : List (Item Reading)). qs ++ b.0) (sym d)) s.listing s in (
      r.0,
      ap (λ (qs : List (Item Reading)). output_by s.listing s qs u) (sym e) ∙ r.1
          ∙ ap (λ (qs : List (Item Reading)). output_by s.listing s qs t ++ r.0) d,
    )

-- The output for a text that goes on begins with its output so far.
pub prints_further : (o : Options) (given more : List ℕ) {r s : Outcome} → HasOutcomeSoFar o given r → HasOutcomeSoFar o (given ++ more) s → (rest : List ℕ) × (s.output ≡ r.output ++ rest)
prints_further o given more (came_as {xs = xs} {t = t} a) (came_as {xs = ys} {t = u} b) =
    printed_on o.settings xs ys t u (read_so_far_lines a) (read_so_far_lines b) (reads_further o given more a b)

-- The output for a text that ends begins with its output so far.
pub prints_on : (o : Options) (given more : List ℕ) {r s : Outcome} → HasOutcomeSoFar o given r → HasOutcome o (given ++ more) s → (rest : List ℕ) × (s.output ≡ r.output ++ rest)
prints_on o given more (came_as {xs = xs} {t = t} a) (ran_as {xs = ys} {t = u} b) =
    printed_on o.settings xs ys t u (read_so_far_lines a) (read_lines b) (reads_on o given more a b)
