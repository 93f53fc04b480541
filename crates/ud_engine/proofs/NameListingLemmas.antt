-- Appending names one after another, and which lines have names.
use Rattle.std.proofs.Common.{◌≡◌, ℕ, suc, ◌-◌, List, [], ◌∷◌, ◌++◌, length, Bool, true, false, refl, sym, ap, ap₂, subst, ◌∙◌, append_assoc, append-nil, arith}
use Rattle.ud_model.specs.text.Lines.{Line}
use Rattle.ud_model.specs.text.Scans.{Reading}
use Rattle.ud_model.specs.sections.Directives.{content_of}
use Rattle.ud_model.specs.sections.Tree.{Item, Tree, depth}
use Rattle.ud_model.specs.sections.Items.{Options, item_of, read_after, mode_after, next_item}
use Rattle.ud_model.specs.sections.Faults.{AreFaultless}
use Rattle.ud_model.specs.answer.Listing.{levels, listed, listed_names, depth_prefix, names_at, names_in_content}
use Rattle.ud_model.proofs.answer.LevelLemmas.{length_levels, levels_stay}
use Rattle.ud_model.proofs.sections.Growth.{Adds}
use Rattle.ud_model.proofs.sections.Soundness.{sound_lines, reading_of-item_of}
use Rattle.ud_model.proofs.sections.Unique.{grows}
use Rattle.ud_sections.proofs.lemmas.printing.ListingLemmas.{has_condition, LevelsGrow, levels_grow}
use Rattle.ud_engine.specs.NameLines.{name_line}
use Rattle.ud_io.specs.Streams.{Stream, TakesAllBut}
use Rattle.ud_engine.specs.DecidedLines.{DeciderRepresents, AreText}
use Rattle.ud_engine.specs.NameListing.{ListsLine}
use Rattle.ud_engine.specs.declared.line_decider.LineDecider.{LineDecider}
use Rattle.ud_io.proofs.StreamLemmas.{stream_then, stream_both}
use Rattle.std.proofs.lemmas.Grind.{common_steps}

-- The names before `left` were appended.
pub record NamesPut (a b : Stream) (prefix : List ℕ) (names left : List (List ℕ)) (old new : List ℕ) : Type 0 where
  pub done : List ℕ
  pub are : listed_names prefix names ≡ done ++ listed_names prefix left
  pub sent : TakesAllBut a b (old ++ done) new

-- One name more is appended.
pub name_put : (a b c : Stream) (prefix : List ℕ) (names left rest : List (List ℕ)) (name old mid new : List ℕ) → left ≡ name ∷ rest →
    NamesPut a b prefix names left old mid → TakesAllBut b c (mid ++ name_line prefix name) new → NamesPut a c prefix names rest old new
name_put a b c prefix names left rest name old mid new h k l = grind (arith, append_assoc, stream_then)

-- A line without a condition has no names.
no_names : (o : Options) (r : Reading) → has_condition (item_of o r) ≡ false → names_in_content (content_of r.scan) ≡ []
no_names o r e = grind (arith, e)

-- Names are listed with their depth, which the sections open after the line determine.
listed_at : (depths : Bool) (names : List (List ℕ)) (level opened : ℕ) (b : Bool) → (b ≡ true → suc level ≡ opened) → (b ≡ false → names ≡ []) →
    listed_names (depth_prefix depths (opened - 1)) names ≡ listed_names (depth_prefix depths level) names
listed_at depths names level opened b h k = grind arith

listed-append : (depths : Bool) (xs : List (Item Reading)) (x : Item Reading) (ns : List ℕ) (n : ℕ) → length ns ≡ length xs →
    listed depths (xs ++ x ∷ []) (ns ++ n ∷ []) ≡ listed depths xs ns ++ listed_names (depth_prefix depths n) (names_at x)
listed-append depths [] x [] n e = append-nil (listed_names (depth_prefix depths n) (names_at x))
listed-append depths [] x (m ∷ ns) n e = cc
listed-append depths (y ∷ ys) x [] n e = cc
listed-append depths (y ∷ ys) x (m ∷ ns) n e =
    ap (λ t. listed_names (depth_prefix depths m) (names_at y) ++ t) (listed-append depths ys x ns n (let h : suc (length ns) ≡ suc (length ys) = e in omega (arith, h)))
    ∙ sym (append_assoc (listed_names (depth_prefix depths m) (names_at y)) (listed depths ys ns) (listed_names (depth_prefix depths n) (names_at x)))

listed-join : (depths : Bool) (xs ys : List (Item Reading)) (ms ns : List ℕ) → length ms ≡ length xs →
    listed depths (xs ++ ys) (ms ++ ns) ≡ listed depths xs ms ++ listed depths ys ns
listed-join depths [] ys [] ns e = refl
listed-join depths [] ys (m ∷ ms) ns e = cc
listed-join depths (x ∷ xs) ys [] ns e = cc
listed-join depths (x ∷ xs) ys (m ∷ ms) ns e =
    ap (λ t. listed_names (depth_prefix depths m) (names_at x) ++ t) (listed-join depths xs ys ms ns (let h : suc (length ms) ≡ suc (length xs) = e in omega (arith, h)))
    ∙ sym (append_assoc (listed_names (depth_prefix depths m) (names_at x)) (listed depths xs ms) (listed depths ys ns))

text_unlisted : (depths : Bool) (xs : List (Item Reading)) (ns : List ℕ) → AreText xs → listed depths xs ns ≡ []
text_unlisted depths [] ns a = refl
text_unlisted depths (x ∷ xs) [] a = refl
text_unlisted depths (x ∷ xs) (n ∷ ns) a =
    ap₂ (λ c y. listed_names (depth_prefix depths n) (names_in_content c) ++ y) a.0 (text_unlisted depths xs ns a.1)

-- With text lines more, no more names are listed.
pub lists_none : (o : Options) (depths : Bool) (xs items : List (Item Reading)) (t u : Tree Reading) →
    AreFaultless o xs t → AreFaultless o (xs ++ items) u → AreText items → listed depths (xs ++ items) (levels u) ≡ listed depths xs (levels t)
lists_none o depths xs items t u s v a = grind (arith, common_steps, levels_stay, sound_lines, listed-join, length_levels, text_unlisted)

-- With one line more, its names are listed too, with the depth of the sections open after it.
pub lists_more : (o : Options) (depths : Bool) (xs : List (Item Reading)) (t u : Tree Reading) (l : Line) →
    AreFaultless o xs t → AreFaultless o (xs ++ next_item o xs t l ∷ []) u → (names : List (List ℕ)) →
    names ≡ names_in_content (content_of (read_after xs (mode_after o t) l).scan) →
    listed depths (xs ++ next_item o xs t l ∷ []) (levels u) ≡ listed depths xs (levels t) ++ listed_names (depth_prefix depths (depth u - 1)) names
lists_more o depths xs t u l s v names e = let r : Reading = read_after xs (mode_after o t) l in
    let x : Item Reading = next_item o xs t l in
    let a : Adds t x u = grows t u x (sound_lines v ∙ ap (λ ys. ys ++ x ∷ []) (sym (sound_lines s))) in
    let g : LevelsGrow 0 t u x = levels_grow 0 a in
    let own : names_at x ≡ names = ap (λ (q : Reading). names_in_content (content_of q.scan)) (reading_of-item_of o r) ∙ sym e in
    ap (listed depths (xs ++ x ∷ [])) g.levels_are
    ∙ listed-append depths xs x (levels t) g.level (length_levels t ∙ ap length (sound_lines s))
    ∙ ap (λ y. listed depths xs (levels t) ++ y)
    (ap (listed_names (depth_prefix depths g.level)) own
    ∙ sym (listed_at depths names g.level (depth u) (has_condition x) (λ b. let h = g.within b in omega (arith, h)) (λ b. e ∙ no_names o r b)))

module _ (o : Options) (depths : Bool) (xs : List (Item Reading)) (t u : Tree Reading) (l : Line) (s : AreFaultless o xs t) (v : AreFaultless o (xs ++ next_item o xs t l ∷ []) u) where
  -- The names that are listed for the line.
  abbrev own_names : List (List ℕ)
  own_names = names_in_content (content_of (read_after xs (mode_after o t) l).scan)

  abbrev own_text : List ℕ
  own_text = listed_names (depth_prefix depths (depth u - 1)) own_names

  module _ (names : List (List ℕ)) (are : names ≡ own_names) (prefix : List ℕ) (p : prefix ≡ depth_prefix depths (depth u - 1)) where
    named : listed_names prefix names ≡ own_text
    named = ap₂ listed_names p are

    -- The line is read, and its names are appended.
    pub lists_one : (r : LineDecider) → DeciderRepresents o r (xs ++ next_item o xs t l ∷ []) u → (a b c : Stream) (old mid new pending : List ℕ) →
        TakesAllBut a b (old ++ pending) mid → TakesAllBut b c (mid ++ listed_names prefix names) new → ListsLine o r xs t l depths a c old new pending
    lists_one r has a b c old mid new pending sent more = record {
      tree = u;
      has = has;
      more = own_text;
      is_more = lists_more o depths xs t u l s v own_names refl;
      sent = subst (λ x. TakesAllBut a c (old ++ (pending ++ x)) new) named (stream_both a b c old mid new pending (listed_names prefix names) sent more);
    }
