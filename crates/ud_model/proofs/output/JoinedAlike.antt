-- Of two joined lines both are removed or both stay, in a text without a fault.
--
-- A position between lines is kept if all groups around it are. `before` means that the position
-- before a line is kept, and `after` that the one after it is.
use Rattle.std.proofs.Common.{◌≡◌, List, [], ◌∷◌, ◌++◌, Bool, true, false, not, ◌&&◌, IsTrue, refl, append-nil, append_assoc, arith}
use Rattle.ud_model.specs.declared.cond.Cond.{Cond}
use Rattle.ud_model.specs.declared.cond.Cond.TheVariants.{Yes}
use Rattle.ud_model.specs.declared.verdict.Verdict.{Verdict}
use Rattle.ud_model.specs.declared.verdict.Verdict.TheVariants.{Keep}
use Rattle.ud_model.specs.text.Scans.{Reading, is_spanning}
use Rattle.ud_model.specs.sections.Tree.{Item, Opener, Tree, text_line, if_line, elif_line, else_line, endif_line, closed, open_section}
use Rattle.ud_model.specs.sections.Pruning.{Part, an_if, an_elif, an_else, Mark, marked, is_kept, is_inside_kept, is_removed, conds_of_elifs, conds_of_groups, endif_verdict}
use Rattle.ud_model.specs.aids.SoFar.{verdict_so_far, marks_so_far}
use Rattle.ud_model.specs.sections.Items.{reading_of}
use Rattle.ud_model.specs.sections.Faults.{keeps_rest, is_obfuscated_after}
use Rattle.ud_model.proofs.sections.Growth.{Adds, adds_text, adds_if, elif_after_if, elif_after_elif, else_after_if, else_after_elif, adds_endif, adds_under, complete}
use Rattle.ud_model.proofs.sections.Stays.{groups_so_far-complete}
use Rattle.ud_model.proofs.output.Suited.{Suits, suits_marked, suits_if, suits_elif, suits_else, suits_endif}
use Rattle.ud_model.proofs.sections.Stages.{verdict_by_stage, kept_by_stage}

module _ {L : Type 0} where
  -- The end of a text is kept, by whether its beginning is.
  abbrev pub ends_kept : Bool → Tree L → Bool
  ends_kept kept (closed ns) = kept
  ends_kept kept (open_section ns h t) = ends_kept (kept && is_inside_kept h) t

-- The effect of a line: the mark that it gets, by the position before it, and the position after
-- it.
pub data Does {L : Type 0} : Item L → Bool → Mark → Bool → Type 0 where
  does_text : (l : L) (before : Bool) → Does (text_line l) before (marked before Keep) before
  -- At the position before it, a section opens.
  does_if : (o : Opener L) (before : Bool) (v : Verdict) (inside : Bool) → (IsTrue (keeps_rest v) → inside ≡ true) →
      Does (if_line o) before (marked before v) (before && inside)
  -- A section goes on, whose groups around are all kept or not. The position before the line lies
  -- in it.
  does_elif : (o : Opener L) (kept was : Bool) (v : Verdict) (inside : Bool) → (IsTrue (keeps_rest v) → inside ≡ true) →
      Does (elif_line o) (kept && was) (marked kept v) (kept && inside)
  does_else : (l : L) (kept was : Bool) (v : Verdict) (inside : Bool) → (IsTrue (keeps_rest v) → inside ≡ true) →
      Does (else_line l) (kept && was) (marked kept v) (kept && inside)
  does_endif : (l : L) (kept was : Bool) (v : Verdict) → Does (endif_line l) (kept && was) (marked kept v) kept

-- The group of an opener that stays as an opener is kept.
keeps_inside : (cs : List Cond) (part : Part) (c : Cond) → IsTrue (keeps_rest (verdict_so_far cs part c)) → is_kept cs c ≡ true
keeps_inside cs part c h = grind (arith, kept_by_stage, verdict_by_stage)

module _ {L : Type 0} where
  pub record Grows (kept : Bool) (t u : Tree L) (x : Item L) : Type 0 where
    pub mark : Mark
    pub more : marks_so_far kept u ≡ marks_so_far kept t ++ mark ∷ []
    pub does : Does x (ends_kept kept t) mark (ends_kept kept u)
    pub suits : Suits mark.verdict x

  -- Each line has such an effect, with a mark that suits it.
  pub grows : (kept : Bool) {t u : Tree L} {x : Item L} → Adds t x u → Grows kept t u x
  grows kept (adds_text {l = l}) = record { mark = marked kept Keep; more = refl; does = does_text l kept; suits = suits_marked kept Keep (text_line l) tt }
  grows kept (adds_if {o = o}) = record {
    mark = marked kept (verdict_so_far [] an_if o.cond);
    more = simp append-nil;
    does = does_if o kept (verdict_so_far [] an_if o.cond) (is_kept [] o.cond) (keeps_inside [] an_if o.cond);
    suits = suits_marked kept (verdict_so_far [] an_if o.cond) (if_line o) (suits_if o o.cond);
  }
  grows kept (elif_after_if {o = o} {p = p}) = record {
    mark = marked kept (verdict_so_far (o.cond ∷ []) an_elif p.cond);
    more = simp (append-nil, append_assoc);
    does = does_elif p kept (is_kept [] o.cond) (verdict_so_far (o.cond ∷ []) an_elif p.cond) (is_kept (o.cond ∷ []) p.cond) (keeps_inside (o.cond ∷ []) an_elif p.cond);
    suits = suits_marked kept (verdict_so_far (o.cond ∷ []) an_elif p.cond) (elif_line p) (suits_elif (o.cond ∷ []) p);
  }
  grows kept (elif_after_elif {es = es} {o = o} {p = p}) =
      let cs : List Cond = conds_of_elifs es ++ o.cond ∷ [] in record {
        mark = marked kept (verdict_so_far cs an_elif p.cond);
        more = simp (append-nil, append_assoc);
        does = does_elif p kept (is_kept (conds_of_elifs es) o.cond) (verdict_so_far cs an_elif p.cond) (is_kept cs p.cond) (keeps_inside cs an_elif p.cond);
        suits = suits_marked kept (verdict_so_far cs an_elif p.cond) (elif_line p) (suits_elif cs p);
      }
  grows kept (else_after_if {o = o} {l = l}) = record {
    mark = marked kept (verdict_so_far (o.cond ∷ []) an_else Yes);
    more = simp (append-nil, append_assoc);
    does = does_else l kept (is_kept [] o.cond) (verdict_so_far (o.cond ∷ []) an_else Yes) (is_kept (o.cond ∷ []) Yes) (keeps_inside (o.cond ∷ []) an_else Yes);
    suits = suits_marked kept (verdict_so_far (o.cond ∷ []) an_else Yes) (else_line l) (suits_else (o.cond ∷ []) l);
  }
  grows kept (else_after_elif {es = es} {o = o} {l = l}) =
      let cs : List Cond = conds_of_elifs es ++ o.cond ∷ [] in record {
        mark = marked kept (verdict_so_far cs an_else Yes);
        more = simp (append-nil, append_assoc);
        does = does_else l kept (is_kept (conds_of_elifs es) o.cond) (verdict_so_far cs an_else Yes) (is_kept cs Yes) (keeps_inside cs an_else Yes);
        suits = suits_marked kept (verdict_so_far cs an_else Yes) (else_line l) (suits_else cs l);
      }
  grows kept (adds_endif {ns = ns} {b = b} {h = h} {l = l}) = record {
    mark = marked kept (endif_verdict (conds_of_groups (complete h b)));
    more = rw (groups_so_far-complete kept h b) simp append_assoc;
    does = does_endif l kept (is_inside_kept h) (endif_verdict (conds_of_groups (complete h b)));
    suits = suits_marked kept (endif_verdict (conds_of_groups (complete h b))) (endif_line l) (suits_endif (conds_of_groups (complete h b)) l);
  }
  grows kept (adds_under {ns = ns} {h = h} {t = t} {u = u} a) =
      let g : Grows (kept && is_inside_kept h) t u _ = grows (kept && is_inside_kept h) a in
      record { mark = g.mark; more = rw g.more simp append_assoc; does = g.does; suits = g.suits }

-- A line that joins the next one is removed exactly if the position after it isn't kept.
abbrev pub Carried : Item Reading → Mark → Bool → Type 0
Carried x m behind = (reading_of x).scan.joins_after ≡ true → is_removed m.verdict ≡ not behind

module _ (removed : Bool) where
  -- The facts after a line that isn't obfuscated and joins the next one.
  pub carried_step : {x : Item Reading} {before behind : Bool} {m : Mark} → Does x before m behind → is_obfuscated_after removed x m ≡ false → Carried x m behind
  carried_step h e j = grind arith

  -- A line that joins the one before it is removed exactly if that line is.
  pub joined_alike : {x : Item Reading} {before behind : Bool} {m : Mark} → Does x before m behind → is_obfuscated_after removed x m ≡ false →
      (reading_of x).scan.joins_before ≡ true → removed ≡ not before → is_removed m.verdict ≡ removed
  joined_alike h e j g = grind arith

  -- A line that is edited, but not to an `#if`, joins no other.
  pub edited_alone : {x : Item Reading} {before behind : Bool} {m : Mark} → Does x before m behind → is_obfuscated_after removed x m ≡ false →
      keeps_rest m.verdict ≡ false → is_removed m.verdict ≡ false → is_spanning (reading_of x).scan ≡ false
  edited_alone h e k r = grind arith
