-- ActionLemmas: how a line changes the open sections of a text, and which mark it has.
use Rattle.std.proofs.Common.{◌≡◌, ℕ, suc, ◌-◌, List, [], ◌∷◌, ◌++◌, length, slice_get, Bool, true, false, not, ◌&&◌, ◌||◌, Option, Some, None, refl, sym, ◌∙◌, ap, ap₂, append_assoc, append-nil, length-append, arith, take, if◌then◌else◌}
use Rattle.ud_model.specs.declared.cond.Cond.{Cond}
use Rattle.ud_model.specs.declared.cond.Cond.TheVariants.{Yes, No, Unknown}
use Rattle.ud_model.specs.text.Scans.{Reading}
use Rattle.ud_model.specs.sections.Tree.{Item, Opener, Nodes, Head, Tree, text_line, if_line, elif_line, else_line, endif_line, nothing, first, elif, if_head, elif_head, else_head, closed, open_section, opener_of_head, is_ignoring, innermost, depth}
use Rattle.ud_model.specs.sections.Faults.{Fault, eof_in_comment, premature_eof, end_by}
use Rattle.ud_model.specs.sections.Pruning.{Part, an_elif, an_else, Mark, marked, is_inside_kept, endif_verdict, conds_of_elifs, conds_of_head, any_true, all_false, gives_way, ends_with_first_true, is_false, is_kept, first_kept_verdict, later_verdict}
use Rattle.ud_model.specs.aids.SoFar.{verdict_so_far, nodes_so_far, groups_so_far, head_so_far, marks_so_far}
use Rattle.ud_model.proofs.sections.Growth.{Adds, adds_text, adds_if, elif_after_if, elif_after_elif, else_after_if, else_after_elif, adds_endif, adds_under, complete}
use Rattle.ud_sections.specs.declared.sections.open_section.OpenSection.{OpenSection}
use Rattle.ud_sections.specs.declared.sections.open_section.StackOp.{StackOp}
use Rattle.ud_sections.specs.declared.sections.open_section.StackOp.TheVariants.{Stay, Push, Replace, Pop}
use Rattle.ud_sections.specs.declared.sections.open_section.Action.{Action}
use Rattle.ud_sections.specs.sections.SectionStates.{new_state, section_state_after, opener_verdict_in, is_kept_in, is_in_removed, next_section_state, endif_verdict_in}
use Rattle.ud_sections.specs.sections.OpenSections.{section_of, section_with_group, open_sections_of, section_at, last_or, is_else_part}
use Rattle.ud_sections.specs.sections.Actions.{act, Applies, kept_at, plain_at, text_verdict_at, if_action, opener_action, endif_action}
use Rattle.ud_sections.specs.sections.StackOps.{applied, innermost_of}
use Rattle.ud_sections.specs.sections.EndFaults.{end_in}
use Rattle.ud_sections.specs.sections.Checking.{opens_section}
use Rattle.ud_sections.specs.sections.MachineState.{end_fault_of}
use Rattle.ud_model.specs.declared.kind.Role.TheVariants.{IfGroup, ElifGroup, ElseGroup, EndifLine}
use Rattle.ud_model.specs.declared.verdict.Verdict.TheVariants.{Keep, Remove, ToEndif}
use Rattle.ud_sections.specs.declared.sections.section_state.SectionState.{SectionState}
use Rattle.ud_sections.specs.declared.sections.section_state.SectionState.TheVariants.{InRemoved, NoneKept, LastUnknown, LastFalse, AfterTrue}
use Rattle.std.proofs.lemmas.Grind.{common_steps}

-- The table by states is the table of verdicts by the groups so far.

-- the state follows the groups, one after another
pub phase-last : (p : SectionState) (cs : List Cond) (c : Cond) → section_state_after p (cs ++ c ∷ []) ≡ next_section_state (section_state_after p cs) c
phase-last p [] c = refl
phase-last p (d ∷ cs) c = phase-last (next_section_state p d) cs c

-- A state gives the verdicts that the table gives by five facts. They are whether the section gives
-- way with a group of this condition, and whether it gives way without one. The others are whether
-- no group is kept, whether some is true, and whether the last one is the first true one.
pub record Agrees (p : SectionState) (goes_with : Cond → Bool) (goes none some ends : Bool) : Type 0 where
  pub lives : is_in_removed p ≡ false
  pub opener : (part : Part) (c : Cond) → opener_verdict_in p part c ≡ (
      if goes_with c then Remove
      else if none && not (is_false c) then first_kept_verdict part
      else if not some then later_verdict part c
      else if ends then ToEndif
      else Remove)
  pub endif : endif_verdict_in p ≡ (if goes then Remove else if not some then Keep else if ends then Keep else Remove)
  pub kept : (c : Cond) → is_kept_in (next_section_state p c) ≡ (not (is_false c) && not some)

kept_live : (c : Cond) → is_kept_in (next_section_state LastUnknown c) ≡ (not (is_false c) && true)
kept_live c = grind arith

kept_skip : (c : Cond) → is_kept_in (next_section_state LastFalse c) ≡ (not (is_false c) && true)
kept_skip c = grind arith

kept_never : (c : Cond) → false ≡ (not (is_false c) && false)
kept_never c = grind arith

-- after the first true group
over-stays : (cs : List Cond) → section_state_after AfterTrue cs ≡ AfterTrue
over-stays [] = refl
over-stays (c ∷ cs) = over-stays cs

over_agrees : (goes_with : Cond → Bool) (goes : Bool) → ((c : Cond) → goes_with c ≡ goes) → Agrees AfterTrue goes_with goes false true false
over_agrees goes_with goes h = grind arith

mutual
  live_agrees : (cs : List Cond) → Agrees (section_state_after LastUnknown cs) (λ c. false) false false (any_true cs) (ends_with_first_true cs)
  live_agrees [] = record { lives = refl; opener = λ part c. refl; endif = refl; kept = kept_live }
  live_agrees (No ∷ cs) = skip_agrees cs
  live_agrees (Unknown ∷ cs) = live_agrees cs
  live_agrees (Yes ∷ []) = record { lives = refl; opener = λ part c. refl; endif = refl; kept = kept_never }
  live_agrees (Yes ∷ d ∷ cs) = rw (over-stays cs) (over_agrees (λ c. false) false (λ c. refl))

  skip_agrees : (cs : List Cond) → Agrees (section_state_after LastFalse cs) (λ c. false) false false (any_true cs) (ends_with_first_true cs)
  skip_agrees [] = record { lives = refl; opener = λ part c. refl; endif = refl; kept = kept_skip }
  skip_agrees (No ∷ cs) = skip_agrees cs
  skip_agrees (Unknown ∷ cs) = live_agrees cs
  skip_agrees (Yes ∷ []) = record { lives = refl; opener = λ part c. refl; endif = refl; kept = kept_never }
  skip_agrees (Yes ∷ d ∷ cs) = rw (over-stays cs) (over_agrees (λ c. false) false (λ c. refl))

seek_opener : (part : Part) (c : Cond) → opener_verdict_in NoneKept part c ≡ verdict_so_far [] part c
seek_opener part c = grind arith

-- the state of a section in a kept place agrees with the conditions of its groups
pub agrees : (cs : List Cond) →
    Agrees (section_state_after NoneKept cs) (λ c. gives_way (cs ++ c ∷ [])) (gives_way cs) (all_false cs) (any_true cs) (ends_with_first_true cs)
agrees [] = record { lives = refl; opener = seek_opener; endif = refl; kept = λ c. grind arith }
agrees (No ∷ cs) = agrees cs
agrees (Unknown ∷ cs) = live_agrees cs
agrees (Yes ∷ []) = record { lives = refl; opener = λ part c. refl; endif = refl; kept = kept_never }
agrees (Yes ∷ d ∷ cs) = rw (over-stays cs) (over_agrees (λ c. true) true (λ c. refl))

-- a section in a removed place stays there
dead-stays : (cs : List Cond) → section_state_after InRemoved cs ≡ InRemoved
dead-stays [] = refl
dead-stays (c ∷ cs) = dead-stays cs

pub opener_mark : (kept : Bool) (cs : List Cond) (part : Part) (c : Cond) →
    marked kept (verdict_so_far cs part c)
    ≡ record { kept = not (is_in_removed (section_state_after (new_state kept) cs)); verdict = opener_verdict_in (section_state_after (new_state kept) cs) part c }
opener_mark true cs part c = rw ((agrees cs).lives, (agrees cs).opener part c) refl
opener_mark false cs part c = rw (dead-stays cs) refl

pub endif_mark : (kept : Bool) (cs : List Cond) → marked kept (endif_verdict cs)
    ≡ record { kept = not (is_in_removed (section_state_after (new_state kept) cs)); verdict = endif_verdict_in (section_state_after (new_state kept) cs) }
endif_mark kept cs = grind (arith, agrees, dead-stays)

-- the state gives whether the last group is kept
pub kept_last : (kept : Bool) (cs : List Cond) (c : Cond) → is_kept_in (section_state_after (new_state kept) (cs ++ c ∷ [])) ≡ (kept && is_kept cs c)
kept_last true cs c = ap is_kept_in (phase-last NoneKept cs c) ∙ (agrees cs).kept c
kept_last false cs c = ap is_kept_in (dead-stays (cs ++ c ∷ []))

-- an action's mark
abbrev pub mark_of : Action → Mark
mark_of a = record { kept = a.kept; verdict = a.verdict }

-- the group that a head opens is kept if its section's state is
pub kept_inside : (kept : Bool) (h : Head Reading) → is_kept_in (section_state_after (new_state kept) (conds_of_head h)) ≡ (kept && is_inside_kept h)
kept_inside kept (if_head o) = kept_last kept [] o.cond
kept_inside kept (elif_head es o) = kept_last kept (conds_of_elifs es) o.cond
kept_inside kept (else_head es l) = kept_last kept (conds_of_elifs es) Yes

groups_complete : (kept : Bool) (h : Head Reading) (b : Nodes Reading) →
    groups_so_far kept (complete h b) ≡ head_so_far kept h ++ nodes_so_far (kept && is_inside_kept h) b
groups_complete kept h b = grind arith

-- inside one more open section
changes_under : (c : StackOp) (l : OpenSection) (old new : List OpenSection) → Applies c old new → Applies c (l ∷ old) (l ∷ new)
changes_under Stay l old new e = ap (λ ls. l ∷ ls) e
changes_under (Push k) l old new e = ap (λ ls. l ∷ ls) e
changes_under (Replace k) l old new (outer, last, e, f) = (l ∷ outer, last, ap (λ ls. l ∷ ls) e, ap (λ ls. l ∷ ls) f)
changes_under Pop l old new (last, e) = (last, ap (λ ls. l ∷ ls) e)

-- the action of a text line
abbrev pub text_action : Bool → Action
text_action kept = record { verdict = text_verdict_at kept; kept = kept; change = Stay }

-- the action of an item
abbrev pub item_act : Bool → Option OpenSection → Item Reading → Option Action
item_act p d (text_line r) = Some (text_action (kept_at d))
item_act p d (if_line o) = act p d IfGroup o.cond o.ignoring o.line.line.number
item_act p d (elif_line o) = act p d ElifGroup o.cond o.ignoring o.line.line.number
item_act p d (else_line r) = act p d ElseGroup Yes false r.line.number
item_act p d (endif_line r) = act p d EndifLine Yes false r.line.number

-- a line is added: its action, its mark, and its change of the open sections
pub record Moved (p kept plain : Bool) (d : Option OpenSection) (t u : Tree Reading) (x : Item Reading) : Type 0 where
  pub action : Action
  pub is_act : item_act p (section_at d kept plain t) x ≡ Some action
  pub marks_are : marks_so_far kept u ≡ marks_so_far kept t ++ mark_of action ∷ []
  pub changes : Applies action.change (open_sections_of kept plain t) (open_sections_of kept plain u)

opened_phase : (kept : Bool) (cs : List Cond) (l : OpenSection) (part : Part) (c : Cond) → l.state ≡ section_state_after (new_state kept) cs →
    record l { state = section_state_after (new_state kept) (cs ++ c ∷ []); else_seen = is_else_part part } ≡ section_with_group l part c
opened_phase kept cs l part c h = grind (arith, phase-last)

module _ (p : Bool) where
  moved_if : (kept plain : Bool) (d : Option OpenSection) (b : Nodes Reading) (o : Opener Reading) → kept_at d ≡ kept → plain_at p d ≡ plain →
      Moved p kept plain d (closed b) (open_section b (if_head o) (closed nothing)) (if_line o)
  moved_if kept plain d b o e f = record {
    action = if_action kept plain o.cond o.ignoring o.line.line.number;
    is_act = ap₂ (λ k q. Some (if_action k q o.cond o.ignoring o.line.line.number)) e f;
    marks_are = append-nil _ ∙ ap (λ m. nodes_so_far kept b ++ m ∷ []) (grind arith);
    changes = refl;
  }

  -- an opener that follows another one in its section
  moved_opener : (kept plain : Bool) (d : Option OpenSection) (ns b : Nodes Reading) (h k : Head Reading) (x : Item Reading) (part : Part) (c : Cond) →
      item_act p (Some (section_of kept plain h)) x ≡ opener_action (section_of kept plain h) part c →
      (section_of kept plain h).else_seen ≡ false → section_of kept plain k ≡ section_with_group (section_of kept plain h) part c →
      head_so_far kept k
      ≡ (head_so_far kept h ++ nodes_so_far (kept && is_inside_kept h) b) ++ marked kept (verdict_so_far (conds_of_head h) part c) ∷ [] →
      Moved p kept plain d (open_section ns h (closed b)) (open_section ns k (closed nothing)) x
  moved_opener kept plain d ns b h k x part c acts no_else level marks = record {
    action = record {
      verdict = opener_verdict_in (section_of kept plain h).state part c;
      kept = not (is_in_removed (section_of kept plain h).state);
      change = Replace (section_with_group (section_of kept plain h) part c);
    };
    is_act = acts ∙ rw no_else refl;
    marks_are = grind (arith, common_steps, opener_mark);
    changes = ([], section_of kept plain h, refl, ap (λ l. l ∷ []) level);
  }

  -- the effect of one more line
  pub moves : (kept plain : Bool) (d : Option OpenSection) {t u : Tree Reading} {x : Item Reading} → kept_at d ≡ kept → plain_at p d ≡ plain →
      Adds t x u → Moved p kept plain d t u x
  moves kept plain d e f (adds_text {b = b} {l = l}) = record {
    action = text_action kept;
    is_act = ap (λ k. Some (text_action k)) e;
    marks_are = refl;
    changes = refl;
  }
  moves kept plain d e f (adds_if {b = b} {o = o}) = moved_if kept plain d b o e f
  moves kept plain d e f (elif_after_if {ns = ns} {b = b} {o = o} {p = q}) =
      moved_opener kept plain d ns b (if_head o) (elif_head (first o b) q) (elif_line q) an_elif q.cond refl refl refl (refl)
  moves kept plain d e f (elif_after_elif {ns = ns} {b = b} {es = es} {o = o} {p = q}) =
      moved_opener kept plain d ns b (elif_head es o) (elif_head (elif es o b) q) (elif_line q) an_elif q.cond refl refl
      (opened_phase kept (conds_of_elifs es ++ o.cond ∷ []) (section_of kept plain (elif_head es o)) an_elif q.cond refl) refl
  moves kept plain d e f (else_after_if {ns = ns} {b = b} {o = o} {l = l}) =
      moved_opener kept plain d ns b (if_head o) (else_head (first o b) l) (else_line l) an_else Yes refl refl refl refl
  moves kept plain d e f (else_after_elif {ns = ns} {b = b} {es = es} {o = o} {l = l}) =
      moved_opener kept plain d ns b (elif_head es o) (else_head (elif es o b) l) (else_line l) an_else Yes refl refl
      (opened_phase kept (conds_of_elifs es ++ o.cond ∷ []) (section_of kept plain (elif_head es o)) an_else Yes refl) refl
  moves kept plain d e f (adds_endif {ns = ns} {b = b} {h = h} {l = l}) = record {
    action = endif_action (section_of kept plain h);
    is_act = refl;
    marks_are = grind (arith, common_steps, endif_mark);
    changes = (section_of kept plain h, refl);
  }
  moves kept plain d e f (adds_under {ns = ns} {h = h} {t = t} {u = u} {x = x} a) = grind (
    arith,
    moves (kept && is_inside_kept h) (plain || (opener_of_head h).ignoring) (Some (section_of kept plain h)) (kept_inside kept h) refl a,
    append_assoc,
    changes_under,
  )

  -- a line with an action is added
  pub takes : (kept plain : Bool) (t : Tree Reading) (x : Item Reading) (a : Action) →
      item_act p (section_at None kept plain t) x ≡ Some a → (u : Tree Reading) × Adds t x u
  takes kept plain (closed ns) (text_line r) a e = (_, adds_text)
  takes kept plain (closed ns) (if_line o) a e = (_, adds_if)
  takes kept plain (closed ns) (elif_line o) a e = cc
  takes kept plain (closed ns) (else_line r) a e = cc
  takes kept plain (closed ns) (endif_line r) a e = cc
  takes kept plain (open_section ns h (closed b)) (text_line r) a e = (_, adds_under adds_text)
  takes kept plain (open_section ns h (closed b)) (if_line o) a e = (_, adds_under adds_if)
  takes kept plain (open_section ns (if_head o) (closed b)) (elif_line q) a e = (_, elif_after_if)
  takes kept plain (open_section ns (elif_head es o) (closed b)) (elif_line q) a e = (_, elif_after_elif)
  takes kept plain (open_section ns (else_head es l) (closed b)) (elif_line q) a e = cc
  takes kept plain (open_section ns (if_head o) (closed b)) (else_line r) a e = (_, else_after_if)
  takes kept plain (open_section ns (elif_head es o) (closed b)) (else_line r) a e = (_, else_after_elif)
  takes kept plain (open_section ns (else_head es l) (closed b)) (else_line r) a e = cc
  takes kept plain (open_section ns h (closed b)) (endif_line r) a e = (_, adds_endif)
  takes kept plain (open_section ns h (open_section ms k t)) x a e =
      let s : (u : Tree Reading) × Adds (open_section ms k t) x u =
      takes (kept && is_inside_kept h) (plain || (opener_of_head h).ignoring) (open_section ms k t) x a e in
      (open_section ns h s.0, adds_under s.1)

-- the number of open sections is the depth
pub depth_levels : (kept plain : Bool) (t : Tree Reading) → length (open_sections_of kept plain t) ≡ depth t
depth_levels kept plain (closed ns) = refl
depth_levels kept plain (open_section ns h t) = ap suc (depth_levels (kept && is_inside_kept h) (plain || (opener_of_head h).ignoring) t)

-- the last open section is the innermost one
pub last_levels : (d : Option OpenSection) (kept plain : Bool) (t : Tree Reading) → last_or d (open_sections_of kept plain t) ≡ section_at d kept plain t
last_levels d kept plain (closed ns) = refl
last_levels d kept plain (open_section ns h t) =
    last_levels (Some (section_of kept plain h)) (kept && is_inside_kept h) (plain || (opener_of_head h).ignoring) t

last_from : (l : OpenSection) (ls : List OpenSection) → slice_get (l ∷ ls) (length ls) ≡ last_or (Some l) ls
last_from l [] = refl
last_from l (k ∷ ls) = last_from k ls

pub last_is : (ls : List OpenSection) → innermost_of ls ≡ last_or None ls
last_is [] = refl
last_is (l ∷ ls) = let e : length (l ∷ ls) - 1 ≡ length ls = omega arith in rw e (last_from l ls)

-- the innermost section of a text
pub innermost_level : (p : Bool) (t : Tree Reading) → innermost_of (open_sections_of true p t) ≡ section_at None true p t
innermost_level p t = last_is (open_sections_of true p t) ∙ last_levels None true p t

pub or_false : (b : Bool) → b ≡ (b || false)
or_false b = grind arith

-- the innermost section decides whether the next line is plain
pub plain_inside : (p plain : Bool) (d : Option OpenSection) (kept : Bool) (t : Tree Reading) → plain_at p d ≡ plain →
    plain_at p (section_at d kept plain t) ≡ (plain || is_ignoring t)
plain_inside p plain d kept (closed ns) e = e ∙ or_false plain
plain_inside p plain d kept (open_section ns h t) e =
    plain_inside p (plain || (opener_of_head h).ignoring) (Some (section_of kept plain h)) (kept && is_inside_kept h) t refl
    ∙ (grind arith)

abbrev line_at_level : Option OpenSection → Option ℕ
line_at_level None = None
line_at_level (Some l) = Some l.if_line

abbrev line_of_opener : Option (Opener Reading) → Option ℕ
line_of_opener None = None
line_of_opener (Some o) = Some o.line.line.number

abbrev opener_at : Option (Opener Reading) → Tree Reading → Option (Opener Reading)
opener_at d (closed ns) = d
opener_at d (open_section ns h t) = opener_at (Some (opener_of_head h)) t

innermost_is : (t : Tree Reading) → innermost t ≡ opener_at None t
innermost_is (closed ns) = refl
innermost_is (open_section ns h (closed b)) = refl
innermost_is (open_section ns h (open_section ms k t)) = innermost_is (open_section ms k t)

if_line_at : (d : Option OpenSection) (o : Option (Opener Reading)) (kept plain : Bool) (t : Tree Reading) → line_at_level d ≡ line_of_opener o →
    line_at_level (section_at d kept plain t) ≡ line_of_opener (opener_at o t)
if_line_at d o kept plain (closed ns) e = e
if_line_at d o kept plain (open_section ns h t) e =
    if_line_at (Some (section_of kept plain h)) (Some (opener_of_head h)) (kept && is_inside_kept h) (plain || (opener_of_head h).ignoring) t refl

end_by_line : Bool → ℕ → Option ℕ → Option Fault
end_by_line true n o = Some (eof_in_comment n)
end_by_line false n (Some k) = Some (premature_eof n k)
end_by_line false n None = None

end_level : (c : Bool) (n : ℕ) (l : Option OpenSection) → end_fault_of (end_in c n l) ≡ end_by_line c n (line_at_level l)
unfolding end_by_line
end_level true n l = refl
end_level false n None = refl
end_level false n (Some l) = refl

end_opener : (c : Bool) (n : ℕ) (o : Option (Opener Reading)) → end_by c n o ≡ end_by_line c n (line_of_opener o)
unfolding end_by_line
end_opener true n o = refl
end_opener false n None = refl
end_opener false n (Some o) = refl

-- the check of the end of the text
pub end_is : (c : Bool) (n : ℕ) (p : Bool) (t : Tree Reading) → end_fault_of (end_in c n (section_at None true p t)) ≡ end_by c n (innermost t)
end_is c n p t = grind (arith, end_level, end_by_line, if_line_at, innermost_is, end_opener)

pub changes_deeper : (c : StackOp) (old new : List OpenSection) → Applies c old new → opens_section c ≡ true → length new ≡ suc (length old)
changes_deeper c old new h k = grind (arith, length-append)

front_of : (ls : List OpenSection) (l : OpenSection) → take (length (ls ++ l ∷ []) - 1) (ls ++ l ∷ []) ≡ ls
front_of ls l = grind (arith, common_steps)

-- the change of the old open sections gives the new ones
pub changed_is : (c : StackOp) (old new : List OpenSection) → Applies c old new → applied c old ≡ new
changed_is Stay old new e = sym e
changed_is (Push l) old new e = sym e
changed_is (Replace l) old new (outer, last, e, f) = rw (e, f, front_of outer last) refl
changed_is Pop old new (last, e) = rw e (front_of new last)
