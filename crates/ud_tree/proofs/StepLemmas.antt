-- Steps of a walk, one after another.
use Rattle.std.proofs.Common.{◌≡◌, ◌⊎◌, inl, inr, ℕ, ◌+◌, ◌<◌, ◌≤◌, ◌^◌, List, [], ◌∷◌, ◌++◌}
use Rattle.std.proofs.Common.{length, Option, Some, add-one, drop, drop-cons, get_or, suc}
use Rattle.std.proofs.Common.{map, Bool, true, false, refl, sym, ap, ◌∙◌, subst, arith, append-nil}
use Rattle.std.proofs.Common.{append_assoc, length-append}
use Rattle.std.proofs.lemmas.Grind.{flat_map-append}
use Rattle.std.proofs.lemmas.List.{drop_all, get_or-map, length-map}
use Rattle.std.proofs.lemmas.List.Elements.{All-append, All-contains, All-contains_itself}
use Rattle.std.proofs.lemmas.List.Elements.{All-weaker, Contains-append_cases, Contains-push}
use Rattle.std.proofs.lemmas.List.Elements.{Contains-append_left, Contains-append_right}
use Rattle.std.specs.List.{All, AllByRecursion, Contains}
use Rattle.std.specs.Prelude.{option_to_list, string_bytes}
use Rattle.ud_replace.specs.declared.node.Lookup.TheVariants.{Present}
use Rattle.ud_replace.specs.declared.node.Node.{Node}
use Rattle.ud_replace.specs.declared.node.NodeKind.TheVariants.{File}
use Rattle.ud_replace.specs.declared.node.FileId.{FileId}
use Rattle.ud_replace.specs.Calls.{Call, walked, WalkCall, met, listed}
use Rattle.ud_tree.specs.declared.walk.Found.{Found}
use Rattle.ud_tree.specs.declared.walk.Waiting.{Waiting}
use Rattle.ud_tree.specs.Covering.{IsDue, IsIn, Begins, Visits, Gives, IsAllowed, CoversPaths}
use Rattle.ud_tree.specs.Covering.{CoversInput, WasEntered}
use Rattle.ud_tree.specs.Reports.{ReportState, Tells}
use Rattle.ud_tree.specs.Scopes.{Scope, IsChosen, IsLeft, IsRooted}
use Rattle.ud_tree.specs.Unmatched.{MarksCalls, MarksWalk}
use Rattle.ud_tree.specs.WalkMessages.{AreTold, none_told, then_answered, then_refused, joined}
use Rattle.ud_tree.specs.WalkMessages.{is_unread, is_refused, ReportsWalk, WasListed}
use Rattle.ud_tree.specs.Walks.{Finds, WasMet}
use Rattle.ud_tree.specs.WalkSteps.{Place, named, given, inside, path_of, IsInside, May, Deed, deed}
use Rattle.ud_tree.specs.WalkSteps.{Looks, Reports, is_silent, is_told, State, Look, Reads}
use Rattle.ud_tree.specs.WalkSteps.{is_whole, is_cut, Lists, places_in, Steps, no_step, then_look}
use Rattle.ud_tree.specs.WalkSteps.{then_list, Stops, topped}
use Rattle.ud_tree.proofs.CoverLemmas.{Within, only_one, parts_are}
use Rattle.ud_tree.proofs.LookLemmas.{Fits, World, at_head, begins_of, files_met, files_taken}
use Rattle.ud_tree.proofs.LookLemmas.{gives_of, loses, looks_list_none, looks_mark, looks_rooted}
use Rattle.ud_tree.proofs.LookLemmas.{looks_told, visits_of}
use Rattle.ud_tree.proofs.MarkLemmas.{marks_none, marks_other, marks_then}
use Rattle.ud_tree.proofs.ReportLemmas.{tells_none, tells_same, tells_then}
use Rattle.ud_tree.proofs.WalkLemmas.{met_left, met_right}
use Rattle.ud_tree.proofs.WalkTellLemmas.{counted_both}

-- 1. Lists and their images.

none_in : {X : Type 0} {x : X} → ¬ (Contains [] x)
none_in there = omega (arith, there.1)

all_of : {X : Type 0} {P : X → Type 0} (xs : List X) → ((x : X) → Contains xs x → P x) → All P xs
all_of {P = P} xs h = All-weaker (Contains xs) P h xs (All-contains_itself xs)

in_same : {X : Type 0} {xs ys : List X} {x : X} → ys ≡ xs → Contains xs x → Contains ys x
in_same {x = x} same there = subst (λ zs. Contains zs x) (sym same) there

on_left : {A B C : Type 0} → (A → C) → A ⊎ B → C ⊎ B
on_left f (inl a) = inl (f a)
on_left f (inr b) = inr b

on_right : {A B C : Type 0} → (B → C) → A ⊎ B → A ⊎ C
on_right f (inl a) = inl a
on_right f (inr b) = inr (f b)

-- An element of an image of a list comes from the list.
mapped : {X Y : Type 0} (f : X → Y) (xs : List X) (y : Y) → Contains (map f xs) y →
    (x : X) × Contains xs x × (f x ≡ y)
mapped f [] y h = absurd (none_in h)
mapped f (x ∷ xs) y h = elim (Contains-append_cases (f x ∷ []) (map f xs) y h) [
  | inl first ↦ (x, at_head x xs, only_one (f x) y first)
  | inr later ↦ let h = mapped f xs y later in
      (h.0, Contains-append_right (x ∷ []) xs h.0 h.1, h.2)
]

pub map_has : {X Y : Type 0} (f : X → Y) (xs : List X) (x : X) → Contains xs x →
    Contains (map f xs) (f x)
map_has f xs x h = (
  h.0,
  subst (λ (n : ℕ). h.0 < n) (sym (length-map xs f)) h.1,
  get_or-map f xs h.0 x (f x) h.1 ∙ ap f h.2,
)

same_paths : (f : List ℕ → Place) → ((path : List ℕ) → path_of (f path) ≡ path) →
    (paths : List (List ℕ)) → map path_of (map f paths) ≡ paths
same_paths f is [] = refl
same_paths f is (path ∷ paths) = let e = is path in let rest = same_paths f is paths in cc

in_within : (xs ys : List Found) {path : List ℕ} {id : FileId} → Within xs ys →
    IsIn xs path id → IsIn ys path id
in_within xs ys w h = (h.0, w h.0 h.1, h.2, h.3)

listed_within : {xs ys : List WalkCall} {path : List ℕ} → Within xs ys → WasListed xs path →
    WasListed ys path
listed_within w h = record {
  directory = h.directory;
  name = h.name;
  names = h.names;
  answer = h.answer;
  listing = w (listed h.directory h.names h.answer) h.listing;
  has = h.has;
  path_is = h.path_is;
}

listed_met : {d path : List ℕ} {names : List (List ℕ)} {answer : Bool} {node : Node} →
    ¬ (listed d names answer ≡ met path (Present node))
listed_met e = cc

-- 2. What some steps do, together.

-- A part of a walk, and then another one.
abbrev pub both : Deed → Deed → Deed
both a b = deed (b.calls ++ a.calls) (a.files ++ b.files) (a.directories ++ b.directories)
    (a.messages ++ b.messages)

abbrev pub lists_deed : {d : Waiting} {names : List (List ℕ)} {s t : State} → Lists d names s t →
    Deed
lists_deed {d = d} {names = names} k =
    deed (listed (string_bytes d.path) names k.listing.answer ∷ []) [] [] k.listing.messages

-- A directory is below the paths of a scope.
abbrev pub RootedIn : Scope → Waiting → Type 0
RootedIn scope d = IsRooted scope.paths (string_bytes d.path) d.root

module _ {todo : List Place} {s : State} where
  abbrev pub deeds : {rest : List Place} {t : State} → Steps todo s rest t → Deed
  deeds no_step = deed [] [] [] []
  deeds (then_look h k) = both (deeds h) k.does
  deeds (then_list h k) = both (deeds h) (lists_deed k)

  made_are : {rest : List Place} {t : State} (h : Steps todo s rest t) →
      t.calls ≡ map walked (deeds h).calls ++ s.calls
  made_are no_step = refl
  made_are (then_look h k) = parts_are (deeds h).calls k.does.calls _ _ _ (made_are h) k.called
  made_are (then_list h k) =
      parts_are (deeds h).calls (lists_deed k).calls _ _ _ (made_are h) k.listing.called

  found_are : {rest : List Place} {t : State} (h : Steps todo s rest t) →
      t.found ≡ s.found ++ (deeds h).files
  found_are no_step = sym (append-nil s.found)
  found_are (then_look h k) = k.found ∙ ap (λ (fs : List Found). fs ++ k.does.files) (found_are h)
      ∙ append_assoc s.found (deeds h).files k.does.files
  found_are (then_list h k) = k.found ∙ found_are h
      ∙ ap (λ (fs : List Found). s.found ++ fs) (sym (append-nil (deeds h).files))

  -- A walk from no files has these.
  pub all_found : {rest : List Place} {t : State} (h : Steps todo s rest t) → s.found ≡ [] →
      t.found ≡ (deeds h).files
  all_found h none = found_are h ∙ ap (λ (fs : List Found). fs ++ (deeds h).files) none

  pub same_scope : {rest : List Place} {t : State} → Steps todo s rest t → t.scope ≡ s.scope
  same_scope no_step = refl
  same_scope (then_look h k) = k.scope ∙ same_scope h
  same_scope (then_list h k) = k.scope ∙ same_scope h

  -- A look of the walk, in the scope of its start.
  seen : {p : Place} {rest : List Place} {t u : State} → Steps todo s (p ∷ rest) t →
      (k : Look p t u) → Looks s.scope p t.marks u.marks k.does
  seen {p = p} {t = t} {u = u} h k =
      subst (λ (sc : Scope). Looks sc p t.marks u.marks k.does) (same_scope h) k.looks

  -- A place that is looked at was there at the start, or is that of a name that was listed.
  todo_from : {rest : List Place} {t : State} (h : Steps todo s rest t) (p : Place) →
      Contains rest p → Contains todo p ⊎ (IsInside p × WasListed (deeds h).calls (path_of p))
  todo_from no_step p there = inl there
  todo_from (then_look {p = q} {rest = rest} h k) p there =
      on_right (λ l. (
        l.0,
        listed_within
            (λ w. Contains-append_right k.does.calls (deeds h).calls w) l.1,
      ))
      (todo_from h p (Contains-append_right (q ∷ []) rest p there))
  todo_from (then_list {d = d} {names = names} {rest = rest} h k) p there =
      elim (Contains-append_cases (places_in d names) rest p there) [
        | inl now ↦
            let n = mapped (λ name. inside (string_bytes d.path ++ name) name) names p now in
            inr (subst (λ (q : Place). IsInside q
            × WasListed (both (deeds h) (lists_deed k)).calls (path_of q)) n.2 (
              tt,
              record {
                directory = string_bytes d.path;
                name = n.0;
                names = names;
                answer = k.listing.answer;
                listing = at_head _ (deeds h).calls;
                has = n.1;
                path_is = refl;
              },
            ))
        | inr old ↦ on_right (λ l. (
          l.0,
          listed_within
              (λ w. Contains-append_right (lists_deed k).calls (deeds h).calls w) l.1,
        ))
            (todo_from h p old)
      ]

-- 3. The messages.

-- Messages were written and counted.
record Wrote (messages : List (List ℕ)) (old new : ReportState) : Type 0 where
  tells : Tells old new (joined messages)
  counted : old.faulty + length messages < 2 ^ 64 → new.faulty ≡ old.faulty + length messages
  some : 0 < old.faulty + length messages → 0 < new.faulty

wrote_one : {messages : List (List ℕ)} {a b : ReportState} → Reports a b messages →
    Wrote messages a b
wrote_one {a = a} (is_silent same) = subst (Wrote [] a) (sym same) (record {
  tells = tells_none a;
  counted = λ small. omega arith;
  some = λ some. omega arith;
})
wrote_one (is_told message h) = record {
  tells = tells_same (sym (append-nil message)) h.tells;
  counted = h.counted;
  some = λ some. h.some;
}

wrote_then : {ms ns : List (List ℕ)} {a b c : ReportState} → Wrote ms a b → Wrote ns b c →
    Wrote (ms ++ ns) a c
wrote_then {ms = ms} {ns = ns} {a = a} {b = b} {c = c} h k = record {
  tells = tells_same (sym (flat_map-append (λ (m : List ℕ). m) ms ns))
      (tells_then h.tells k.tells);
  counted = rw (length-append ms ns)
      (counted_both a.faulty b.faulty c.faulty (length ms) (length ns) h.counted k.counted);
  some = rw (length-append ms ns) (λ some. by_some some);
}
  where
    by_some : 0 < a.faulty + (length ms + length ns) → 0 < c.faulty
    by_some some = grind (arith, some, h.some, k.some)

reads_told : {directory : List ℕ} {answer : Bool} {ms : List (List ℕ)} (names : List (List ℕ)) →
    Reads directory answer ms → {ws : List WalkCall} {ns : List (List ℕ)} → AreTold ws ns →
    AreTold (listed directory names answer ∷ ws) (ns ++ ms)
reads_told {directory = directory} names is_whole {ns = ns} told =
    rw (append-nil ns) (then_answered (listed directory names true) told refl)
reads_told {directory = directory} names (is_cut message of) told =
    then_refused (listed directory names false) message told (is_unread directory names refl of)

module _ {todo : List Place} {s : State} where
  wrote_all : {rest : List Place} {t : State} (h : Steps todo s rest t) →
      Wrote (deeds h).messages s.report t.report
  wrote_all no_step = wrote_one (is_silent refl)
  wrote_all (then_look h k) = wrote_then (wrote_all h) (wrote_one k.told)
  wrote_all (then_list h k) = wrote_then (wrote_all h) (wrote_one k.listing.told)

  -- The messages are those of the calls, if no name in a directory was there at the start.
  are_told : {rest : List Place} {t : State} (h : Steps todo s rest t) →
      ((p : Place) → Contains todo p → ¬ (IsInside p)) →
      AreTold (deeds h).calls (deeds h).messages
  are_told no_step none = none_told
  are_told (then_look {p = p} {rest = rest} h k) none = looks_told (seen h k) (are_told h none)
      (λ in_it. elim (todo_from h p (at_head p rest)) [
        | inl there ↦ absurd (none p there in_it)
        | inr l ↦ l.1
      ])
  are_told (then_list {names = names} h k) none =
      reads_told names k.listing.reads (are_told h none)

answered_told : (ws : List WalkCall) {xs : List WalkCall} {ms : List (List ℕ)} →
    AllByRecursion (λ w. is_refused w ≡ false) ws → AreTold xs ms → AreTold (ws ++ xs) ms
answered_told [] fine h = h
answered_told (w ∷ ws) fine h = then_answered w (answered_told ws fine.1 h) fine.0

-- The messages of a walk were written, also if memory ran out.
pub stops_report : {todo : List Place} {s : State} {calls : List Call} {r : ReportState} →
    ((p : Place) → Contains todo p → ¬ (IsInside p)) → Stops todo s calls r →
    ReportsWalk s.calls calls s.report r
stops_report {s = s} {r = r} none h = record {
  messages = (deeds h.steps).messages;
  walk = record {
    calls = h.loses.lost ++ (deeds h.steps).calls;
    are = parts_are (deeds h.steps).calls h.loses.lost _ _ _ (made_are h.steps) h.loses.called;
    told = answered_told h.loses.lost h.loses.fine (are_told h.steps none);
  };
  tells = wrote.tells;
  counted = wrote.counted;
}
  where
    wrote : Wrote (deeds h.steps).messages s.report r
    wrote = subst (Wrote (deeds h.steps).messages s.report) (sym h.loses.same) (wrote_all h.steps)

pub steps_report : {todo rest : List Place} {s t : State} →
    ((p : Place) → Contains todo p → ¬ (IsInside p)) → Steps todo s rest t →
    ReportsWalk s.calls t.calls s.report t.report
steps_report none h = stops_report none
    (record { rest = _; last = _; steps = h; loses = loses [] tt refl refl })

-- 4. What became of the places, in a walk of which all is known.

fits_first : (a b : Deed) {w : World} → Fits (both a b) w → Fits a w
fits_first a b known = record {
  called = λ x there. known.called x (Contains-append_right b.calls a.calls x there);
  waits = λ path d there is.
      known.waits path d (Contains-append_left a.directories b.directories d there) is;
  found = λ f there. known.found f (Contains-append_left a.files b.files f there);
  tells = λ some. known.tells (rw (length-append a.messages b.messages) (omega (arith, some)));
}

fits_second : (a b : Deed) {w : World} → Fits (both a b) w → Fits b w
fits_second a b known = record {
  called = λ x there. known.called x (Contains-append_left b.calls a.calls x there);
  waits = λ path d there is.
      known.waits path d (Contains-append_right a.directories b.directories d there) is;
  found = λ f there. known.found f (Contains-append_right a.files b.files f there);
  tells = λ some. known.tells (rw (length-append a.messages b.messages) (omega (arith, some)));
}

-- The end of a place: it was taken, or a message says why not.
abbrev pub Done : World → Scope → Place → Type 0
Done w scope (named path) = w.told ⊎ Begins w.calls w.due w.has path
Done w scope (given path) = Gives w.calls w.has w.told path
Done w scope (inside path name) = (directory : List ℕ) → path ≡ directory ++ name →
    Visits scope w.calls w.due w.told directory name

done_of : {scope : Scope} {p : Place} {marks marks' : List Bool} {d : Deed} {w : World} →
    Looks scope p marks marks' d → Fits d w → Done w scope p
done_of {p = named path} k known = begins_of k known
done_of {p = given path} k known = gives_of k known
done_of {scope = scope} {p = inside path name} {marks = marks} {marks' = marks'} {d = d} k known =
    λ directory is. visits_of (subst (λ (q : List ℕ).
    Looks scope (inside q name) marks marks' d) is k) known

module _ {todo : List Place} {s : State} where
  after_look : (w : World) {p : Place} {rest : List Place} {t u : State} →
      Steps todo s (p ∷ rest) t → (k : Look p t u) → Fits k.does w → (q : Place) →
      Contains (p ∷ rest) q ⊎ Done w s.scope q → Contains rest q ⊎ Done w s.scope q
  after_look w h k known q (inr done) = inr done
  after_look w {p = p} {rest = rest} h k known q (inl there) =
      elim (Contains-append_cases (p ∷ []) rest q there) [
        | inl first ↦ inr (subst (Done w s.scope) (only_one p q first)
            (done_of (seen h k) known))
        | inr later ↦ inl later
      ]

  -- A place that was there at the start is still to be looked at, or this became of it.
  covered : (w : World) {rest : List Place} {t : State} (h : Steps todo s rest t) →
      Fits (deeds h) w → (q : Place) → Contains todo q → Contains rest q ⊎ Done w s.scope q
  covered w no_step known q there = inl there
  covered w (then_look h k) known q there = after_look w h k (fits_second (deeds h) k.does known)
      q (covered w h (fits_first (deeds h) k.does known) q there)
  covered w (then_list {d = d} {names = names} {rest = rest} h k) known q there =
      on_left (Contains-append_right (places_in d names) rest q)
      (covered w h (fits_first (deeds h) (lists_deed k) known) q there)

  -- So is each name of a directory that was listed.
  listed_all : (w : World) {rest : List Place} {t : State} (h : Steps todo s rest t) →
      Fits (deeds h) w → (directory : List ℕ) (names : List (List ℕ)) (answer : Bool) →
      Contains (deeds h).calls (listed directory names answer) → (name : List ℕ) →
      Contains names name → Contains rest (inside (directory ++ name) name)
      ⊎ Done w s.scope (inside (directory ++ name) name)
  listed_all w no_step known directory names answer there name inner = absurd (none_in there)
  listed_all w (then_look h k) known directory names answer there name inner =
      elim (Contains-append_cases k.does.calls (deeds h).calls _ there) [
        | inl now ↦ absurd (looks_list_none k.looks directory names answer now)
        | inr old ↦ after_look w h k (fits_second (deeds h) k.does known) _ (listed_all w h
            (fits_first (deeds h) k.does known) directory names answer old name inner)
      ]
  listed_all w (then_list {d = d} {names = ns} {rest = rest} h k) known directory names answer
      there name inner =
      elim (Contains-append_cases (lists_deed k).calls (deeds h).calls _ there) [
        | inl now ↦ let e : listed (string_bytes d.path) ns k.listing.answer
            ≡ listed directory names answer = only_one _ _ now in
            let at : string_bytes d.path ≡ directory = cc in
            let are : ns ≡ names = cc in
            inl (Contains-append_left (places_in d ns) rest _
            (subst (λ (q : List ℕ). Contains (places_in d ns) (inside (q ++ name) name)) at
            (map_has (λ n. inside (string_bytes d.path ++ n) n) ns name
            (in_same are inner))))
        | inr old ↦ on_left (Contains-append_right (places_in d ns) rest _) (listed_all w h
            (fits_first (deeds h) (lists_deed k) known) directory names answer old name inner)
      ]

-- 5. What was met, found and marked, and what waits.

module _ {todo : List Place} {s : State} where
  -- Each regular file that was met was found, or isn't chosen.
  taken : {rest : List Place} {t : State} (h : Steps todo s rest t) (path : List ℕ)
      (node : Node) → Contains (deeds h).calls (met path (Present node)) → node.kind ≡ File →
      IsIn (deeds h).files path node.id ⊎ IsLeft s.scope path
  taken no_step path node there kind = absurd (none_in there)
  taken (then_look h k) path node there kind =
      elim (Contains-append_cases k.does.calls (deeds h).calls _ there) [
        | inl now ↦ on_left (in_within k.does.files ((deeds h).files ++ k.does.files)
            (Contains-append_right (deeds h).files k.does.files))
            (files_taken (seen h k) path node now kind)
        | inr old ↦ on_left (in_within (deeds h).files ((deeds h).files ++ k.does.files)
            (Contains-append_left (deeds h).files k.does.files))
            (taken h path node old kind)
      ]
  taken (then_list h k) path node there kind =
      elim (Contains-append_cases (lists_deed k).calls (deeds h).calls _ there) [
        | inl now ↦ absurd (listed_met (only_one _ _ now))
        | inr old ↦ on_left (in_within (deeds h).files ((deeds h).files ++ [])
            (Contains-append_left (deeds h).files []))
            (taken h path node old kind)
      ]

  -- Each file found was met, and may be taken.
  found_from : {rest : List Place} {t : State} (h : Steps todo s rest t) (f : Found) →
      Contains (deeds h).files f →
      WasMet (deeds h).calls f × IsAllowed s.scope (map path_of todo) f
  found_from no_step f there = absurd (none_in there)
  found_from (then_look {p = p} {rest = rest} h k) f there =
      elim (Contains-append_cases (deeds h).files k.does.files f there) [
        | inl old ↦ let m = found_from h f old in
            (met_right k.does.calls (deeds h).calls f m.0, m.1)
        | inr now ↦ let m = files_met (seen h k) f now in (
          met_left k.does.calls (deeds h).calls f m.0,
          elim (todo_from h p (at_head p rest)) [
            | inl there ↦ inl (subst (Contains (map path_of todo)) (sym m.1)
                (map_has path_of todo p there))
            | inr l ↦ inr (subst (IsChosen s.scope) (sym m.1) (may_chosen p l.0 m.2))
          ],
        )
      ]
    where
      may_chosen : (q : Place) → IsInside q → May s.scope q → IsChosen s.scope (path_of q)
      may_chosen (named path) in_it may = absurd in_it
      may_chosen (given path) in_it may = absurd in_it
      may_chosen (inside path name) in_it may = may
  found_from (then_list h k) f there =
      elim (Contains-append_cases (deeds h).files [] f there) [
        | inl old ↦ let m = found_from h f old in
            (met_right (lists_deed k).calls (deeds h).calls f m.0, m.1)
        | inr now ↦ absurd (none_in now)
      ]

  -- The rules were marked that apply to something which was met.
  marks_made : {rest : List Place} {t : State} (h : Steps todo s rest t) →
      ((p : Place) → Contains todo p → Contains s.scope.paths (path_of p)) →
      MarksCalls s.scope (deeds h).calls s.marks t.marks
  marks_made no_step top = marks_none s.scope refl
  marks_made (then_look {p = p} {rest = rest} h k) top =
      marks_then (deeds h).calls k.does.calls (marks_made h top)
      (looks_mark (seen h k) (elim (todo_from h p (at_head p rest)) [
        | inl there ↦ inl (top p there)
        | inr l ↦ inr l.0
      ]))
  marks_made (then_list h k) top =
      marks_then (deeds h).calls (lists_deed k).calls (marks_made h top)
      (marks_other s.scope _ (λ path node e. listed_met e) k.marks)

  -- The directories that wait are below the paths.
  pub rooted_made : {rest : List Place} {t : State} (h : Steps todo s rest t) →
      All (RootedIn s.scope) s.waiting → All (RootedIn s.scope) t.waiting
  rooted_made no_step are = are
  rooted_made (then_look h k) are = subst (All (RootedIn s.scope)) (sym k.waits)
      (All-append (RootedIn s.scope) _ k.does.directories (rooted_made h are)
      (looks_rooted (seen h k)))
  rooted_made (then_list {d = d} {u = u} h k) are =
      all_of u.waiting (λ e there. All-contains (RootedIn s.scope) (u.waiting ++ d ∷ []) e
      (subst (All (RootedIn s.scope)) k.waits (rooted_made h are))
      (Contains-append_left u.waiting (d ∷ []) e there))

  -- A directory that waited was listed, or still waits.
  waits_made : {rest : List Place} {t : State} (h : Steps todo s rest t) (w : Waiting) →
      Contains (deeds h).directories w →
      WasEntered (deeds h).calls (string_bytes w.path) ⊎ Contains t.waiting w
  waits_made no_step w there = absurd (none_in there)
  waits_made (then_look {t = t} {u = u} h k) w there =
      elim (Contains-append_cases (deeds h).directories k.does.directories w there) [
        | inl old ↦ elim (waits_made h w old) [
          | inl e ↦ inl (e.0, e.1, Contains-append_right k.does.calls (deeds h).calls _ e.2)
          | inr still ↦ inr (in_same k.waits
              (Contains-append_left t.waiting k.does.directories w still))
        ]
        | inr now ↦ inr (in_same k.waits
            (Contains-append_right t.waiting k.does.directories w now))
      ]
  waits_made (then_list {d = d} {names = names} {u = u} h k) w there =
      elim (Contains-append_cases (deeds h).directories [] w there) [
        | inl old ↦ elim (waits_made h w old) [
          | inl e ↦ inl (
            e.0,
            e.1,
            Contains-append_right (lists_deed k).calls (deeds h).calls _ e.2,
          )
          | inr still ↦ elim (Contains-append_cases u.waiting (d ∷ []) w
              (in_same (sym k.waits) still)) [
                | inl there ↦ inr there
                | inr last ↦ inl (
                  names,
                  k.listing.answer,
                  subst (λ (v : Waiting).
                      Contains (both (deeds h) (lists_deed k)).calls
                      (listed (string_bytes v.path) names k.listing.answer))
                      (only_one d w last) (at_head _ _),
                )
              ]
        ]
        | inr now ↦ absurd (none_in now)
      ]

-- The paths of the directories that wait.
abbrev pub dues : State → List (List ℕ)
dues s = map (λ d. string_bytes d.path) s.waiting

calls_count : {todo rest : List Place} {s t : State} (h : Steps todo s rest t) →
    length t.calls ≡ length (deeds h).calls + length s.calls
calls_count {s = s} h = ap length (made_are h)
    ∙ length-append (map walked (deeds h).calls) s.calls
    ∙ ap (λ (n : ℕ). n + length s.calls) (length-map (deeds h).calls walked)

-- The facts of a whole walk, which ends at `t`.
abbrev pub world : Deed → State → Type 0 → World
world d t told = record {
  calls = d.calls;
  due = IsDue d.calls (dues t);
  has = IsIn t.found;
  told = told;
}

fits_end : {todo rest : List Place} {s t : State} (h : Steps todo s rest t) → s.found ≡ [] →
    Fits (deeds h) (world (deeds h) t (0 < t.report.faulty))
fits_end {s = s} {t = t} h none = record {
  called = λ x there. there;
  waits = λ path w there is. (
    string_bytes w.path,
    is,
    on_right
        (map_has (λ (d : Waiting). string_bytes d.path) t.waiting w) (waits_made h w there),
  );
  found = λ f there. (f, in_same (all_found h none) there, refl, refl);
  tells = λ some. (wrote_all h).some (omega (arith, some));
}

-- 6. Steps after others.

module _ {todo : List Place} {s : State} where
  abbrev pub steps_then : {mid : List Place} {t : State} {rest : List Place} {u : State} →
      Steps todo s mid t → Steps mid t rest u → Steps todo s rest u
  steps_then h no_step = h
  steps_then h (then_look k l) = then_look (steps_then h k) l
  steps_then h (then_list k l) = then_list (steps_then h k) l

  fits_then : {mid : List Place} {m : State} {rest : List Place} {t : State}
      (h : Steps todo s mid m) (k : Steps mid m rest t) {w : World} →
      Fits (deeds (steps_then h k)) w → Fits (deeds h) w
  fits_then h no_step known = known
  fits_then h (then_look k l) known =
      fits_then h k (fits_first (deeds (steps_then h k)) l.does known)
  fits_then h (then_list k l) known =
      fits_then h k (fits_first (deeds (steps_then h k)) (lists_deed l) known)

  pub then_stops : {mid : List Place} {t : State} {calls : List Call} {r : ReportState} →
      Steps todo s mid t → Stops mid t calls r → Stops todo s calls r
  then_stops h k =
      record { rest = k.rest; last = k.last; steps = steps_then h k.steps; loses = k.loses }

pub look_calls : {p : Place} {s t : State} → Look p s t → length s.calls ≤ length t.calls
look_calls {s = s} k =
    let e = ap length k.called ∙ length-append (map walked k.does.calls) s.calls in omega arith

-- The next of some places was looked at.
pub next_look : (g : List ℕ → Place) {X : Type 0} (f : X → List ℕ) (xs : List X) (i : ℕ) (v : X)
    (name : List ℕ) {todo : List Place} {s t u : State} → i < length xs → v ≡ get_or xs i v →
    name ≡ f v → Steps todo s (map g (map f (drop i xs))) t → Look (g name) t u →
    Steps todo s (map g (map f (drop (i + 1) xs))) u
next_look g f xs i v name {todo = todo} {s = s} {t = t} within is value h k =
    then_look (subst (λ (ps : List Place). Steps todo s ps t) next h) k
  where
    next : map g (map f (drop i xs)) ≡ g name ∷ map g (map f (drop (i + 1) xs))
    next = rw (add-one, drop-cons xs i v within) (ap (λ (n : List ℕ).
        g n ∷ map g (map f (drop (suc i) xs))) (ap f (sym is) ∙ sym value))

-- All of them were.
pub all_looked : (g : List ℕ → Place) {X : Type 0} (f : X → List ℕ) (xs : List X) (i : ℕ)
    {todo : List Place} {s t : State} → i ≡ length xs →
    Steps todo s (map g (map f (drop i xs))) t → Steps todo s [] t
all_looked g {X = X} f xs i {todo = todo} {s = s} {t = t} all h =
    subst (λ (ys : List X). Steps todo s (map g (map f ys)) t) (drop_all i xs (omega arith)) h

-- A directory was listed first.
pub steps_list : {d : Waiting} {names : List (List ℕ)} {s t : State} → Lists d names s t →
    Steps [] s (places_in d names) t
steps_list {d = d} {names = names} {s = s} {t = t} k =
    subst (λ (ps : List Place). Steps [] s ps t) (append-nil (places_in d names))
    (then_list no_step k)

-- The directory that is taken waited last.
pub last_of : {ws : List Waiting} {r : Option Waiting} (rest : List Waiting) (d : Waiting) →
    ws ≡ rest ++ option_to_list r → r ≡ Some d → ws ≡ rest ++ d ∷ []
last_of rest d are is = are ∙ ap (λ (o : Option Waiting). rest ++ option_to_list o) is

pub rooted_last : (scope : Scope) {ws : List Waiting} (rest : List Waiting) (d : Waiting) →
    ws ≡ rest ++ d ∷ [] → All (RootedIn scope) ws → RootedIn scope d
rooted_last scope rest d are h = All-contains (RootedIn scope) (rest ++ d ∷ []) d
    (subst (All (RootedIn scope)) are h) (Contains-push rest d)

pub steps_last : (u : State) (d : Waiting) {ws : List Waiting} {rest : List Place} {t : State} →
    ws ≡ u.waiting ++ d ∷ [] → Steps [] (topped d u) rest t →
    Steps [] (record u { waiting = ws }) rest t
steps_last u d {rest = rest} {t = t} are h =
    subst (λ (ds : List Waiting). Steps [] (record u { waiting = ds }) rest t) (sym are) h

pub stops_last : (u : State) (d : Waiting) {ws : List Waiting} {calls : List Call}
    {r : ReportState} → ws ≡ u.waiting ++ d ∷ [] → Stops [] (topped d u) calls r →
    Stops [] (record u { waiting = ws }) calls r
stops_last u d are h = record {
  rest = h.rest;
  last = h.last;
  steps = steps_last u d are h.steps;
  loses = h.loses;
}

-- 7. A walk over paths.

none_inside : (f : List ℕ → Place) → ((path : List ℕ) → ¬ (IsInside (f path))) →
    (paths : List (List ℕ)) (p : Place) → Contains (map f paths) p → ¬ (IsInside p)
none_inside f none paths p there in_it = let n = mapped f paths p there in
    none n.0 (subst IsInside (sym n.2) in_it)

pub none_named : (paths : List (List ℕ)) (p : Place) → Contains (map named paths) p →
    ¬ (IsInside p)
none_named paths = none_inside named (λ path in_it. in_it) paths

pub none_given : (paths : List (List ℕ)) (p : Place) → Contains (map given paths) p →
    ¬ (IsInside p)
none_given paths = none_inside given (λ path in_it. in_it) paths

pub steps_find : {todo rest : List Place} {s t : State} → Steps todo s rest t → s.found ≡ [] →
    Finds s.calls t.calls s.found t.found
steps_find {s = s} {t = t} h none = record {
  calls = (deeds h).calls;
  are = made_are h;
  each = subst (All Origin) (sym (all_found h none))
      (all_of {P = Origin} (deeds h).files (λ f there. inr (found_from h f there).0));
}
  where
    Origin : Found → Type 0
    Origin f = Contains s.found f ⊎ WasMet (deeds h).calls f

pub steps_mark : {rest : List Place} {s t : State} → Steps (map named s.scope.paths) s rest t →
    MarksWalk s.scope s.calls t.calls s.marks t.marks
steps_mark {s = s} h = record {
  calls = (deeds h).calls;
  are = made_are h;
  rules = marks_made h (λ p there. let n = mapped named s.scope.paths p there in
      subst (λ (q : Place). Contains s.scope.paths (path_of q)) n.2 n.1);
}

found_allowed : {rest : List Place} {s t : State} (f : List ℕ → Place) →
    ((path : List ℕ) → path_of (f path) ≡ path) → (paths : List (List ℕ)) →
    (h : Steps (map f paths) s rest t) → s.found ≡ [] → All (IsAllowed s.scope paths) t.found
found_allowed {s = s} f is paths h none =
    subst (All (IsAllowed s.scope paths)) (sym (all_found h none))
    (all_of (deeds h).files (λ g there. subst (λ (ps : List (List ℕ)). IsAllowed s.scope ps g)
    (same_paths f is paths) (found_from h g there).1))

-- It missed no path of the command line, if the looks at these had no fault.
pub steps_cover : {s m t : State} → Steps (map named s.scope.paths) s [] m → Steps [] m [] t →
    s.found ≡ [] → ¬ (0 < m.report.faulty) →
    (length t.calls + 1 < length m.calls + 2 ^ 64 → t.waiting ≡ []) →
    CoversPaths s.scope s.calls t.calls IsIn t.found (0 < t.report.faulty)
steps_cover {s = s} {m = m} {t = t} h k none fine ends = record {
  calls = (deeds all).calls;
  are = made_are all;
  waiting = dues t;
  all_listed = λ few. ap (map (λ (d : Waiting). string_bytes d.path)) (ends (fewer few));
  begins = all_of {P = Begun} s.scope.paths (λ path there. by_case path
      (covered early h first (named path) (map_has named s.scope.paths path there)));
  visits = λ directory names answer there. all_of {P = Visited directory} names (λ name inner.
      elim (listed_all whole all known directory names answer there name inner) [
        | inl left ↦ absurd (none_in left)
        | inr done ↦ done directory refl
      ]);
  taken = λ path node there kind. on_left
      (in_within (deeds all).files t.found (λ f. in_same (all_found all none)))
      (taken all path node there kind);
  allowed = found_allowed named (λ path. refl) s.scope.paths all none;
}
  where
    all : Steps (map named s.scope.paths) s [] t
    all = steps_then h k

    whole : World
    whole = world (deeds all) t (0 < t.report.faulty)

    early : World
    early = world (deeds all) t (0 < m.report.faulty)

    known : Fits (deeds all) (world (deeds all) t (0 < t.report.faulty))
    known = fits_end all none

    Visited : List ℕ → List ℕ → Type 0
    Visited = Visits s.scope (deeds all).calls (IsDue (deeds all).calls (dues t))
        (0 < t.report.faulty)

    Begun : List ℕ → Type 0
    Begun = Begins (deeds all).calls (IsDue (deeds all).calls (dues t)) (IsIn t.found)

    fewer : length (deeds all).calls + 1 < 2 ^ 64 → length t.calls + 1 < length m.calls + 2 ^ 64
    fewer few = omega (arith, calls_count all, calls_count h, few)

    first : Fits (deeds h) (world (deeds all) t (0 < m.report.faulty))
    first = let f = fits_then h k known in record {
      called = f.called;
      waits = f.waits;
      found = f.found;
      tells = λ some. (wrote_all h).some (omega (arith, some));
    }

    by_case : (path : List ℕ) → Contains [] (named path) ⊎ ((0 < m.report.faulty) ⊎ Begun path) →
        Begun path
    by_case path (inl left) = absurd (none_in left)
    by_case path (inr (inl bad)) = absurd (fine bad)
    by_case path (inr (inr b)) = b

-- Each path of the input was given.
pub steps_give : {s t : State} (paths : List (List ℕ)) → Steps (map given paths) s [] t →
    s.scope.paths ≡ [] → s.found ≡ [] →
    CoversInput paths s.calls t.calls IsIn t.found (0 < t.report.faulty)
steps_give {s = s} {t = t} paths h nowhere none = record {
  calls = (deeds h).calls;
  are = made_are h;
  gives = all_of {P = Gives (deeds h).calls (IsIn t.found) (0 < t.report.faulty)} paths
      (λ path there.
      elim (covered _ h (fits_end h none) (given path) (map_has given paths path there)) [
        | inl left ↦ absurd (none_in left)
        | inr done ↦ done
      ]);
  allowed = All-weaker (IsAllowed s.scope paths) (λ f. Contains paths (string_bytes f.path))
      (λ f may. elim may [
        | inl there ↦ there
        | inr chosen ↦ absurd (none_in (subst (λ (ps : List (List ℕ)).
            Contains ps chosen.1.named) nowhere chosen.1.given))
      ]) t.found (found_allowed given (λ path. refl) paths h none);
}
