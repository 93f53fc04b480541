-- The list of names is complete: of the symbols only those count that are listed, or to which a
-- listed one leads.
use Rattle.std.proofs.Common.{◌≡◌, ◌≢◌, ◌⊎◌, inl, inr, ℕ, List, [], ◌∷◌, ◌++◌, length, map, false, Option, Some, None, refl, sym, ◌∙◌, ap, ap₂, subst, append_assoc, arith}
use Rattle.std.proofs.lemmas.List.{map-append}
use Rattle.ud_model.specs.text.Lines.{Line, split_lines, partial_line, lines_of}
use Rattle.ud_model.specs.text.Scans.{Reading}
use Rattle.ud_model.specs.text.Scanning.{next_reading, readings_of}
use Rattle.ud_model.specs.sections.Directives.{content_of}
use Rattle.ud_model.specs.conditions.Table.{Argument, entry_in}
use Rattle.ud_model.specs.conditions.Symbols.{defined_text}
use Rattle.ud_model.specs.sections.Tree.{Item, Tree, lines}
use Rattle.ud_model.specs.sections.Items.{Options, reading_of, line_of, mode_by, mode_after, read_after, next_item, rules_of}
use Rattle.ud_model.specs.sections.Faults.{Fault, AreFaultless, no_lines, one_more, NoneHolds, cases}
use Rattle.ud_model.specs.answer.Listing.{names_in_content, names_at, listed_names, listed, levels}
use Rattle.ud_model.specs.answer.Outcomes.{Outcome, output_by, FirstFaultAt, ReadsAs, HasOutcome, ran_as}
use Rattle.ud_model.specs.answer.Outcomes.ReadsAs.{stops, ends}
use Rattle.ud_model.specs.laws.Rereading.{NoneIgnores}
use Rattle.ud_laws.specs.output.ListedNames.{with_listing, listing_settings, IsListed, LeadsTo, itself, by_value, IsNoValue, AgreeOnListed}
use Rattle.ud_model.specs.declared.settings.Settings.{Settings}
use Rattle.ud_model.specs.declared.kind.Mode.{Mode}
use Rattle.ud_model.proofs.text.LinesLemmas.{split_lines-append-line}
use Rattle.ud_model.proofs.text.ScanLaws.{readings_after-append, readings_after-prefix, read_more}
use Rattle.ud_laws.proofs.conditions.NamedAlike.{Alike, item_alike}
use Rattle.ud_model.proofs.sections.Soundness.{reading_of-item_of, sound_lines, lines_with_next, one_run}
use Rattle.ud_model.proofs.answer.LevelLemmas.{length_levels}
use Rattle.ud_model.specs.aids.ReadAs.{in_mode, read_in}
use Rattle.ud_model.proofs.output.Each.{Each, each_parts}
use Rattle.ud_model.proofs.output.Heeding.{the_mode, one_mode, sound_heed}

-- 1. Items with the same names.

-- Each name on these lines has the property.
abbrev pub AllNames : (List ℕ → Type 0) → List (Item Reading) → Type 0
AllNames P xs = Each (λ x. Each P (names_at x)) xs

-- Each name on the lines that were read has the property.
abbrev NamesRead : (List ℕ → Type 0) → Reading → Type 0
NamesRead P r = Each P (names_in_content (content_of r.scan))

module _ (o p : Options) (plain : o.settings.plain ≡ p.settings.plain) (rules : rules_of o.settings ≡ rules_of p.settings) where
  abbrev Known : List ℕ → Type 0
  Known n = Alike o.table p.table n

  next_alike : (xs : List (Item Reading)) (t : Tree Reading) (l : Line) → NamesRead Known (read_after xs (mode_after o t) l) → next_item o xs t l ≡ next_item p xs t l
  next_alike xs t l h = grind (arith, item_alike)

  -- Lines that are faultless under the one options are so under the others.
  pub sound_alike : {xs : List (Item Reading)} {t : Tree Reading} → AreFaultless o xs t → AllNames Known xs → AreFaultless p xs t
  sound_alike no_lines h = no_lines
  sound_alike (one_more xs t s l u e n) h =
      let q = each_parts (λ x. Each Known (names_at x)) xs (next_item o xs t l ∷ []) h in
      let x : next_item o xs t l ≡ next_item p xs t l =
      next_alike xs t l (subst (NamesRead Known) (reading_of-item_of o (read_after xs (mode_after o t) l)) q.1.0) in
      subst (λ (y : Item Reading). AreFaultless p (xs ++ y ∷ []) u) (sym x)
      (one_more xs t (sound_alike s q.0) l u (subst (λ (y : Item Reading). lines u ≡ xs ++ y ∷ []) x e) (subst (λ (y : Item Reading). NoneHolds xs y cases) x n))

  -- So they stop with the same fault.
  pub stop_alike : (ls : List Line) (xs : List (Item Reading)) (t : Tree Reading) (f : Fault) → (s : FirstFaultAt o ls xs t f) → AllNames Known xs →
      NamesRead Known (read_after xs (mode_after o t) s.faulty) → FirstFaultAt p ls xs t f
  stop_alike ls xs t f s h k = grind (arith, sound_alike, next_alike)

-- 2. The listed names.

rest_none : (t : List ℕ) → partial_line (t ++ 10 ∷ []) ≡ []
rest_none t = ap (λ q. q.rest) (split_lines-append-line t [] tt)

name_first : (n : List ℕ) (names : List (List ℕ)) → listed_names [] (n ∷ names) ≡ n ++ 10 ∷ listed_names [] names
name_first n names = append_assoc n (10 ∷ []) (listed_names [] names)

names_then : (P : List ℕ → Type 0) (names : List (List ℕ)) (rest before : List ℕ) → partial_line before ≡ [] →
    ((n : List ℕ) → IsListed n (before ++ (listed_names [] names ++ rest)) → P n) →
    Each P names × ((b : List ℕ) × (partial_line b ≡ []) × (before ++ (listed_names [] names ++ rest) ≡ b ++ rest))
names_then P [] rest before z h = (tt, (before, z, refl))
names_then P (n ∷ names) rest before z h = let more : List ℕ = listed_names [] names in
    let flat : before ++ (listed_names [] (n ∷ names) ++ rest) ≡ (before ++ n) ++ 10 ∷ (more ++ rest) = simp (name_first, append_assoc) in
    let moved = sym (append_assoc (before ++ n) (10 ∷ []) (more ++ rest)) in
    let k = names_then P names rest (before ++ n ++ 10 ∷ []) (rest_none (before ++ n)) (λ m i. h m (subst (IsListed m) (sym (flat ∙ moved)) i)) in
    ((h n (before, more ++ rest, z, flat), k.0), (k.1.0, k.1.1, flat ∙ moved ∙ k.1.2))

-- A property of all listed names is one of all names.
all_from : (P : List ℕ → Type 0) (xs : List (Item Reading)) (ns before : List ℕ) → length ns ≡ length xs → partial_line before ≡ [] →
    ((n : List ℕ) → IsListed n (before ++ listed false xs ns) → P n) → AllNames P xs
all_from P (x ∷ xs) (n ∷ ns) before e z h =
    let k = names_then P (names_at x) (listed false xs ns) before z h in
    (k.0, all_from P xs ns k.1.0 (omega arith) k.1.1 (λ m i. h m (subst (IsListed m) (sym k.1.2) i)))
all_from P xs ns before h g k = grind arith

all_listed : (P : List ℕ → Type 0) {o : Options} {xs : List (Item Reading)} {t : Tree Reading} → AreFaultless o xs t →
    ((n : List ℕ) → IsListed n (listed false xs (levels t)) → P n) → AllNames P xs
unfolding split_lines
all_listed P {xs = xs} {t = t} s h =
    all_from P xs (levels t) [] (length_levels t ∙ ap (λ (ys : List (Item Reading)). length ys) (sound_lines s)) refl h

-- 3. The list under the same options.

abbrev the_same : (t : List Argument) (n : List ℕ) → Alike t t n
the_same t n m l = refl

same_settings : {o p : Options} {input : List ℕ} {xs : List (Item Reading)} {t : Tree Reading} {f : Option Fault} {r : Outcome} → p.settings ≡ o.settings →
    ReadsAs o input xs t f → ReadsAs p input xs t f → HasOutcome o input r → HasOutcome p input r
same_settings same a b run = grind (arith, same, one_run, ran_as)

pub list_complete : (o p : Options) (input : List ℕ) {l r : Outcome} → HasOutcome (with_listing o) input l → l.fault ≡ None → p.settings ≡ o.settings →
    AgreeOnListed l.output o.table p.table → HasOutcome o input r → HasOutcome p input r
list_complete o p input (ran_as (stops xs t f s)) e same alike run = cc
list_complete o p input (ran_as (ends xs t g)) e same alike run =
    let here = sound_alike (with_listing o) o refl refl g.sound (all_listed (Alike o.table o.table) g.sound (λ n i. the_same o.table n)) in
    let names : AllNames (Alike o.table p.table) xs = all_listed (Alike o.table p.table) g.sound (λ n i m l. alike n m i l) in
    let there : AreFaultless p xs t = grind (arith, sound_alike) in
    same_settings same (ends xs t (record { sound = here; are = g.are })) (ends xs t (record { sound = there; are = g.are })) run

-- 4. A list that was made with other symbols.

each_map : {A B : Type 0} (f : A → B) (Q : B → Type 0) (xs : List A) → Each (λ x. Q (f x)) xs → Each Q (map f xs)
each_map f Q [] h = tt
each_map f Q (x ∷ xs) h = (h.0, each_map f Q xs h.1)

-- A property of the images of all elements is one of the elements.
pub each_unmap : {A B : Type 0} (f : A → B) (Q : B → Type 0) (xs : List A) → Each Q (map f xs) → Each (λ x. Q (f x)) xs
each_unmap f Q [] h = tt
each_unmap f Q (x ∷ xs) h = (h.0, each_unmap f Q xs h.1)

-- The readings of longer lists of lines begin so.
read_front : (m : Mode) (ls : List Line) (l : Line) (later : List Line) →
    (rest : List Reading) × (read_in m (ls ++ l ∷ later) ≡ (read_in m ls ++ next_reading (read_in m ls) m l ∷ []) ++ rest)
read_front m ls l later =
    let f = readings_after-prefix (read_in m ls ++ next_reading (read_in m ls) m l ∷ []) (map (in_mode m) later) in (
      f.0,
      ap (λ (ks : List (Mode × Line)). readings_of ks) (map-append (in_mode m) ls (l ∷ later))
          ∙ readings_after-append [] (map (in_mode m) ls) (in_mode m l ∷ map (in_mode m) later) ∙ f.1,
    )

module _ (o : Options) (n : NoneIgnores o.table) where
  mode_is : {xs : List (Item Reading)} {t : Tree Reading} → AreFaultless o xs t → mode_after o t ≡ the_mode o
  mode_is {xs = xs} {t = t} s = one_mode o n xs t (sound_lines s) (sound_heed o n xs t s)

  -- Faultless lines are read in the one mode.
  read_so : {xs : List (Item Reading)} {t : Tree Reading} → AreFaultless o xs t → map reading_of xs ≡ read_in (the_mode o) (map line_of xs)
  read_so no_lines = refl
  read_so (one_more xs t s l u e w) = map-append reading_of xs (next_item o xs t l ∷ [])
      ∙ ap₂ (λ (rs : List Reading) (r : Reading). rs ++ r ∷ []) (read_so s)
      (reading_of-item_of o (read_after xs (mode_after o t) l)
      ∙ ap₂ (λ (m : Mode) (rs : List Reading). next_reading rs m l) (mode_is s) (read_so s))
      ∙ sym (read_more (the_mode o) (map line_of xs) l) ∙ ap (λ (ls : List Line). read_in (the_mode o) ls) (sym (lines_with_next o xs t l))

module _ (o p : Options) (input : List ℕ) (same : p.settings ≡ o.settings) (n : NoneIgnores o.table) where
  abbrev Told : Reading → Type 0
  Told r = NamesRead (Alike o.table p.table) r

  reads_alike : Each Told (read_in (the_mode o) (lines_of input)) → {r : Outcome} → HasOutcome o input r → HasOutcome p input r
  reads_alike h (ran_as (stops xs t f s)) =
      let w = read_front (the_mode o) (map line_of xs) s.faulty s.later in
      let q = each_parts Told (read_in (the_mode o) (map line_of xs) ++ next_reading (read_in (the_mode o) (map line_of xs)) (the_mode o) s.faulty ∷ []) w.0
      (subst (Each Told) (ap (λ (ls : List Line). read_in (the_mode o) ls) s.are ∙ w.1) h) in
      let k = each_parts Told (read_in (the_mode o) (map line_of xs)) (next_reading (read_in (the_mode o) (map line_of xs)) (the_mode o) s.faulty ∷ []) q.0 in
      let names = each_unmap reading_of Told xs (subst (Each Told) (sym (read_so o n s.sound)) k.0) in
      let next : Told (read_after xs (mode_after o t) s.faulty) = grind (arith, mode_is, read_so, k.1.0) in
      same_settings same (stops xs t f s)
      (stops xs t f (stop_alike o p (ap (λ (s : Settings). s.plain) (sym same)) (ap (λ (s : Settings). rules_of s) (sym same)) (lines_of input) xs t f s names next))
      (ran_as (stops xs t f s))
  reads_alike h (ran_as (ends xs t g)) = let names : AllNames (Alike o.table p.table) xs =
      each_unmap reading_of Told xs (subst (Each Told) (ap (λ (ls : List Line). read_in (the_mode o) ls) g.are ∙ sym (read_so o n g.sound)) h) in
      same_settings same (ends xs t g)
      (ends xs t (record {
        sound = sound_alike o p (ap (λ (s : Settings). s.plain) (sym same)) (ap (λ (s : Settings). rules_of s) (sym same)) g.sound names;
        are = g.are;
      }))
      (ran_as (ends xs t g))

pub list_serves : (q o p : Options) (input : List ℕ) {l r : Outcome} → q.settings ≡ listing_settings o.settings → NoneIgnores q.table → NoneIgnores o.table →
    HasOutcome q input l → l.fault ≡ None → p.settings ≡ o.settings → AgreeOnListed l.output o.table p.table → HasOutcome o input r → HasOutcome p input r
list_serves q o p input set calm n (ran_as (stops xs t f s)) e same alike run = cc
list_serves q o p input set calm n (ran_as (ends xs t g)) e same alike run =
    let out = ap (λ (s : Settings). output_by s.listing s xs t) set in
    let names : AllNames (Alike o.table p.table) xs =
    all_listed (Alike o.table p.table) g.sound (λ m i k l. alike m k (subst (IsListed m) (sym out) i) l) in
    let modes : the_mode q ≡ the_mode o = ap (λ (s : Settings). mode_by s.plain) set in
    let all : map reading_of xs ≡ read_in (the_mode o) (lines_of input) = cc (read_so q calm g.sound, modes, g.are) in
    reads_alike o p input same n (subst (Each (Told o p input same n)) all (each_map reading_of (Told o p input same n) xs names)) run

-- 5. One symbol.

-- A name to which another leads is that one, or the value of a name.
pub led_to : (t : List Argument) (n m : List ℕ) → LeadsTo t n m → (m ≡ n) ⊎ ((k : List ℕ) × (defined_text t k ≡ Some m))
led_to t _ _ (itself n) = inl refl
led_to t _ _ (by_value n v m d i l) = elim (led_to t v m l) [ inl e ↦ inr (n, d ∙ ap (λ (w : List ℕ). Some w) (sym e)) | inr k ↦ inr k ]

pub alike_but_one : (list name : List ℕ) (t u : List Argument) → (IsListed name list → ⊥) → IsNoValue t name →
    ((n : List ℕ) → n ≢ name → entry_in t n ≡ entry_in u n) → AgreeOnListed list t u
alike_but_one list name t u out none same n m i l = grind (arith, led_to)
