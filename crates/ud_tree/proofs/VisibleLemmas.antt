-- Messages with visible control bytes, and messages that are written at once.
use Rattle.std.proofs.Common.{◌≡◌, ℕ, ◌+◌, ◌<◌, length, take, get_or, subst, ◌==◌, ◌||◌, nat_lt, List, [], ◌∷◌, ◌++◌, Bool, true, false, Some, sym, ap, ◌∙◌, refl, arith, append_assoc, append-nil}
use Rattle.std.proofs.lemmas.Grind.{common_steps}
use Rattle.std.proofs.lemmas.List.{flat_map_more, take_more}
use Rattle.std.specs.List.{flat_map}
use Rattle.unifdef.specs.RunMessages.{fault_message}
use Rattle.ud_engine.specs.declared.fault.RunFault.{RunFault}
use Rattle.ud_tree.specs.Reports.{ReportState, Tells, TellsOf}
use Rattle.ud_tree.specs.Messages.{IsTextMessage, is_visible, is_raw}
use Rattle.ud_io.specs.Streams.{Stream, Sends}
use Rattle.ud_tree.specs.Visible.{begins_upper, pending, shown_byte, visible, visible_after, Shows}
use Rattle.ud_io.proofs.StreamLemmas.{sends_none, sends_same, sends_then, sent_as}

-- A byte that no control character begins with doesn't matter for what follows.
after_other : (b : ℕ) (rest : List ℕ) → (b == 194) ≡ false → visible_after b rest ≡ visible rest
unfolding visible visible_after
after_other b [] other = refl
after_other b (c ∷ rest) other = rw other refl

-- Nor does any byte before one that ends no control character.
before_other : (before b : ℕ) (rest : List ℕ) → begins_upper (b ∷ []) ≡ false → visible_after before (b ∷ rest) ≡ visible (b ∷ rest)
unfolding visible visible_after
before_other before b rest other = grind (arith, common_steps)

-- A byte that is no part of a control character.
visible_plain : (b : ℕ) (rest : List ℕ) → (nat_lt b 32 || b == 127) ≡ false → (b == 194) ≡ false → visible (b ∷ rest) ≡ (b ∷ []) ++ visible rest
unfolding visible visible_after
visible_plain b rest printable other = grind (arith, common_steps, after_other)

-- A control character of ASCII.
visible_control : (b : ℕ) (rest : List ℕ) → (nat_lt b 32 || b == 127) ≡ true → visible (b ∷ rest) ≡ shown_byte b ++ visible rest
unfolding visible visible_after
visible_control b rest is = grind (arith, common_steps, after_other)

-- A control character of two bytes.
visible_upper : (b : ℕ) (rest : List ℕ) → begins_upper (b ∷ []) ≡ true → visible (194 ∷ b ∷ rest) ≡ shown_byte 194 ++ shown_byte b ++ visible rest
unfolding visible visible_after
visible_upper b rest is = grind (arith, common_steps, after_other)

-- The first byte of two that are no control character.
visible_lone : (b : ℕ) (rest : List ℕ) → begins_upper (b ∷ []) ≡ false → visible (194 ∷ b ∷ rest) ≡ (194 ∷ []) ++ visible (b ∷ rest)
unfolding visible visible_after
visible_lone b rest other = grind (arith, common_steps, before_other)

visible_nil : visible [] ≡ []
unfolding visible visible_after
visible_nil = refl

visible_last : visible (194 ∷ []) ≡ 194 ∷ []
unfolding visible visible_after
visible_last = refl

-- The byte 194 waits.
pub shows_first : {b : ℕ} (s : Stream) → b ≡ 194 → Shows false (b ∷ []) true s s
shows_first {b = b} s is = record { shown = []; sent = sends_none s; is = λ rest. ap (λ (x : ℕ). visible (x ∷ rest)) is }

-- A byte that is no part of a control character was written.
pub shows_plain : {b : ℕ} {x y : Stream} → (nat_lt b 32 || b == 127) ≡ false → (b == 194) ≡ false → Sends x y (b ∷ []) → Shows false (b ∷ []) false x y
shows_plain {b = b} printable other h = record { shown = b ∷ []; sent = h; is = λ rest. visible_plain b rest printable other }

-- A control character of ASCII was shown.
pub shows_control : {b : ℕ} {x y : Stream} → (nat_lt b 32 || b == 127) ≡ true → Sends x y (shown_byte b) → Shows false (b ∷ []) false x y
shows_control {b = b} is h = record { shown = shown_byte b; sent = h; is = λ rest. visible_control b rest is }

-- A control character of two bytes was shown.
pub shows_upper : {b : ℕ} {x y z : Stream} → begins_upper (b ∷ []) ≡ true → Sends x y (shown_byte 194) → Sends y z (shown_byte b) → Shows true (b ∷ []) false x z
shows_upper {b = b} is h k = record { shown = shown_byte 194 ++ shown_byte b; sent = sends_then h k; is = λ rest. visible_upper b rest is }

-- The byte that waited was written, and the next one shown.
pub shows_lone : {b : ℕ} {j : Bool} {x y z : Stream} → begins_upper (b ∷ []) ≡ false → Sends x y (194 ∷ []) → Shows false (b ∷ []) j y z → Shows true (b ∷ []) j x z
shows_lone {b = b} other h k = record {
  shown = (194 ∷ []) ++ k.shown;
  sent = sends_then h k.sent;
  is = λ rest. visible_lone b rest other ∙ ap (λ (t : List ℕ). 194 ∷ t) (k.is rest);
}

-- All bytes are shown, if none waits.
pub shows_whole : {xs : List ℕ} {x y : Stream} → Shows false xs false x y → Sends x y (visible xs)
shows_whole {xs = xs} h = sends_same (sym (ap visible (sym (append-nil xs)) ∙ h.is [] ∙ ap (λ (t : List ℕ). h.shown ++ t) visible_nil ∙ append-nil h.shown)) h.sent

-- The last byte waits, and was written.
pub shows_rest : {xs : List ℕ} {x y z : Stream} → Shows false xs true x y → Sends y z (194 ∷ []) → Sends x z (visible xs)
shows_rest {xs = xs} h k = sends_same (sym (ap visible (sym (append-nil xs)) ∙ h.is [] ∙ ap (λ (t : List ℕ). h.shown ++ t) visible_last)) (sends_then h.sent k)

-- Bytes were shown after others.
pub shows_then : {h i j : Bool} {xs ys : List ℕ} {a b c : Stream} → Shows h xs i a b → Shows i ys j b c → Shows h (xs ++ ys) j a c
shows_then {h = h} {i = i} {j = j} {xs = xs} {ys = ys} k l = record {
  shown = k.shown ++ l.shown;
  sent = sends_then k.sent l.sent;
  is = λ rest. ap (λ (x : List ℕ). visible (pending h ++ x)) (append_assoc xs ys rest) ∙ k.is (ys ++ rest)
      ∙ ap (λ (x : List ℕ). k.shown ++ x) (l.is rest) ∙ sym (append_assoc k.shown l.shown (visible (pending j ++ rest)));
}

-- One part more was shown.
pub shows_part : {X : Type 0} (f : X → List ℕ) (xs : List X) (i : ℕ) (d : X) {h j k : Bool} {a b c : Stream} → i < length xs →
    Shows h (flat_map f (take i xs)) j a b → Shows j (f (get_or xs i d)) k b c → Shows h (flat_map f (take (i + 1) xs)) k a c
shows_part f xs i d {h = h} {k = k} {a = a} {c = c} within s t = subst (λ (ys : List ℕ). Shows h ys k a c)
    (flat_map_more f [] (take i xs) (get_or xs i d) ∙ ap (flat_map f) (sym (take_more xs i d within))) (shows_then s t)

-- None waited, and bytes were shown.
pub shows_next : {h j : Bool} {xs : List ℕ} {a b : Stream} →
    h ≡ false → Shows false xs j a b → Shows h xs j a b
shows_next {j = j} {xs = xs} {a = a} {b = b} none s =
    subst (λ (h : Bool). Shows h xs j a b) (sym none) s

-- No bytes were shown.
pub shows_none : (h : Bool) (s : Stream) → Shows h [] h s s
shows_none h s = record { shown = []; sent = sends_none s; is = λ rest. refl }

-- By one byte.
pub ruleset byte_steps = (common_steps, shows_first, shows_plain, shows_control, shows_next)

-- By the bytes before, and the next one.
pub ruleset part_steps = (common_steps, shows_none, shows_then, take_more)

-- The contents are all that was written to an empty buffer.
pub written_all : {s t : Stream} {x y : List ℕ} → Sends s t x → s.failed ≡ false → t.failed ≡ false → s.contents ≡ Some [] → t.contents ≡ Some y → y ≡ x
written_all {s = s} {t = t} h was works first now = grind (arith, sent_as was refl h, works, first, now)

-- The message of a fault of a text was written, with the visible name.
pub text_visible : {a b : ReportState} (name shown : List ℕ) (f : RunFault) → shown ≡ visible name → Tells a b (fault_message shown f) → TellsOf (IsTextMessage name f) a b
text_visible name shown f is h = record { message = fault_message shown f; is_of = is_visible (ap (λ (n : List ℕ). fault_message n f) is); tells = h }

-- The message of a fault of a text was written, with the name as it is.
pub text_raw : {a b : ReportState} (name : List ℕ) (f : RunFault) → Tells a b (fault_message name f) → TellsOf (IsTextMessage name f) a b
text_raw name f h = record { message = fault_message name f; is_of = is_raw refl; tells = h }
