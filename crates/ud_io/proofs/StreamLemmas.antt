-- StreamLemmas: bytes that a writer takes one after another.
use Rattle.std.proofs.Common.{◌<◌, ◌+◌, length, take, get_or, ◌≡◌, ℕ, List, [], ◌∷◌, ◌++◌, Bool, true, false, Option, refl, sym, ap, subst, ◌∙◌, true≢false, take_all, append_assoc, append-nil, arith}
use Rattle.std.specs.List.{flat_map}
use Rattle.std.specs.Io.KnownBytes.{Appends, Keeps}
use Rattle.std.proofs.KnownBytes.{Appends-nil, Keeps-refl, Keeps-trans, Appends-kept}
use Rattle.std.proofs.lemmas.Grind.{flat_map-append}
use Rattle.std.proofs.lemmas.List.{take_more}
use Rattle.ud_io.specs.Watched.{AppendsPrefix, AppendsAllOrPrefix}
use Rattle.ud_io.specs.Buffering.{AppendsAllBut}
use Rattle.ud_io.specs.Streams.{Stream, TakesBy, TakesAllBut, Sends}
use Rattle.ud_io.proofs.BufferingLemmas.{appends_all_but_none, appends_all_but_part, appends_all_but_then, appends_all_but_then_front, appends_all_but_all}

prefix_kept : (a b c : Option (List ℕ)) (bytes more : List ℕ) → AppendsPrefix a b bytes → Keeps b c → AppendsPrefix a c (bytes ++ more)
prefix_kept a b c bytes more (prefix, back, joined, p) k = (prefix, back ++ more, ap (λ x. x ++ more) joined ∙ append_assoc prefix back more, Appends-kept a b c prefix p k)

-- Nothing is written: the bytes are all left, or dropped after a failure.
pub takes_buffered : (f : Bool) (a : Option (List ℕ)) (bytes : List ℕ) → TakesBy f f a a bytes bytes
takes_buffered false a bytes = appends_all_but_none a bytes
takes_buffered true a bytes = (refl, Keeps-refl a)

-- Bytes that follow are taken after those before them.
pub takes_then : (f g h : Bool) (a b c : Option (List ℕ)) (bytes left more last : List ℕ) → TakesBy f g a b bytes left → TakesBy g h b c (left ++ more) last → TakesBy f h a c (bytes ++ more) last
takes_then false false false a b c bytes left more last s t = appends_all_but_then a b c bytes left more last s t
takes_then false false true a b c bytes left more last s t = appends_all_but_then_front a b c bytes left more s t
takes_then false true true a b c bytes left more last s t = prefix_kept a b c bytes more s t.1
takes_then false true false a b c bytes left more last s t = absurd (true≢false (sym t.0))
takes_then true true h a b c bytes left more last s t = (t.0, Keeps-trans a b c s.1 t.1)
takes_then true false h a b c bytes left more last s t = absurd (true≢false (sym s.0))

-- A write of all bytes, to a writer that hadn't failed, leaves none.
takes_written : (f g : Bool) (a b : Option (List ℕ)) (bytes : List ℕ) → f ≡ false → AppendsAllOrPrefix g a b bytes → TakesBy f g a b bytes []
takes_written false false a b bytes e h =
    appends_all_but_part a a b bytes bytes [] (subst (λ x. AppendsAllBut a a bytes x) (sym (append-nil bytes)) (appends_all_but_none a bytes)) h
takes_written false true a b bytes e h = h
takes_written true g a b bytes e h = absurd (true≢false e)

-- A writer that has failed takes nothing.
takes_dropped : (f : Bool) (a : Option (List ℕ)) (bytes : List ℕ) → f ≡ true → TakesBy f f a a bytes []
takes_dropped true a bytes e = (refl, Keeps-refl a)
takes_dropped false a bytes e = absurd (true≢false (sym e))

-- A flush takes no bytes, also if it fails.
takes_kept : (f g : Bool) (a b : Option (List ℕ)) → f ≡ false → Keeps a b → TakesBy f g a b [] []
takes_kept false false a b e k = record { prefix = []; joined = refl; appended = Appends-kept a a b [] (Appends-nil a) k }
takes_kept false true a b e k = ([], [], refl, Appends-kept a a b [] (Appends-nil a) k)
takes_kept true g a b e k = absurd (true≢false e)

-- All was appended, or a prefix if a write has failed now.
pub takes_of_working : (f g : Bool) (a b : Option (List ℕ)) (bytes : List ℕ) → f ≡ false → TakesBy f g a b bytes [] → AppendsAllOrPrefix g a b bytes
takes_of_working false false a b bytes e s = appends_all_but_all a b bytes [] s refl
takes_of_working false true a b bytes e s = s
takes_of_working true g a b bytes e s = absurd (true≢false e)

-- The same, after a flush that took no bytes of its own.
pub takes_after_flush : (f g h : Bool) (a b c : Option (List ℕ)) (x left more last : List ℕ) → TakesBy f g a b (x ++ []) left → TakesBy g h b c (left ++ more) last → TakesBy f h a c (x ++ more) last
takes_after_flush f g h a b c x left more last s t =
    takes_then f g h a b c x left more last (subst (λ y. TakesBy f g a b y left) (append-nil x) s) t

-- The bytes of the parts up to one are those before it, and its own.
flat_map-take : {X : Type 0} (f : X → List ℕ) (xs : List X) (i : ℕ) (d : X) → i < length xs →
    flat_map f (take (i + 1) xs) ≡ flat_map f (take i xs) ++ f (get_or xs i d)
flat_map-take f xs i d h =
    let at : take (i + 1) xs ≡ take i xs ++ get_or xs i d ∷ [] = take_more xs i d h in
    ap (flat_map f) at ∙ flat_map-append f (take i xs) (get_or xs i d ∷ []) ∙ ap (λ x. flat_map f (take i xs) ++ x) (append-nil (f (get_or xs i d)))

-- One part more is taken.
pub takes_part : {X : Type 0} (p : X → List ℕ) (xs : List X) (i : ℕ) (x : X) (f g h : Bool) (a b c : Option (List ℕ)) (old rest left : List ℕ) → i < length xs →
    TakesBy f g a b (old ++ flat_map p (take i xs)) rest → TakesBy g h b c (rest ++ p (get_or xs i x)) left → TakesBy f h a c (old ++ flat_map p (take (i + 1) xs)) left
takes_part p xs i x f g h a b c old rest left k s t =
    subst (λ y. TakesBy f h a c y left) (append_assoc old (flat_map p (take i xs)) (p (get_or xs i x)) ∙ ap (λ y. old ++ y) (sym (flat_map-take p xs i x k)))
    (takes_then f g h a b c (old ++ flat_map p (take i xs)) rest (p (get_or xs i x)) left s t)

-- Two texts are taken, one after the other.
pub takes_both : (f g h : Bool) (a b c : Option (List ℕ)) (old mid last x y : List ℕ) → TakesBy f g a b (old ++ x) mid → TakesBy g h b c (mid ++ y) last → TakesBy f h a c (old ++ (x ++ y)) last
takes_both f g h a b c old mid last x y s t =
    subst (λ z. TakesBy f h a c z last) (append_assoc old x y) (takes_then f g h a b c (old ++ x) mid y last s t)

-- A stream takes nothing, and all bytes are left.
pub stream_buffered : (a : Stream) (bytes : List ℕ) → TakesAllBut a a bytes bytes
stream_buffered a bytes = takes_buffered a.failed a.contents bytes

-- Bytes that follow are taken after those before them.
pub stream_then : (a b c : Stream) (bytes left more last : List ℕ) → TakesAllBut a b bytes left → TakesAllBut b c (left ++ more) last → TakesAllBut a c (bytes ++ more) last
stream_then a b c bytes left more last s t = takes_then a.failed b.failed c.failed a.contents b.contents c.contents bytes left more last s t

-- A flush takes what was left.
pub stream_flushed : (a b c : Stream) (bytes left : List ℕ) → TakesAllBut a b bytes left → TakesAllBut b c left [] → TakesAllBut a c bytes []
stream_flushed a b c bytes left s t = subst (λ x. TakesAllBut a c x []) (append-nil bytes)
    (stream_then a b c bytes left [] [] s (subst (λ x. TakesAllBut b c x []) (sym (append-nil left)) t))

-- All was appended, if no write has failed.
pub stream_appends : (f g : Bool) (a b : Option (List ℕ)) (bytes : List ℕ) → f ≡ false → g ≡ false → TakesBy f g a b bytes [] → Appends a b bytes
stream_appends false false a b bytes e k s = appends_all_but_all a b bytes [] s refl
stream_appends false true a b bytes e k s = cc
stream_appends true g a b bytes e k s = cc

-- A prefix was appended, if a write has failed.
pub stream_cut : (f g : Bool) (a b : Option (List ℕ)) (bytes : List ℕ) → f ≡ false → g ≡ true → TakesBy f g a b bytes [] → AppendsPrefix a b bytes
stream_cut false true a b bytes e k s = s
stream_cut false false a b bytes e k s = cc
stream_cut true g a b bytes e k s = cc

-- Two texts are taken by a stream, one after the other.
pub stream_both : (a b c : Stream) (old mid last x y : List ℕ) → TakesAllBut a b (old ++ x) mid → TakesAllBut b c (mid ++ y) last → TakesAllBut a c (old ++ (x ++ y)) last
stream_both a b c old mid last x y s t = takes_both a.failed b.failed c.failed a.contents b.contents c.contents old mid last x y s t

-- Nothing was sent.
pub sends_none : (s : Stream) → Sends s s []
sends_none s = record { taken = takes_buffered s.failed s.contents []; fused = λ e. refl }

-- Equal bytes were sent.
pub sends_same : {a b : Stream} {x y : List ℕ} → x ≡ y → Sends a b x → Sends a b y
sends_same {a = a} {b = b} e h = subst (λ (z : List ℕ). Sends a b z) e h

-- Bytes were sent after others.
pub sends_then : {a b c : Stream} {x y : List ℕ} → Sends a b x → Sends b c y → Sends a c (x ++ y)
sends_then {a = a} {b = b} {c = c} {x = x} {y = y} h k = record {
  taken = takes_then a.failed b.failed c.failed a.contents b.contents c.contents x [] y [] h.taken k.taken;
  fused = λ e. k.fused (ap (λ (s : Stream). s.failed) (h.fused e) ∙ e) ∙ h.fused e;
}

-- A flush sends nothing, also if it fails.
pub sends_flushed : {a b : Stream} → a.failed ≡ false → Keeps a.contents b.contents → Sends a b []
sends_flushed {a = a} {b = b} works k =
    record { taken = takes_kept a.failed b.failed a.contents b.contents works k; fused = λ e. absurd (true≢false (sym e ∙ works)) }

-- Nothing is done with a writer that has failed.
pub sends_failed : (s : Stream) (x : List ℕ) → s.failed ≡ true → Sends s s x
sends_failed s x is = record { taken = takes_dropped s.failed s.contents x is; fused = λ e. refl }

-- Bytes were written to a writer that hadn't failed.
pub sends_written : {a b : Stream} {x : List ℕ} → a.failed ≡ false → AppendsAllOrPrefix b.failed a.contents b.contents x → Sends a b x
sends_written {a = a} {b = b} {x = x} works h =
    record { taken = takes_written a.failed b.failed a.contents b.contents x works h; fused = λ e. absurd (true≢false (sym e ∙ works)) }

-- Bytes that are equal to those sent were written to a writer that hadn't failed.
pub sent_as : {a b : Stream} {x y : List ℕ} → a.failed ≡ false → x ≡ y → Sends a b x → AppendsAllOrPrefix b.failed a.contents b.contents y
sent_as {a = a} {b = b} {x = x} works same h =
    subst (λ (z : List ℕ). AppendsAllOrPrefix b.failed a.contents b.contents z) same (takes_of_working a.failed b.failed a.contents b.contents x works h.taken)

-- One part more was sent.
pub sends_part : {X : Type 0} (f : X → List ℕ) (xs : List X) (i : ℕ) (d : X) {a b c : Stream} → i < length xs →
    Sends a b (flat_map f (take i xs)) → Sends b c (f (get_or xs i d)) → Sends a c (flat_map f (take (i + 1) xs))
sends_part f xs i d within h k = sends_same (sym (flat_map-take f xs i d within)) (sends_then h k)

-- All parts were sent.
pub sends_parts : {X : Type 0} (f : X → List ℕ) (xs : List X) (i : ℕ) {a b : Stream} → i ≡ length xs → Sends a b (flat_map f (take i xs)) → Sends a b (flat_map f xs)
sends_parts f xs i is h = sends_same (ap (flat_map f) (take_all i xs (omega arith))) h
