-- More bytes of a file, after the first ones.
use Rattle.std.proofs.Common.{◌≡◌, ℕ, ◌≤◌, List, [], ◌∷◌, ◌++◌, length, true, false, not, Option, Some, None, refl, sym, ap, ◌∙◌, subst, append_assoc, arith}
use Rattle.std.proofs.lemmas.List.{take-append-le}
use Rattle.std.specs.List.{list_any}
use Rattle.std.specs.Prelude.{nat_eq}
use Rattle.std.specs.Io.KnownBytes.{Consumes}
use Rattle.ud_tree.specs.declared.disk.sampling.TheConstants.{PROBE_BYTES}
use Rattle.ud_tree.specs.Reading.{is_utf16}
use Rattle.ud_tree.specs.Sampling.{is_text, ReadsOn}

consumes_then : (a b c : Option (List ℕ)) (xs ys : List ℕ) → Consumes a b xs → Consumes b c ys → Consumes a c (xs ++ ys)
consumes_then None b c xs ys h k = tt
consumes_then (Some a) None c xs ys h k = absurd h
consumes_then (Some a) (Some b) None xs ys h k = absurd k
consumes_then (Some a) (Some b) (Some c) xs ys h k = h ∙ ap (λ (r : List ℕ). xs ++ r) k ∙ sym (append_assoc xs ys c)

-- The first bytes of a longer text tell whether it is text.
texts_more : (text bytes more : List ℕ) → PROBE_BYTES ≤ length text → more ≡ text ++ bytes → is_text more ≡ is_text text
texts_more text bytes more long is = ap is_text is ∙ ap (λ (t : List ℕ). not (list_any (λ byte. nat_eq byte 0) t)) (take-append-le PROBE_BYTES text bytes long)

marked_first : (text bytes : List ℕ) → 2 ≤ length text → is_utf16 (text ++ bytes) ≡ is_utf16 text
marked_first [] bytes long = absurd (omega arith)
marked_first (a ∷ []) bytes long = absurd (omega arith)
marked_first (a ∷ b ∷ text) bytes long = refl

-- So do they whether it has a byte order mark.
marked_more : (text bytes more : List ℕ) → PROBE_BYTES ≤ length text → more ≡ text ++ bytes → is_utf16 more ≡ is_utf16 text
marked_more text bytes more long is = ap is_utf16 is ∙ marked_first text bytes (omega arith)

-- All bytes that were read are text if the first ones are.
pub more_sampled : {a b c : Option (List ℕ)} (none text more : List ℕ) → none ≡ [] → ReadsOn a b none text → ReadsOn b c text more → PROBE_BYTES ≤ length text → is_utf16 text ≡ false → is_text text ≡ true →
    Consumes a c more × (is_utf16 more ≡ false) × (is_text more ≡ true)
more_sampled {a = a} {b = b} {c = c} none text more empty h k long unmarked texts =
    let first : text ≡ h.bytes = h.appended ∙ ap (λ (t : List ℕ). t ++ h.bytes) empty in
    let whole : h.bytes ++ k.bytes ≡ more = sym (k.appended ∙ ap (λ (t : List ℕ). t ++ k.bytes) first) in (
      subst (λ (t : List ℕ). Consumes a c t) whole (consumes_then a b c h.bytes k.bytes h.consumed k.consumed),
      marked_more text k.bytes more long k.appended ∙ unmarked,
      texts_more text k.bytes more long k.appended ∙ texts,
    )
