-- Bytes that are written part by part.
use Rattle.std.proofs.lemmas.Grind.{common_steps}
use Rattle.std.proofs.Common.{◌==◌, ◌≡◌, ◌-◌, arith, ℕ, List, [], ◌∷◌, ◌++◌, length, take, drop, Bool, false, Option, refl, sym, ap, subst, ◌∙◌, append_assoc, append-nil, take-append-drop}
use Rattle.std.specs.Io.KnownBytes.{Appends}
use Rattle.std.proofs.KnownBytes.{Appends-nil, Appends-trans}
use Rattle.ud_io.specs.Watched.{AppendsPrefix, AppendsAllOrPrefix}
use Rattle.ud_io.specs.Buffering.{AppendsAllBut}

-- at first, nothing is appended
pub appends_all_but_none : (a : Option (List ℕ)) (bytes : List ℕ) → AppendsAllBut a a bytes bytes
appends_all_but_none a bytes = record { prefix = []; joined = refl; appended = Appends-nil a }

-- then a prefix of the rest is appended
pub appends_all_but_part : (a b c : Option (List ℕ)) (bytes part rest : List ℕ) → AppendsAllBut a b bytes (part ++ rest) → Appends b c part → AppendsAllBut a c bytes rest
appends_all_but_part a b c bytes part rest s p = record {
  prefix = s.prefix ++ part;
  joined = s.joined ∙ sym (append_assoc s.prefix part rest);
  appended = Appends-trans a b c s.prefix part s.appended p;
}

-- then the first `n` bytes of the rest are appended
pub appends_all_but_bytes : (a b c : Option (List ℕ)) (bytes rest : List ℕ) (n : ℕ) → AppendsAllBut a b bytes rest → Appends b c (take n rest) → AppendsAllBut a c bytes (drop n rest)
appends_all_but_bytes a b c bytes rest n s p =
    appends_all_but_part a b c bytes (take n rest) (drop n rest) (subst (λ r. AppendsAllBut a b bytes r) (sym (take-append-drop n rest)) s) p

-- if the rest is empty, all is appended
pub appends_all_but_all : (a b : Option (List ℕ)) (bytes rest : List ℕ) → AppendsAllBut a b bytes rest → rest ≡ [] → Appends a b bytes
appends_all_but_all a b bytes rest s e =
    subst (λ x. Appends a b x) (sym (s.joined ∙ ap (λ r. s.prefix ++ r) e ∙ append-nil s.prefix)) s.appended

-- if a prefix of the next part was appended, a prefix of all was
pub appends_all_but_prefix : (a b c : Option (List ℕ)) (bytes part rest : List ℕ) → AppendsAllBut a b bytes (part ++ rest) → AppendsPrefix b c part → AppendsPrefix a c bytes
appends_all_but_prefix a b c bytes part rest s (prefix, back, joined, p) = (
  s.prefix ++ prefix,
  back ++ rest,
  s.joined ∙ ap (λ x. s.prefix ++ (x ++ rest)) joined ∙ ap (λ x. s.prefix ++ x) (append_assoc prefix back rest) ∙ sym (append_assoc s.prefix prefix (back ++ rest)),
  Appends-trans a b c s.prefix prefix s.appended p,
)

pub all_or_prefix_same : (failed : Bool) (a b : Option (List ℕ)) (x y : List ℕ) → x ≡ y → AppendsAllOrPrefix failed a b x → AppendsAllOrPrefix failed a b y
all_or_prefix_same failed a b x y e h = subst (λ z. AppendsAllOrPrefix failed a b z) e h

-- the rest after the first `n` bytes, as a range gives it
pub range_from : (rest : List ℕ) (n : ℕ) → take (length rest - n) (drop n rest) ≡ drop n rest
range_from rest n = grind (arith, common_steps)

suffix_nil : (x y : List ℕ) → x ++ y ≡ [] → y ≡ []
suffix_nil [] y e = e
suffix_nil (b ∷ bs) y e = cc

-- no bytes have no rest
pub appends_all_but_empty : (a b : Option (List ℕ)) (bytes rest : List ℕ) → AppendsAllBut a b bytes rest → bytes ≡ [] → rest ≡ []
appends_all_but_empty a b bytes rest s e = suffix_nil s.prefix rest (sym s.joined ∙ e)

-- an empty list has length 0
pub empty_len : (rest : List ℕ) → rest ≡ [] → false ≡ (length rest == 0) → ⊥
empty_len [] e h = absurd cc
empty_len (b ∷ bs) e h = absurd cc

-- after the first bytes, a prefix of the second bytes was appended
pub prefix_of_second : (a b c : Option (List ℕ)) (x y : List ℕ) → Appends a b x → AppendsPrefix b c y → AppendsPrefix a c (x ++ y)
prefix_of_second a b c x y h k = appends_all_but_prefix a b c (x ++ y) y []
    (subst (λ r. AppendsAllBut a b (x ++ y) r) (sym (append-nil y)) (appends_all_but_part a a b (x ++ y) x y (appends_all_but_none a (x ++ y)) h)) k

-- more bytes follow the rest
pub appends_all_but_then : (a b c : Option (List ℕ)) (bytes rest more left : List ℕ) → AppendsAllBut a b bytes rest → AppendsAllBut b c (rest ++ more) left → AppendsAllBut a c (bytes ++ more) left
appends_all_but_then a b c bytes rest more left s t = record {
  prefix = s.prefix ++ t.prefix;
  joined =
      ap (λ x. x ++ more) s.joined ∙ append_assoc s.prefix rest more ∙ ap (λ x. s.prefix ++ x) t.joined ∙ sym (append_assoc s.prefix t.prefix left);
  appended = Appends-trans a b c s.prefix t.prefix s.appended t.appended;
}

-- a write fails within the rest or the bytes that follow it
pub appends_all_but_then_front : (a b c : Option (List ℕ)) (bytes rest more : List ℕ) → AppendsAllBut a b bytes rest → AppendsPrefix b c (rest ++ more) → AppendsPrefix a c (bytes ++ more)
appends_all_but_then_front a b c bytes rest more s (prefix, back, joined, p) = (
  s.prefix ++ prefix,
  back,
  ap (λ x. x ++ more) s.joined ∙ append_assoc s.prefix rest more ∙ ap (λ x. s.prefix ++ x) joined ∙ sym (append_assoc s.prefix prefix back),
  Appends-trans a b c s.prefix prefix s.appended p,
)
