-- A condition means the same with one space for all white space before each byte.
use Rattle.std.proofs.Common.{◌≡◌, ℕ, List, [], ◌∷◌, ◌++◌, Bool, true, false, ◌&&◌, if◌then◌else◌, Option, refl, sym, ◌∙◌, ap, ap₂, subst, arith}
use Rattle.ud_model.specs.text.Bytes.{space, is_white, leading_word, skip_word, are_white}
use Rattle.ud_model.specs.aids.SpacedBytes.{spaced}
use Rattle.ud_model.specs.conditions.Tokens.{Token}
use Rattle.ud_model.specs.conditions.Conditions.{sole_name}
use Rattle.ud_model.specs.conditions.Parsing.{tokens_of, reads, parse_all_tokens, itself, needs, expression_of}
use Rattle.ud_model.specs.laws.WrittenConditions.{condition_by_test}
use Rattle.ud_model.specs.declared.kind.Test.{Test}
use Rattle.ud_model.proofs.conditions.SpreadTexts.{begins_white, IsSpread, nothing, kept, behind, in_front, Spread, SameFront, no_front, front, skipped, SameWord, same_word, spread_tokens}

-- 1. A text that is spread from both.

-- The text with a space behind the white space before each byte.
abbrev wide : Bool → List ℕ → List ℕ
wide white [] = []
wide white (b ∷ t) = if is_white b then b ∷ wide true t else (if white then space ∷ b ∷ wide false t else b ∷ wide false t)

kept_text : (b : ℕ) (v w : Bool) (t : List ℕ) → is_white b ≡ w → IsSpread w (wide w t) t → IsSpread v (if w then b ∷ wide true t else (if v then space ∷ b ∷ wide false t else b ∷ wide false t)) (b ∷ t)
kept_text b v w t e h = grind (arith, kept, behind)

from_text : (white : Bool) (t : List ℕ) → IsSpread white (wide white t) t
from_text white [] = nothing
from_text white (b ∷ t) = kept_text b white (is_white b) t refl (from_text (is_white b) t)

spaced_white : (t : List ℕ) → begins_white (spaced true t) ≡ true
spaced_white [] = refl
spaced_white (b ∷ t) = grind (arith, spaced_white t)

kept_spaced : (any : Bool) (b : ℕ) (v w : Bool) (t : List ℕ) → is_white b ≡ w → ((x : Bool) → IsSpread x (wide w t) (spaced w t)) →
    IsSpread any (if w then b ∷ wide true t else (if v then space ∷ b ∷ wide false t else b ∷ wide false t))
    (if w then spaced true t else (if v then space ∷ b ∷ [] else b ∷ []) ++ spaced false t)
kept_spaced any b v w t e h = grind (arith, in_front, spaced_white, kept)

from_spaced : (any white : Bool) (t : List ℕ) → IsSpread any (wide white t) (spaced white t)
from_spaced any white [] = nothing
from_spaced any white (b ∷ t) = kept_spaced any b white (is_white b) t refl (λ x. from_spaced x (is_white b) t)

-- 2. What is read.

tokens_spaced : (t : List ℕ) → tokens_of (spaced true t) ≡ tokens_of t
tokens_spaced t = sym (spread_tokens (wide true t) (spaced true t) (true, from_spaced true true t)) ∙ spread_tokens (wide true t) t (true, from_text true t)

pub expression_spaced : (t : List ℕ) → expression_of (spaced true t) ≡ expression_of t
unfolding expression_of reads
expression_spaced t = ap (λ (ts : Option (List Token)). parse_all_tokens itself (needs []) ts) (tokens_spaced t)

spread_white : {w : Bool} {u t : List ℕ} → IsSpread w u t → are_white u ≡ are_white t
spread_white nothing = refl
spread_white (kept b s) = ap (λ (x : Bool). is_white b && x) (spread_white s)
spread_white (behind b e s) = ap₂ (λ (a x : Bool). a && x) e (spread_white s)
spread_white (in_front b e f s) = ap₂ (λ (a x : Bool). a && x) e (spread_white s)

-- The name that is all of both texts.
name_front : {u t : List ℕ} → SameFront u t → (leading_word u ≡ leading_word t) × (are_white (skip_word u) ≡ are_white (skip_word t))
name_front no_front = (refl, refl)
name_front (front {u = u} {t = t} b n s) =
    let r : SameWord (b ∷ u) (b ∷ t) = same_word refl (kept {white = false} b (subst (λ (w : Bool). IsSpread w u t) (sym n) s)) in
    (r.word, spread_white r.rest)

name_spread : (u t : List ℕ) → Spread u t → sole_name u ≡ sole_name t
name_spread u t (w, s) = let r = name_front (skipped s) in grind (arith, r.0, r.1)

name_spaced : (t : List ℕ) → sole_name (spaced true t) ≡ sole_name t
name_spaced t = sym (name_spread (wide true t) (spaced true t) (true, from_spaced true true t)) ∙ name_spread (wide true t) t (true, from_text true t)

-- A condition means the same.
pub condition_spaced : (p : Test) (t : List ℕ) → condition_by_test p (spaced true t) ≡ condition_by_test p t
condition_spaced p t = grind (arith, expression_spaced, name_spaced)
