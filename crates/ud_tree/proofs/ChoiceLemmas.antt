-- The rules of a walk, one after another.
use Rattle.std.proofs.Common.{◌≡◌, refl, true≢false, ℕ, List, [], ◌∷◌, ◌++◌, Bool, true, false, Option, Some, None, sym, subst, arith}
use Rattle.std.proofs.lemmas.List.Elements.{Contains-push_cases}
use Rattle.std.proofs.lemmas.Grind.{common_steps}
use Rattle.std.specs.Prelude.{◌↔◌}
use Rattle.ud_tree.specs.Paths.{last_name}
use Rattle.ud_tree.specs.declared.patterns.Effect.{Effect}
use Rattle.ud_tree.specs.declared.patterns.Effect.TheVariants.{Leave}
use Rattle.ud_tree.specs.Choices.{Rule, rule_of, Fits, FitsFile, Decides, last_fits, last_differs, LeavesDirectory, Chooses, decided, usual, unusual, chosen_by, is_fresh, IsUsual}

-- The last rule matches.
pub decides_fits : {below : List ℕ} {texts more : List (List ℕ)} {effect : Option Effect} (text : List ℕ) (rule : Rule) → more ≡ texts ++ text ∷ [] → rule ≡ rule_of text →
    FitsFile rule below → Decides below texts effect → Decides below more (Some rule.effect)
decides_fits {below = below} {texts = texts} text rule grown is fits h =
    subst (λ (ts : List (List ℕ)). Decides below ts (Some rule.effect)) (sym grown)
    (subst (λ (r : Rule). Decides below (texts ++ text ∷ []) (Some r.effect)) (sym is)
    (last_fits text h (subst (λ (r : Rule). FitsFile r below) is fits)))

-- The last rule doesn't match.
pub decides_differs : {below : List ℕ} {texts more : List (List ℕ)} {effect : Option Effect} (text : List ℕ) (rule : Rule) → more ≡ texts ++ text ∷ [] → rule ≡ rule_of text →
    ¬ (FitsFile rule below) → Decides below texts effect → Decides below more effect
decides_differs {below = below} {effect = effect} text rule grown is differs h =
    subst (λ (ts : List (List ℕ)). Decides below ts effect) (sym grown)
    (last_differs text h (λ fits. differs (subst (λ (r : Rule). FitsFile r below) (sym is) fits)))

pub chooses_decided : {below : List ℕ} {texts : List (List ℕ)} {last : Option Effect} {b : Bool} (effect : Effect) → is_fresh (last_name below) ≡ false → last ≡ Some effect → Decides below texts last →
    b ≡ chosen_by effect → Chooses texts below b
chooses_decided {below = below} {texts = texts} effect old is h same =
    subst (λ (b : Bool). Chooses texts below b) (sym same) (decided effect old (subst (λ (e : Option Effect). Decides below texts e) is h))

pub chooses_usual : {below : List ℕ} {texts : List (List ℕ)} {last : Option Effect} (b : Bool) → is_fresh (last_name below) ≡ false → last ≡ None → Decides below texts last →
    (b ≡ true) ↔ IsUsual texts (last_name below) → Chooses texts below b
chooses_usual {below = below} {texts = texts} true old is h by_name = usual old (subst (λ (e : Option Effect). Decides below texts e) is h) (by_name.0 refl)
chooses_usual {below = below} {texts = texts} false old is h by_name = unusual (subst (λ (e : Option Effect). Decides below texts e) is h) (λ u. true≢false (sym (by_name.1 u)))

-- No rule does, and one more doesn't.
pub leaves_none : {below : List ℕ} {texts more : List (List ℕ)} (text : List ℕ) (rule : Rule) → more ≡ texts ++ text ∷ [] → rule ≡ rule_of text →
    ¬ ((rule.effect ≡ Leave) × Fits rule below) → ¬ (LeavesDirectory texts below) → ¬ (LeavesDirectory more below)
leaves_none {below = below} {texts = texts} text rule grown is other none h = grind (arith, common_steps, Contains-push_cases)
