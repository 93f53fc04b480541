-- Refining: an operator gives at least as much where more is known of its operands.
use Rattle.std.proofs.Common.{◌≡◌, Bool, true, false, Option, Some, ◌⊎◌, inl, inr, ℤ, pos, ◌≤ℤ◌}
use Rattle.std.proofs.Common.{sym, ◌∙◌, ap, subst, arith}
use Rattle.std.proofs.lemmas.Option.{none-some}
use Rattle.ud_model.specs.conditions.Values.{apply_binary_known, short_circuit, short_circuits}
use Rattle.ud_model.specs.conditions.Values.{apply_binary, apply_unary, amount_from, counted}
use Rattle.ud_model.specs.conditions.Values.{mirrored, unary_amount, binary_amount}
use Rattle.ud_model.specs.declared.amount.Amount.{Amount}
use Rattle.ud_model.specs.declared.amount.Amount.TheVariants.{Anything, Exactly, AtLeast}
use Rattle.ud_model.specs.declared.operator.Operator.{Operator}
use Rattle.ud_model.proofs.conditions.KnownStays.{From, numbered, left_numbered, right_numbered, unary_numbered, counted_shows, numbered_shows}

-- 1. Numbers.

-- A known number stays known.
abbrev pub Keeps : Option ℤ → Option ℤ → Type 0
Keeps a b = (z : ℤ) → a ≡ Some z → b ≡ Some z

short_both : (u : Bool) (o : Operator) (x y z : ℤ) → short_circuit o x ≡ Some z → apply_binary_known u o x y ≡ Some z
unfolding apply_binary_known
short_both u o x y z e = grind arith

both_short : (u : Bool) (o : Operator) (x y z : ℤ) → short_circuit o y ≡ Some z → apply_binary_known u o x y ≡ Some z
unfolding apply_binary_known
both_short u o x y z e = grind arith

-- One operand that decides does so without `strict`, too.
looser : (s r : Bool) (o : Operator) (x z : ℤ) → (r ≡ true → s ≡ true) → short_circuits s o x ≡ Some z → (short_circuit o x ≡ Some z) × (short_circuits r o x ≡ Some z)
looser s r o x z h e = grind arith

-- An operator on operands that stay known keeps its value, without `strict`, too.
pub binary_keeps : (s r u : Bool) (o : Operator) (x y v w : Option ℤ) → (r ≡ true → s ≡ true) → Keeps x v → Keeps y w → Keeps (apply_binary s u o x y) (apply_binary r u o v w)
binary_keeps s r u o x y v w l h k z e = grind (arith, looser, short_both, both_short, none-some)

-- 2. Amounts.

-- A known number stays; the least number may become one from there on.
abbrev pub Refines : Amount → Amount → Type 0
Refines Anything b = Unit {0}
Refines (Exactly z) b = b ≡ Exactly z
Refines (AtLeast n) b = (b ≡ AtLeast n) ⊎ ((k : ℤ) × (n ≤ℤ k) × (b ≡ Exactly k))

-- A known amount stays as it is.
abbrev pub Stays : Amount → Amount → Type 0
Stays a b = (a ≡ Anything) ⊎ (b ≡ a)

pub stays_refines : (a b : Amount) → Stays a b → Refines a b
stays_refines a b h = grind arith

pub keeps_stays : (least : Bool) (x v : Option ℤ) → Keeps x v → Stays (amount_from least x) (amount_from least v)
keeps_stays least x v h = grind arith

-- A number that the first amount may be counts for it, and the second one keeps this.
abbrev Chosen : Amount → Amount → Type 0
Chosen a b = (k : ℤ) × From a k × ((o : Operator) (d e : Amount) → Refines d e → Keeps (numbered o a d k) (counted o b e))

chosen : (a b : Amount) → Refines a b → Chosen a b
chosen Anything b h = (pos 0, tt, λ o d e i z f. absurd (none-some z f))
chosen (Exactly z) b h = (pos 0, tt, λ o d e i y f. ap (λ (c : Amount). counted o c e) h ∙ f)
chosen (AtLeast n) b (inl h) =
    (n, grind arith, λ o d e i z f. ap (λ (c : Amount). counted o c e) h ∙ stays o d e z i f)
  where
    stays : (o : Operator) (d e : Amount) (z : ℤ) → Refines d e → numbered o (AtLeast n) d n ≡ Some z → counted o (AtLeast n) e ≡ Some z
    stays o d e z i f = grind arith
chosen (AtLeast n) b (inr h) = grind arith

pub unary_refines : (u : Bool) (o : Operator) (a b : Amount) → Refines a b → Stays (unary_amount u o a) (unary_amount u o b)
unary_refines u o a b h = let c : Chosen a b = chosen a b h in
    keeps_stays false (apply_unary u o (counted o a Anything)) (apply_unary u o (counted o b Anything))
    (subst (λ x. Keeps x (apply_unary u o (counted o b Anything))) (sym (unary_numbered u o a c.0 c.1))
    (grind arith))

pub binary_refines : (s r u : Bool) (o : Operator) (a b d e : Amount) → (r ≡ true → s ≡ true) → Refines a b → Refines d e → Stays (binary_amount s u o a d) (binary_amount r u o b e)
binary_refines s r u o a b d e l h k =
    let f : Chosen a b = chosen a b h in
    let g : Chosen d e = chosen d e k in
    let v : Option ℤ = numbered o a d f.0 in
    let w : Option ℤ = numbered (mirrored o) d a g.0 in
    let next : Option ℤ = apply_binary r u o (counted o b e) (counted (mirrored o) e b) in
    keeps_stays false (apply_binary s u o (counted o a d) (counted (mirrored o) d a)) next
    (subst (λ x. Keeps x next)
    (sym (left_numbered s u o a d f.0 (counted (mirrored o) d a) f.1 (counted_shows (mirrored o) d a)
    ∙ right_numbered s u o d a g.0 v g.1 (numbered_shows o a d f.0)))
    (binary_keeps s r u o v w (counted o b e) (counted (mirrored o) e b) l (f.2 o d e k) (g.2 (mirrored o) a b h)))
