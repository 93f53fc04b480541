-- The program's part after an operator: its fields, and its flags after a fill.
use Rattle.std.proofs.Common.{◌≡◌, ◌≤◌, ◌<◌, ℕ, zero, ◌+◌, suc, List, [], ◌∷◌, ◌++◌, length, replicate, Bool, true, false, ◌&&◌, refl, sym, ◌∙◌, ap, append_assoc, append-nil, length-append, arith}
use Rattle.std.proofs.lemmas.Bool.{false≢true}
use Rattle.std.proofs.lemmas.List.{length-replicate, replicate-append-replicate}
use Rattle.ud_model.specs.conditions.Conditions.{Rules}
use Rattle.ud_model.specs.conditions.Values.{unary_amount, binary_amount}
use Rattle.ud_model.specs.aids.Residuals.{is_unit, settled}
use Rattle.ud_model.specs.declared.amount.Amount.{Amount}
use Rattle.ud_model.specs.declared.cond.Cond.{Cond}
use Rattle.ud_model.specs.declared.operator.Operator.{Operator}
use Rattle.ud_model.specs.declared.operator.Operator.TheVariants.{Or, And}
use Rattle.ud_cond.specs.declared.expressions.values.Value.{Value}
use Rattle.ud_cond.specs.declared.expressions.parts.Part.{Part}
use Rattle.ud_cond.specs.expressions.Evaluation.{unary_value_of, binary_value_of}
use Rattle.ud_cond.specs.expressions.ResidualReading.{is_joining, is_not, Kept, leaf, unary_kept, joined_kept, binary_kept, are_all_kept, lost_len, part_of}

-- parts with the same fields
pub part_same : {p q : Part} → p.value ≡ q.value → p.number ≡ q.number → p.cond ≡ q.cond → p.lost ≡ q.lost →
    p.left_alone ≡ q.left_alone → p.alone ≡ q.alone → p.whole ≡ q.whole → p.first ≡ q.first → p.kept ≡ q.kept → p ≡ q
part_same v n c l a b w f k = grind arith

-- how many tokens are lost before the first one that is kept
pub lost-replicate : (n : ℕ) (xs : List Bool) → n + lost_len xs ≡ lost_len (replicate n false ++ xs)
lost-replicate zero xs = omega arith
lost-replicate (suc n) xs = let e = lost-replicate n xs in omega (arith, e)

lost-kept : (xs ys : List Bool) → lost_len xs ≡ lost_len (xs ++ true ∷ ys)
lost-kept [] ys = refl
lost-kept (true ∷ xs) ys = refl
lost-kept (false ∷ xs) ys = ap suc (lost-kept xs ys)

pub none_lost : (n : ℕ) → 0 ≡ lost_len (replicate n true)
none_lost n = grind arith

pub lost-some : (xs : List Bool) (m : ℕ) → lost_len xs < length xs → lost_len xs ≡ lost_len (xs ++ replicate m false)
lost-some [] m h = absurd (omega arith)
lost-some (true ∷ xs) m h = refl
lost-some (false ∷ xs) m h = ap suc (lost-some xs m (omega arith))

pub lost-all : (xs : List Bool) (m : ℕ) → length xs ≤ lost_len xs → length xs + m ≡ lost_len (xs ++ replicate m false)
lost-all [] m h = let e = lost-replicate m [] in omega (arith, e, ap lost_len (append-nil (replicate m false)))
lost-all (true ∷ xs) m h = absurd (omega arith)
lost-all (false ∷ xs) m h = let e = lost-all xs m (omega arith) in omega (arith, e)

-- a fill from the first kept token on is one of all
lost_split : (xs : List Bool) → (ys : List Bool) × (xs ≡ replicate (lost_len xs) false ++ ys)
lost_split [] = ([], refl)
lost_split (true ∷ xs) = (true ∷ xs, refl)
lost_split (false ∷ xs) = grind (arith, lost_split xs)

-- of which parts each token is kept
pub all_kept-append : (xs ys : List Bool) → are_all_kept (xs ++ ys) ≡ (are_all_kept xs && are_all_kept ys)
all_kept-append [] ys = refl
all_kept-append (true ∷ xs) ys = all_kept-append xs ys
all_kept-append (false ∷ xs) ys = refl

pub all_kept-replicate : (n : ℕ) → true ≡ are_all_kept (replicate n true)
all_kept-replicate zero = refl
all_kept-replicate (suc n) = all_kept-replicate n

-- a part whose tokens are all kept is the same after a fill
pub filled-already : (xs : List Bool) → are_all_kept xs ≡ true → xs ≡ replicate (length xs) true
filled-already [] e = refl
filled-already (true ∷ xs) e = ap (λ (ys : List Bool). true ∷ ys) (filled-already xs e)
filled-already (false ∷ xs) e = cc

-- both operands and the operator between them
pub both_kept : (front : List Bool) (n m : ℕ) → (front ++ replicate n true ++ true ∷ []) ++ replicate m true ++ [] ≡ front ++ replicate (n + suc m) true
both_kept front n m =
    append-nil ((front ++ replicate n true ++ true ∷ []) ++ replicate m true) ∙ append_assoc (front ++ replicate n true) (true ∷ []) (replicate m true)
    ∙ append_assoc front (replicate n true) (replicate (suc m) true) ∙ ap (λ (xs : List Bool). front ++ xs) (replicate-append-replicate n (suc m) true)

pub length_with_operator : (front ks : List Bool) → length (front ++ ks ++ true ∷ []) ≡ length front + (length ks + 1)
length_with_operator front ks = grind (arith, length-append)

-- the flags of an operator between others
pub with_operator : (xs front kf jf : List Bool) → xs ≡ front ++ kf ++ true ∷ jf → xs ≡ front ++ (kf ++ true ∷ []) ++ jf
with_operator xs front kf jf e = grind (arith, append_assoc)

pub to_end : (xs front ys : List Bool) → xs ≡ front ++ ys → xs ≡ front ++ ys ++ []
to_end xs front ys e = e ∙ sym (append-nil (front ++ ys))

-- what is lost before the right operand is filled from the first kept token on
pub filled_right : (old new front ks js : List Bool) (start end : ℕ) → old ≡ front ++ ks ++ true ∷ js → start ≡ length front + lost_len ks → end ≡ length front + (length ks + 1) →
    ((f m b : List Bool) → old ≡ f ++ m ++ b → start ≡ length f → end ≡ length f + length m → new ≡ f ++ replicate (length m) false ++ b) →
    new ≡ front ++ (replicate (length ks + 1) false ++ js)
filled_right old new front ks js start end e s q fill = let w = lost_split ks in
    let lost : List Bool = replicate (lost_len ks) false in
    let ys : List Bool = w.0 ++ true ∷ [] in
    let size = length-append w.0 (true ∷ []) in
    let front_size = length-append front lost in
    let lost_size = length-replicate (lost_len ks) false in
    let all = ap (λ (xs : List Bool). length xs) w.1 ∙ length-append lost w.0 ∙ ap (λ (i : ℕ). i + length w.0) lost_size in
    let parts : ks ++ true ∷ [] ≡ lost ++ ys = ap (λ (xs : List Bool). xs ++ true ∷ []) w.1 ∙ append_assoc lost w.0 (true ∷ []) in
    let split = with_operator old front ks js e ∙ ap (λ (xs : List Bool). front ++ xs ++ js) parts ∙ ap (λ (xs : List Bool). xs ++ js) (sym (append_assoc front lost ys)) in
    let sum : lost_len ks + length ys ≡ length ks + 1 = omega (arith, size, all) in
    fill (front ++ lost) ys js split (omega (arith, s, front_size, lost_size)) (omega (arith, q, size, all, front_size, lost_size))
    ∙ ap (λ (xs : List Bool). xs ++ js) (append_assoc front lost (replicate (length ys) false)
    ∙ ap (λ (xs : List Bool). front ++ xs) (replicate-append-replicate (lost_len ks) (length ys) false
    ∙ ap (λ (i : ℕ). replicate i false) sum))
    ∙ append_assoc front (replicate (length ks + 1) false) js

-- the joined operands, by which of them is removed
module _ (rules : Rules) (o : Operator) (k j : Kept) (n q : ℕ) (a b : Part) (v : Value) (m : Amount) (e : a ≡ part_of k n) (g : b ≡ part_of j q)
    (pv : v ≡ binary_value_of rules.strict false o a.value b.value) (pm : m ≡ binary_amount rules.strict true o a.number b.number) where
  value_is : v ≡ binary_value_of rules.strict false o k.value j.value
  value_is = grind arith

  number_is : m ≡ binary_amount rules.strict true o k.number j.number
  number_is = grind arith

  first_is : a.first ≡ n
  first_is = grind arith

  left_unit : {b : Bool} → is_unit o a.cond ≡ b → is_unit o k.cond ≡ b
  left_unit h = grind arith

  right_unit : {c : Bool} → is_unit o b.cond ≡ c → is_unit o j.cond ≡ c
  right_unit h = grind arith

  pub flags_right : is_unit o a.cond ≡ true → replicate (length k.flags + 1) false ++ j.flags ≡ (joined_kept rules o k j).flags
  flags_right h = grind arith

  pub flags_left : is_unit o a.cond ≡ false → is_unit o b.cond ≡ true → k.flags ++ replicate (suc (length j.flags)) false ≡ (joined_kept rules o k j).flags
  flags_left h i = grind arith

  pub join_right : q ≡ n + (length k.flags + 1) → is_unit o a.cond ≡ true →
      record { value = v; number = m; cond = b.cond; lost = true; left_alone = b.left_alone; alone = false; whole = false; first = a.first; kept = b.kept } ≡ part_of (joined_kept rules o k j) n
  join_right next h = grind (arith, part_same, flags_right, lost-replicate)

  pub join_left : (s : ℕ) → s ≡ n + lost_len (k.flags ++ replicate (suc (length j.flags)) false) → is_unit o a.cond ≡ false → is_unit o b.cond ≡ true →
      record { value = v; number = m; cond = a.cond; lost = true; left_alone = a.left_alone; alone = false; whole = false; first = a.first; kept = s } ≡ part_of (joined_kept rules o k j) n
  join_left s longer h i = grind (arith, part_same, all_kept-append, flags_left)

  pub flags_both : is_unit o a.cond ≡ false → is_unit o b.cond ≡ false → k.flags ++ true ∷ j.flags ≡ (joined_kept rules o k j).flags
  flags_both h i = grind arith

  pub join_both : (c : Cond) (w : Bool) → c ≡ settled rules.strict o a.cond b.cond → w ≡ (a.whole && b.whole) → is_unit o a.cond ≡ false → is_unit o b.cond ≡ false →
      record { value = v; number = m; cond = c; lost = false; left_alone = false; alone = false; whole = w; first = a.first; kept = a.kept } ≡ part_of (joined_kept rules o k j) n
  join_both c w p r h i = grind (arith, left_unit, right_unit, part_same, value_is, number_is, all_kept-append, flags_both, first_is, lost-kept)

-- an operator other than `&&` and `||` makes an operand of its own
pub other_binary : (rules : Rules) (o : Operator) (k j : Kept) → is_joining o ≡ false →
    binary_kept rules o k j ≡
    leaf rules (binary_value_of rules.strict false o k.value j.value)
    (binary_amount rules.strict true o k.number j.number) false (replicate (length k.flags + suc (length j.flags)) true)
other_binary rules And k j e = absurd (false≢true (sym e))
other_binary rules Or k j e = absurd (false≢true (sym e))
other_binary _ _ _ _ e = refl

pub joining_binary : (rules : Rules) (o : Operator) (k j : Kept) → is_joining o ≡ true → binary_kept rules o k j ≡ joined_kept rules o k j
joining_binary rules o k j e = grind arith

-- a prefix operator other than `!` does, too
pub other_unary : (rules : Rules) (o : Operator) (k : Kept) → is_not o ≡ false →
    unary_kept rules o k ≡ leaf rules (unary_value_of false o k.value) (unary_amount true o k.number) k.alone (replicate (suc (length k.flags)) true)
other_unary rules o k e = grind arith

-- the part of an operand of its own has its fields
pub leaf_same : (rules : Rules) (v w : Value) (m n : Amount) (a b : Bool) (f g : ℕ) (xs ys : List Bool) → v ≡ w → m ≡ n → a ≡ b → f ≡ g → are_all_kept xs ≡ are_all_kept ys →
    lost_len xs ≡ lost_len ys → part_of (leaf rules v m a xs) f ≡ part_of (leaf rules w n b ys) g
leaf_same rules v w m n a b f g xs ys p q r s t u = grind arith
