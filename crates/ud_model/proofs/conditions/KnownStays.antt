-- Known stays: a known value of an expression is its C value, whatever the open names are.
--
-- The proof goes by the way in which the C value comes about. A known operand has C's number, so an
-- operator on two known operands is one on numbers (KnownNumbers). A value with an unknown operand
-- is known only if the other one decides `&&` or `||`. C then gives the same value, whichever
-- operand decides it there.
use Rattle.std.proofs.Common.{◌≡◌, ℕ, Bool, true, false, not, ◌&&◌, ◌||◌, List, Option, Some, None, refl, sym, ◌∙◌, ap, arith, ℤ, pos, nat_lt, ◌≢◌, ◌^◌, ◌<◌, if◌then◌else◌, subst, ◌<ℤ◌, ◌≤ℤ◌, int_lt, int_le, Decides, FitsSigned}
use Rattle.std.proofs.lemmas.Option.{none-some, same_Some}
use Rattle.std.proofs.lemmas.Bool.{false≢true, or_left, or_right}
use Rattle.ud_model.specs.conditions.Table.{Argument}
use Rattle.ud_model.specs.conditions.Constants.{has_u, constant_number}
use Rattle.ud_model.specs.conditions.Expressions.{Expression}
use Rattle.ud_model.specs.conditions.Values.{fits, truth, is_zero, apply_binary_known, short_circuits, apply_binary, apply_unary, amount_from, is_same_from, counted, mirrored, unary_amount, binary_amount, limited, constant_value, name_value, name_has_u, defined_value, number_of, has_unsigned, value_of, fit, equal_numbers, apply_unary_known}
use Rattle.ud_model.specs.laws.CValues.{Number, signed, number, IsTruth, IsZero, Gives, GivesUnary, IsConstantValue, plain, by_suffix, by_size, CValue, of_constant, of_known_name, of_least_name, of_open_name, of_known_defined, of_open_defined, of_unary, of_binary, of_and_left, of_and_both, of_or_left, of_or_both, of_parens, typed, IsCValue, unsigned, GivesSigned, GivesUnsigned}
use Rattle.ud_model.specs.declared.amount.Amount.{Amount}
use Rattle.ud_model.specs.declared.amount.Amount.TheVariants.{Anything, Exactly, AtLeast}
use Rattle.ud_model.specs.declared.operator.Operator.{Operator}
use Rattle.ud_model.specs.declared.operator.Operator.TheVariants.{Or, And, BitOr, BitXor, BitAnd, Equal, NotEqual, Less, LessEqual, Greater, GreaterEqual, Plus, Minus, Times, Over, Remainder}
use Rattle.std.specs.Int.{cast_unsigned}
use mir.Syntax.{w64}

-- If whole numbers give a result in range, C's operators give the same number. Between two numbers
-- of intmax_t this is how C defines its results. Beside one of uintmax_t no known number is below 0
-- or above 2^63-1, and modulo 2^64 such a result is itself. That is what the least number is for.

-- A C value agrees with a known one: it is the same number, in range, and of uintmax_t only beside
-- a `u`.
abbrev pub Agrees : Bool → ℤ → Number → Type 0
Agrees u n (signed z) = (z ≡ n) × (fits u n ≡ true)
Agrees u n (unsigned k) = (pos k ≡ n) × (fits u n ≡ true) × (u ≡ true)

-- It is the same number.
pub agrees_number : (u : Bool) (n : ℤ) (c : Number) → Agrees u n c → number c ≡ n
agrees_number u n c a = grind arith

-- A result in range is known as it is.
pub fit_is : (u : Bool) (z n : ℤ) → fit u z ≡ Some n → (z ≡ n) × (fits u n ≡ true)
fit_is u z n e = grind arith

as_signed : (u : Bool) (n : ℤ) (c : Number) (z : ℤ) → c ≡ signed z → (z ≡ n) × (fits u n ≡ true) → Agrees u n c
as_signed u n c z e p = subst (λ x. Agrees u n x) (sym e) p

-- A test that decides a fact gives the truth of the fact.
pub truth_agrees : (Holds : Type 0) (u b : Bool) (n : ℤ) (c : Number) → Decides b Holds → Some (truth b) ≡ Some n → IsTruth Holds c → Agrees u n c
truth_agrees Holds u b n c d e h = grind arith

-- The test for less decides.
pub less_decides : (a b : ℤ) → Decides (int_lt a b) (a <ℤ b)
less_decides a b = grind (arith, int_lt)

-- The test for at most decides.
pub at_most_decides : (a b : ℤ) → Decides (int_le a b) (a ≤ℤ b)
at_most_decides a b = grind (arith, int_le)

-- A negated test decides that the fact isn't true.
pub not_decides : {P : Type 0} (b : Bool) → Decides b P → Decides (not b) (P → ⊥)
not_decides h d = grind arith

-- The test for equal numbers decides.
pub same_decides : (a b : ℤ) → Decides (equal_numbers a b) (a ≡ b)
same_decides a b = grind arith

divided : (b : Bool) (o : Option ℤ) (n : ℤ) → (if b then None else o) ≡ Some n → o ≡ Some n
divided b o n e = grind arith

-- The case of two known operands of intmax_t.
pub signed_agrees : (u : Bool) (o : Operator) (a b n : ℤ) (c : Number) → apply_binary_known u o a b ≡ Some n → GivesSigned o a b c → Agrees u n c
unfolding apply_binary_known
signed_agrees u BitOr a b n c e g = as_signed u n c _ g (fit_is u _ n e)
signed_agrees u BitXor a b n c e g = as_signed u n c _ g (fit_is u _ n e)
signed_agrees u BitAnd a b n c e g = as_signed u n c _ g (fit_is u _ n e)
signed_agrees u Equal a b n c e g = truth_agrees (a ≡ b) u (equal_numbers a b) n c (same_decides a b) e g
signed_agrees u NotEqual a b n c e g = truth_agrees (a ≢ b) u (not (equal_numbers a b)) n c (not_decides (equal_numbers a b) (same_decides a b)) e g
signed_agrees u Less a b n c e g = truth_agrees (a <ℤ b) u (int_lt a b) n c (less_decides a b) e g
signed_agrees u LessEqual a b n c e g = truth_agrees (a ≤ℤ b) u (int_le a b) n c (at_most_decides a b) e g
signed_agrees u Greater a b n c e g = truth_agrees (b <ℤ a) u (int_lt b a) n c (less_decides b a) e g
signed_agrees u GreaterEqual a b n c e g = truth_agrees (b ≤ℤ a) u (int_le b a) n c (at_most_decides b a) e g
signed_agrees u Plus a b n c e g = as_signed u n c _ g.1 (fit_is u _ n e)
signed_agrees u Minus a b n c e g = as_signed u n c _ g.1 (fit_is u _ n e)
signed_agrees u Times a b n c e g = as_signed u n c _ g.1 (fit_is u _ n e)
signed_agrees u Over a b n c e g = as_signed u n c _ g.1.1 (fit_is u _ n (divided (is_zero b) _ n e))
signed_agrees u Remainder a b n c e g = as_signed u n c _ g.2 (fit_is u _ n (grind (arith, divided (is_zero b) _ n e)))
signed_agrees _ _ _ _ n _ _ g = absurd g

-- The case of two known operands, one of them of uintmax_t.
pub unsigned_agrees : (o : Operator) (a b : ℕ) (n : ℤ) (c : Number) → a < 2 ^ 63 → b < 2 ^ 63 → apply_binary_known true o (pos a) (pos b) ≡ Some n → GivesUnsigned o a b c →
    Agrees true n c
unfolding apply_binary_known
unsigned_agrees o a b n c k l e g = grind arith

gives_by : (u : Bool) (o : Operator) (a b n : ℤ) (c : Number) (j k : ℕ) → u ≡ true → fits u a ≡ true → fits u b ≡ true → j ≡ cast_unsigned w64 a → k ≡ cast_unsigned w64 b →
    apply_binary_known u o a b ≡ Some n → GivesUnsigned o j k c → Agrees u n c
gives_by u o a b n c j k t f g p q e h = grind (arith, unsigned_agrees)

-- The result of C's operator between two operands agrees with the known one.
pub gives_agrees : (u : Bool) (o : Operator) (a b n : ℤ) (x y c : Number) → Agrees u a x → Agrees u b y → apply_binary_known u o a b ≡ Some n → Gives o x y c → Agrees u n c
gives_agrees u o a b n (signed s) (signed t) c p q e g = signed_agrees u o a b n c e (rw (p.0, q.0) at g)
gives_agrees u o a b n (signed s) (unsigned t) c p q e g =
    gives_by u o a b n c _ t q.2 p.1 q.1 (ap (cast_unsigned w64) p.0) (ap (cast_unsigned w64) q.0) e g
gives_agrees u o a b n (unsigned s) (signed t) c p q e g =
    gives_by u o a b n c s _ p.2 p.1 q.1 (ap (cast_unsigned w64) p.0) (ap (cast_unsigned w64) q.0) e g
gives_agrees u o a b n (unsigned s) (unsigned t) c p q e g =
    gives_by u o a b n c s t p.2 p.1 q.1 (ap (cast_unsigned w64) p.0) (ap (cast_unsigned w64) q.0) e g

-- A known number is 0 exactly if C's is.
pub zero_agrees : (u : Bool) (a : ℤ) (x : Number) → Agrees u a x → Decides (is_zero a) (number x ≡ pos 0)
zero_agrees u a x p = grind (arith, agrees_number)

-- The result of C's operator before an operand agrees with the known one.
pub changes_agrees : (u : Bool) (o : Operator) (a n : ℤ) (x c : Number) → Agrees u a x → apply_unary_known u o a ≡ Some n → GivesUnary o x c → Agrees u n c
unfolding apply_unary_known
changes_agrees u o a n x c p e g = grind arith

-- A known number agrees with this C value.
abbrev pub Knows : Bool → Option ℤ → Number → Type 0
Knows u o x = (n : ℤ) → o ≡ Some n → Agrees u n x

-- A known constant is in range.
limited_is : (u : Bool) (k : ℕ) (n : ℤ) → limited k ≡ Some n → (pos k ≡ n) × (fits u n ≡ true)
limited_is u k n e = grind (arith, nat_lt)

constant_known : (u : Bool) (w : List ℕ) (c : Number) → IsConstantValue w c → (has_u w ≡ true → u ≡ true) → Knows u (constant_value w) c
constant_known u w c (plain h l) v n e = limited_is u (constant_number w) n e
constant_known u w c (by_suffix h l) v n e = let p : (pos (constant_number w) ≡ n) × (fits u n ≡ true) = limited_is u (constant_number w) n e in (p.0, p.1, v h)
constant_known u w c (by_size h d l m) v n e = grind arith

-- The amount agrees with this C value.
abbrev pub Fits : Bool → Amount → Number → Type 0
Fits u Anything x = Unit {0}
Fits u (Exactly n) x = Agrees u n x
Fits u (AtLeast n) x = (n ≤ℤ number x) × Agrees u (number x) x

knows_fits : (u : Bool) (o : Option ℤ) (x : Number) → Knows u o x → Fits u (amount_from false o) x
knows_fits u None x h = tt
knows_fits u (Some z) x h = h z refl

-- The known value of a name is in range.
name_fits : (table : List Argument) (u : Bool) (name : List ℕ) (n : ℤ) → name_value table u name ≡ Exactly n → fits u n ≡ true
unfolding name_value
name_fits table u name n e = grind (arith, e)

least_fits : (table : List Argument) (u : Bool) (name : List ℕ) (n : ℤ) → name_value table u name ≡ AtLeast n → fits u n ≡ true
unfolding name_value
least_fits table u name n e = grind (arith, e)

known_agrees : (u b : Bool) (n : ℤ) → fits u n ≡ true → (b ≡ true → u ≡ true) → Agrees u n (typed b n)
known_agrees u b n f v = grind arith

more_fits : (u : Bool) (n k : ℤ) → fits u n ≡ true → n ≤ℤ k → FitsSigned w64 k → fits u k ≡ true
more_fits u n k f l r = grind arith

least_agrees : (u b : Bool) (n k : ℤ) → fits u n ≡ true → (b ≡ true → u ≡ true) → n ≤ℤ k → FitsSigned w64 k → Fits u (AtLeast n) (typed b k)
least_agrees u b n k f v l r =
    let a : Agrees u k (typed b k) = known_agrees u b k (more_fits u n k f l r) v in
    let e : number (typed b k) ≡ k = agrees_number u k (typed b k) a in
    (subst (λ z. n ≤ℤ z) (sym e) l, subst (λ z. Agrees u z (typed b k)) (sym e) a)

-- A number that an operand may be, if only its least one is known.
abbrev pub From : Amount → ℤ → Type 0
From (AtLeast n) k = n ≤ℤ k
From _ k = Unit {0}

fits_from : (u : Bool) (a : Amount) (x : Number) → Fits u a x → From a (number x)
fits_from u Anything x f = tt
fits_from u (Exactly n) x f = tt
fits_from u (AtLeast n) x f = f.0

-- The number that counts for an operand that is this number if only its least one is known.
abbrev pub numbered : Operator → Amount → Amount → ℤ → Option ℤ
numbered o Anything b k = None
numbered o (Exactly z) b k = Some z
numbered o (AtLeast n) b k = if is_same_from o n b then Some k else None

numbered_known : (u : Bool) (o : Operator) (a b : Amount) (x : Number) → Fits u a x → Knows u (numbered o a b (number x)) x
numbered_known u o Anything b x f n e = absurd (none-some n e)
numbered_known u o (Exactly z) b x f n e = grind arith
numbered_known u o (AtLeast z) b x f n e = grind arith

-- The number of a known operand is this one.
abbrev pub Shows : Amount → Option ℤ → Type 0
Shows b w = (q : ℤ) → b ≡ Exactly q → w ≡ Some q

left_same : (u : Bool) (o : Operator) (n k q : ℤ) → is_same_from o n (Exactly q) ≡ true → n ≤ℤ k → apply_binary_known u o n q ≡ apply_binary_known u o k q
unfolding apply_binary_known
left_same u o n k q s l = grind (arith, int_lt, int_le)

right_same : (u : Bool) (o : Operator) (n k q : ℤ) → is_same_from (mirrored o) n (Exactly q) ≡ true → n ≤ℤ k → apply_binary_known u o q n ≡ apply_binary_known u o q k
unfolding apply_binary_known
right_same u o n k q s l = grind (arith, int_lt, int_le)

defined_known : (table : List Argument) (u : Bool) (name : List ℕ) (z n : ℤ) → defined_value table name ≡ Some z → defined_value table name ≡ Some n → Agrees u n (signed z)
unfolding defined_value
defined_known table u name z n d e = (same_Some z n (sym d ∙ e), grind (arith, e))

unary_known : (u : Bool) (o : Operator) (v : Option ℤ) (x c : Number) → Knows u v x → GivesUnary o x c → Knows u (apply_unary u o v) c
unary_known u o None x c f g n e = absurd (none-some n e)
unary_known u o (Some a) x c f g n e = changes_agrees u o a n x c (f a refl) e g

undecided : (strict : Bool) (o : Operator) (x y c : Number) (a n : ℤ) → Gives o x y c → short_circuits strict o a ≡ Some n → ⊥
undecided strict o x y c a n g e = grind arith

binary_known : (strict u : Bool) (o : Operator) (v w : Option ℤ) (x y c : Number) → Knows u v x → Knows u w y → Gives o x y c → Knows u (apply_binary strict u o v w) c
binary_known strict u o (Some a) (Some b) x y c f g h n e = gives_agrees u o a b n x y c (f a refl) (g b refl) e h
binary_known strict u o (Some a) None x y c f g h n e = absurd (undecided strict o x y c a n h e)
binary_known strict u o None (Some b) x y c f g h n e = absurd (undecided strict o x y c b n h e)
binary_known strict u o None None x y c f g h n e = absurd (none-some n e)

is_nought : (u : Bool) (n : ℤ) → pos 0 ≡ n → Agrees u n (signed (pos 0))
is_nought u n e = (e, ap (fits u) (sym e))

is_one : (u : Bool) (n : ℤ) → pos 1 ≡ n → Agrees u n (signed (pos 1))
is_one u n e = (e, ap (fits u) (sym e))

-- If one operand decides `&&`, it is 0 and so is the value.
and_by : (strict : Bool) (a n : ℤ) → short_circuits strict And a ≡ Some n → (is_zero a ≡ true) × (pos 0 ≡ n)
and_by strict a n e = grind arith

-- If one operand decides `||`, it isn't 0, and the value is 1.
or_by : (strict : Bool) (a n : ℤ) → short_circuits strict Or a ≡ Some n → (is_zero a ≡ false) × (pos 1 ≡ n)
or_by strict a n e = grind arith

no_zero : (u : Bool) (a : ℤ) (x : Number) → Agrees u a x → (IsZero x → ⊥) → is_zero a ≡ false
no_zero u a x p h = grind arith

and_left_known : (strict u : Bool) (v w : Option ℤ) (x : Number) → Knows u v x → IsZero x → Knows u (apply_binary strict u And v w) (signed (pos 0))
unfolding apply_binary_known
and_left_known strict u (Some a) (Some b) x f z n e =
    let q : is_zero a ≡ true = (zero_agrees u a x (f a refl)).1 z in
    is_nought u n (same_Some (pos 0) n (sym (ap (λ (t : Bool). Some (truth (not t && not (is_zero b)))) q) ∙ e))
and_left_known strict u (Some a) None x f z n e = is_nought u n (and_by strict a n e).1
and_left_known strict u None (Some b) x f z n e = is_nought u n (and_by strict b n e).1
and_left_known strict u None None x f z n e = absurd (none-some n e)

or_left_known : (strict u : Bool) (v w : Option ℤ) (x : Number) → Knows u v x → (IsZero x → ⊥) → Knows u (apply_binary strict u Or v w) (signed (pos 1))
unfolding apply_binary_known
or_left_known strict u (Some a) (Some b) x f z n e =
    let q : is_zero a ≡ false = no_zero u a x (f a refl) z in
    is_one u n (same_Some (pos 1) n (sym (ap (λ (t : Bool). Some (truth (not t || not (is_zero b)))) q) ∙ e))
or_left_known strict u (Some a) None x f z n e = is_one u n (or_by strict a n e).1
or_left_known strict u None (Some b) x f z n e = is_one u n (or_by strict b n e).1
or_left_known strict u None None x f z n e = absurd (none-some n e)

-- The truth of an operand that isn't 0, if there is one, is 1.
false_truth : (Holds : Type 0) (u : Bool) (n : ℤ) (c : Number) → IsTruth Holds c → (Holds → ⊥) → pos 0 ≡ n → Agrees u n c
false_truth Holds u n c h g e = grind arith

true_truth : (Holds : Type 0) (u : Bool) (n : ℤ) (c : Number) → IsTruth Holds c → Holds → pos 1 ≡ n → Agrees u n c
true_truth Holds u n c h g e = grind arith

and_both_known : (strict u : Bool) (v w : Option ℤ) (x y c : Number) → Knows u v x → Knows u w y → (IsZero x → ⊥) → IsTruth (IsZero y → ⊥) c → Knows u (apply_binary strict u And v w) c
unfolding apply_binary_known
and_both_known strict u (Some a) (Some b) x y c f g z t n e =
    let q : is_zero a ≡ false = no_zero u a x (f a refl) z in
    truth_agrees (IsZero y → ⊥) u (not (is_zero b)) n c (not_decides (is_zero b) (zero_agrees u b y (g b refl)))
    (sym (ap (λ (t : Bool). Some (truth (not t && not (is_zero b)))) q) ∙ e) t
and_both_known strict u (Some a) None x y c f g z t n e = absurd (false≢true (sym (no_zero u a x (f a refl) z) ∙ (and_by strict a n e).0))
and_both_known strict u None (Some b) x y c f g z t n e =
    let p : (is_zero b ≡ true) × (pos 0 ≡ n) = and_by strict b n e in
    false_truth (IsZero y → ⊥) u n c t (λ h. h ((zero_agrees u b y (g b refl)).0 p.0)) p.1
and_both_known strict u None None x y c f g z t n e = absurd (none-some n e)

or_both_known : (strict u : Bool) (v w : Option ℤ) (x y c : Number) → Knows u v x → Knows u w y → IsZero x → IsTruth (IsZero y → ⊥) c → Knows u (apply_binary strict u Or v w) c
unfolding apply_binary_known
or_both_known strict u (Some a) (Some b) x y c f g z t n e =
    let q : is_zero a ≡ true = (zero_agrees u a x (f a refl)).1 z in
    truth_agrees (IsZero y → ⊥) u (not (is_zero b)) n c (not_decides (is_zero b) (zero_agrees u b y (g b refl)))
    (sym (ap (λ (t : Bool). Some (truth (not t || not (is_zero b)))) q) ∙ e) t
or_both_known strict u (Some a) None x y c f g z t n e = absurd (false≢true (sym (or_by strict a n e).0 ∙ (zero_agrees u a x (f a refl)).1 z))
or_both_known strict u None (Some b) x y c f g z t n e =
    let p : (is_zero b ≡ false) × (pos 1 ≡ n) = or_by strict b n e in
    true_truth (IsZero y → ⊥) u n c t (λ h. false≢true (sym p.0 ∙ (zero_agrees u b y (g b refl)).1 h)) p.1
or_both_known strict u None None x y c f g z t n e = absurd (none-some n e)

short_same : (strict : Bool) (o : Operator) (n k : ℤ) (b : Amount) → is_same_from o n b ≡ true → Shows b None → n ≤ℤ k → short_circuits strict o n ≡ short_circuits strict o k
short_same strict o n k b s h l = grind (arith, int_lt)

-- If the least number counts, each greater one gives the same.
left_greater : (strict u : Bool) (o : Operator) (n k : ℤ) (b : Amount) (w : Option ℤ) → is_same_from o n b ≡ true → Shows b w → n ≤ℤ k →
    apply_binary strict u o (Some n) w ≡ apply_binary strict u o (Some k) w
left_greater strict u o n k b None s h l = short_same strict o n k b s h l
left_greater strict u o n k b (Some q) s h l = left_same u o n k q (shown o n b q s h) l
  where
    shown : (o : Operator) (n : ℤ) (b : Amount) (q : ℤ) → is_same_from o n b ≡ true → Shows b (Some q) → is_same_from o n (Exactly q) ≡ true
    shown o n b q s h = grind arith

right_greater : (strict u : Bool) (o : Operator) (n k : ℤ) (b : Amount) (w : Option ℤ) → is_same_from (mirrored o) n b ≡ true → Shows b w → n ≤ℤ k →
    apply_binary strict u o w (Some n) ≡ apply_binary strict u o w (Some k)
right_greater strict u o n k b None s h l = grind (arith, int_lt)
right_greater strict u o n k b (Some q) s h l = right_same u o n k q (grind arith) l

pub left_numbered : (strict u : Bool) (o : Operator) (a b : Amount) (k : ℤ) (w : Option ℤ) → From a k → Shows b w →
    apply_binary strict u o (counted o a b) w ≡ apply_binary strict u o (numbered o a b k) w
left_numbered strict u o Anything b k w f h = refl
left_numbered strict u o (Exactly z) b k w f h = refl
left_numbered strict u o (AtLeast n) b k w f h = by (is_same_from o n b) refl
  where
    by : (s : Bool) → is_same_from o n b ≡ s → apply_binary strict u o (if s then Some n else None) w ≡ apply_binary strict u o (if s then Some k else None) w
    by true e = left_greater strict u o n k b w e h f
    by false e = refl

pub right_numbered : (strict u : Bool) (o : Operator) (a b : Amount) (k : ℤ) (w : Option ℤ) → From a k → Shows b w →
    apply_binary strict u o w (counted (mirrored o) a b) ≡ apply_binary strict u o w (numbered (mirrored o) a b k)
right_numbered strict u o Anything b k w f h = refl
right_numbered strict u o (Exactly z) b k w f h = refl
right_numbered strict u o (AtLeast n) b k w f h = by (is_same_from (mirrored o) n b) refl
  where
    by : (s : Bool) → is_same_from (mirrored o) n b ≡ s → apply_binary strict u o w (if s then Some n else None) ≡ apply_binary strict u o w (if s then Some k else None)
    by true e = right_greater strict u o n k b w e h f
    by false e = refl

pub counted_shows : (o : Operator) (a b : Amount) → Shows a (counted o a b)
counted_shows o a b q e = grind arith

pub numbered_shows : (o : Operator) (a b : Amount) (k : ℤ) → Shows a (numbered o a b k)
numbered_shows o a b k q e = grind arith

pub unary_numbered : (u : Bool) (o : Operator) (a : Amount) (k : ℤ) → From a k → apply_unary u o (counted o a Anything) ≡ apply_unary u o (numbered o a Anything k)
unfolding apply_unary_known
unary_numbered u o a k f = grind (arith, int_lt)

unary_fits : (u : Bool) (o : Operator) (a : Amount) (x c : Number) → Fits u a x → GivesUnary o x c → Fits u (unary_amount u o a) c
unary_fits u o a x c f g = knows_fits u (apply_unary u o (counted o a Anything)) c
    (subst (λ r. Knows u r c) (sym (unary_numbered u o a (number x) (fits_from u a x f))) (unary_known u o (numbered o a Anything (number x)) x c (numbered_known u o a Anything x f) g))

-- The left operand alone has a C value.
left_fits : (strict u : Bool) (o : Operator) (a b : Amount) (x c : Number) → Fits u a x →
    ((v w : Option ℤ) → Knows u v x → Knows u (apply_binary strict u o v w) c) → Fits u (binary_amount strict u o a b) c
left_fits strict u o a b x c f h = let w : Option ℤ = counted (mirrored o) b a in
    knows_fits u (apply_binary strict u o (counted o a b) w) c
    (subst (λ r. Knows u r c) (sym (left_numbered strict u o a b (number x) w (fits_from u a x f) (counted_shows (mirrored o) b a)))
    (h (numbered o a b (number x)) w (numbered_known u o a b x f)))

-- Both operands have C values.
both_fit : (strict u : Bool) (o : Operator) (a b : Amount) (x y c : Number) → Fits u a x → Fits u b y →
    ((v w : Option ℤ) → Knows u v x → Knows u w y → Knows u (apply_binary strict u o v w) c) → Fits u (binary_amount strict u o a b) c
both_fit strict u o a b x y c f g h =
    let v : Option ℤ = numbered o a b (number x) in
    let w : Option ℤ = numbered (mirrored o) b a (number y) in
    knows_fits u (apply_binary strict u o (counted o a b) (counted (mirrored o) b a)) c
    (subst (λ r. Knows u r c)
    (sym (left_numbered strict u o a b (number x) (counted (mirrored o) b a) (fits_from u a x f) (counted_shows (mirrored o) b a)
    ∙ right_numbered strict u o b a (number y) v (fits_from u b y g) (numbered_shows o a b (number x))))
    (h v w (numbered_known u o a b x f) (numbered_known u (mirrored o) b a y g)))

module _ (table : List Argument) (strict u : Bool) where
  -- The amount of a tree agrees with each C value that it may have.
  pub known : {e : Expression} {c : Number} → CValue table u e c → (has_unsigned table e ≡ true → u ≡ true) → Fits u (number_of table strict u e) c
  known (of_constant {w = w} {c = c} p) v = knows_fits u (constant_value w) c (constant_known u w c p v)
  known (of_known_name {n = name} {z = z} p) v = subst (λ a. Fits u a (typed (name_has_u table name) z)) (sym p) (known_agrees u (name_has_u table name) z (name_fits table u name z p) v)
  known (of_least_name {n = name} {z = z} {k = k} p l r) v = subst (λ a. Fits u a (typed (name_has_u table name) k)) (sym p) (least_agrees u (name_has_u table name) z k (least_fits table u name z p) v l r)
  known (of_open_name {c = c} p r) v = subst (λ a. Fits u a c) (sym p) tt
  known (of_known_defined {n = name} {z = z} p) v = knows_fits u (defined_value table name) (signed z) (λ n e. defined_known table u name z n p e)
  known (of_open_defined {n = name} {c = c} p r) v = knows_fits u (defined_value table name) c (λ n e. absurd (none-some n (sym p ∙ e)))
  known (of_unary {o = o} {a = a} {x = x} {c = c} d g) v = unary_fits u o (number_of table strict u a) x c (known d v) g
  known (of_binary {o = o} {a = a} {b = b} {x = x} {y = y} {c = c} d f g) v =
      both_fit strict u o (number_of table strict u a) (number_of table strict u b) x y c
      (known d (λ e. v (or_left (has_unsigned table a) (has_unsigned table b) e))) (known f (λ e. v (or_right (has_unsigned table a) (has_unsigned table b) e)))
      (λ i j k l. binary_known strict u o i j x y c k l g)
  known (of_and_left {a = a} {b = b} {x = x} d z) v =
      left_fits strict u And (number_of table strict u a) (number_of table strict u b) x (signed (pos 0)) (known d (λ e. v (or_left (has_unsigned table a) (has_unsigned table b) e)))
      (λ i j k. and_left_known strict u i j x k z)
  known (of_and_both {a = a} {b = b} {x = x} {y = y} {c = c} d z f t) v =
      both_fit strict u And (number_of table strict u a) (number_of table strict u b) x y c
      (known d (λ e. v (or_left (has_unsigned table a) (has_unsigned table b) e))) (known f (λ e. v (or_right (has_unsigned table a) (has_unsigned table b) e)))
      (λ i j k l. and_both_known strict u i j x y c k l z t)
  known (of_or_left {a = a} {b = b} {x = x} d z) v =
      left_fits strict u Or (number_of table strict u a) (number_of table strict u b) x (signed (pos 1)) (known d (λ e. v (or_left (has_unsigned table a) (has_unsigned table b) e)))
      (λ i j k. or_left_known strict u i j x k z)
  known (of_or_both {a = a} {b = b} {x = x} {y = y} {c = c} d z f t) v =
      both_fit strict u Or (number_of table strict u a) (number_of table strict u b) x y c
      (known d (λ e. v (or_left (has_unsigned table a) (has_unsigned table b) e))) (known f (λ e. v (or_right (has_unsigned table a) (has_unsigned table b) e)))
      (λ i j k l. or_both_known strict u i j x y c k l z t)
  known (of_parens d) v = known d v

  known_as : (e : Expression) (a : Amount) (c : Number) → number_of table strict u e ≡ a → CValue table u e c → (has_unsigned table e ≡ true → u ≡ true) → Fits u a c
  known_as e a c p d v = subst (λ b. Fits u b c) p (known d v)

module _ (table : List Argument) (strict : Bool) (e : Expression) (n : ℤ) (c : Number) where
  -- A known value is the C value, whatever the open names are.
  pub known_stays : value_of table strict e ≡ Exactly n → IsCValue table e c → number c ≡ n
  known_stays p d = agrees_number (has_unsigned table e) n c (known_as table strict (has_unsigned table e) e (Exactly n) c p d (λ h. h))

  -- The C value is the least value or a greater one.
  pub least_stays : value_of table strict e ≡ AtLeast n → IsCValue table e c → n ≤ℤ number c
  least_stays p d = (known_as table strict (has_unsigned table e) e (AtLeast n) c p d (λ h. h)).0

-- The value of a whole expression agrees with its C value.
pub value_fits : (table : List Argument) (strict : Bool) (e : Expression) (c : Number) → IsCValue table e c → Fits (has_unsigned table e) (value_of table strict e) c
value_fits table strict e c d = known table strict (has_unsigned table e) d (λ h. h)
