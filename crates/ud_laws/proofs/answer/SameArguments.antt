-- Arguments that give the same in other places: what is read of them doesn't depend on the place.
use Rattle.std.proofs.Common.{◌≡◌, ℕ, suc, List, [], ◌∷◌, map, Bool, if◌then◌else◌, codes, Option}
use Rattle.std.proofs.Common.{Some, None, is_some, refl, sym, ◌∙◌, ap, arith}
use Rattle.std.specs.List.{filter_map}
use Rattle.std.proofs.lemmas.List.{map-append}
use Rattle.ud_model.specs.answer.CommandLine.{ParsedArg, flag, option, operand, has_letter}
use Rattle.ud_model.specs.answer.CommandLine.{option_letters, operands_from, letters_give}
use Rattle.ud_model.specs.answer.CommandLine.{given_next, parsed_from, mode_or, parse_exit_mode}
use Rattle.ud_model.specs.answer.CommandLine.{mode_from, has_flag, argument_in, UsageFault}
use Rattle.ud_model.specs.answer.CommandLine.{parse_symbol, unless_right, argument_fault, fault_or}
use Rattle.ud_model.specs.answer.CommandLine.{first_fault, operand_in, name_or_stdin}
use Rattle.ud_model.specs.declared.settings.ExitMode.{ExitMode}

-- an argument without its place
abbrev pub placeless : ParsedArg → ParsedArg
placeless (option c n a) = option c 0 a
placeless (operand n w) = operand 0 w
placeless g = g

-- the same is given, in other places
pub record Same (gs hs : List ParsedArg) : Type 0 where
  pub alike : map placeless gs ≡ map placeless hs

operands_same : (n m : ℕ) (ws : List (List ℕ)) →
    map placeless (operands_from n ws) ≡ map placeless (operands_from m ws)
operands_same n m [] = refl
operands_same n m (w ∷ ws) = grind (arith, operands_same (suc n) (suc m) ws)

letters_same : (n m : ℕ) (ls : List ℕ) →
    (map placeless (letters_give n ls).given ≡ map placeless (letters_give m ls).given)
    × ((letters_give n ls).waits ≡ (letters_give m ls).waits)
letters_same n m [] = (refl, refl)
letters_same n m (c ∷ cs) = grind (arith, letters_same n m cs)

next_same : (o : Option ℕ) (n m : ℕ) (ws : List (List ℕ)) →
    map placeless (given_next o n ws) ≡ map placeless (given_next o m ws)
next_same (Some c) n m (w ∷ ws) = grind (arith, next_same None (suc n) (suc m) ws)
next_same None n m (w ∷ ws) =
    let k = next_same (letters_give (suc n) (option_letters w)).waits (suc n) (suc m) ws in
    grind (arith, letters_same, operands_same, map-append, k)
next_same o n m ws = grind arith

pub given_same : (n m : ℕ) (ws : List (List ℕ)) → Same (parsed_from n ws) (parsed_from m ws)
given_same n m ws = record { alike = next_same None n m ws }

-- what is read of arguments is read of them without their places
flag_placeless : (ls : List ℕ) (gs : List ParsedArg) →
    has_flag ls (map placeless gs) ≡ has_flag ls gs
flag_placeless ls [] = refl
flag_placeless ls (g ∷ gs) = grind (arith, flag_placeless ls gs)

mode_placeless : (e : ExitMode) (gs : List ParsedArg) →
    mode_from e (map placeless gs) ≡ mode_from e gs
mode_placeless e [] = refl
mode_placeless e (option c n a ∷ gs) =
    mode_placeless (if has_letter (codes "x") c then mode_or e (parse_exit_mode a) else e) gs
mode_placeless e (g ∷ gs) = mode_placeless e gs

table_placeless : (gs : List ParsedArg) →
    filter_map argument_in (map placeless gs) ≡ filter_map argument_in gs
table_placeless [] = refl
table_placeless (g ∷ gs) = grind (arith, table_placeless gs)

either_fault : (x y v w : Option UsageFault) → is_some x ≡ is_some v → is_some y ≡ is_some w →
    is_some (fault_or x y) ≡ is_some (fault_or v w)
either_fault x y v w e f = grind arith

either_right : {A B : Type 0} (b : Bool) (o : Option A) (p : Option B) (f g h k : UsageFault) →
    is_some (if b then unless_right o f else unless_right p g)
    ≡ is_some (if b then unless_right o h else unless_right p k)
either_right b o p f g h k = grind arith

fault_placeless : (gs : List ParsedArg) →
    is_some (first_fault (map placeless gs)) ≡ is_some (first_fault gs)
fault_placeless (option c n a ∷ gs) =
    either_fault _ (first_fault (map placeless gs)) (argument_fault c n a) _
    (either_right (has_letter (codes "x") c) (parse_exit_mode a) (parse_symbol c a) _ _ _ _)
    (fault_placeless gs)
fault_placeless (flag c ∷ gs) = fault_placeless gs
fault_placeless gs = grind arith

name_placeless : (gs : List ParsedArg) →
    name_or_stdin (operand_in (map placeless gs)) ≡ name_or_stdin (operand_in gs)
name_placeless [] = refl
name_placeless (g ∷ gs) = grind (arith, name_placeless gs)

-- so it is the same in other places
same_read : {A : Type 0} (f : List ParsedArg → A) →
    ((gs : List ParsedArg) → f (map placeless gs) ≡ f gs) → {gs hs : List ParsedArg} → Same gs hs →
    f gs ≡ f hs
same_read f p {gs} {hs} k = sym (p gs) ∙ ap f k.alike ∙ p hs

pub flag_same : (ls : List ℕ) {gs hs : List ParsedArg} → Same gs hs → has_flag ls gs ≡ has_flag ls hs
flag_same ls k = same_read (has_flag ls) (flag_placeless ls) k

pub mode_same : (e : ExitMode) {gs hs : List ParsedArg} → Same gs hs → mode_from e gs ≡ mode_from e hs
mode_same e k = same_read (mode_from e) (mode_placeless e) k

pub table_same : {gs hs : List ParsedArg} → Same gs hs → filter_map argument_in gs ≡ filter_map argument_in hs
table_same k = same_read (filter_map argument_in) table_placeless k

-- arguments without a fault have none in other places
pub no_fault_same : {gs hs : List ParsedArg} → Same gs hs → first_fault gs ≡ None → first_fault hs ≡ None
no_fault_same k e =
    grind (arith, same_read (λ (xs : List ParsedArg). is_some (first_fault xs)) fault_placeless k)

-- messages call the input by the same name
pub name_same : {gs hs : List ParsedArg} → Same gs hs → name_or_stdin (operand_in gs) ≡ name_or_stdin (operand_in hs)
name_same k = same_read (λ (xs : List ParsedArg). name_or_stdin (operand_in xs)) name_placeless k
