-- Options and operands with more after them: faults, settings, symbols and the operand.
use Rattle.std.proofs.Common.{◌≡◌, ap, refl, ℕ, List, [], ◌∷◌, ◌++◌, Bool, true, false, ◌||◌, Option, Some, None, is_some, codes, if◌then◌else◌, arith}
use Rattle.ud_model.specs.declared.settings.Listing.TheVariants.{Depths}
use Rattle.ud_model.specs.declared.settings.ExitMode.{ExitMode}
use Rattle.ud_model.specs.declared.settings.ExitMode.TheVariants.{Zero}
use Rattle.ud_model.specs.answer.CommandLine.{ParsedArg, flag, option, operand, unknown, lacking, too_many_files, has_letter, first_fault, argument_fault, has_flag, listing_by, mode_from, mode_or, parse_exit_mode, settings_in, operand_in, Operand}
use Rattle.ud_args.specs.ParsedSettings.{with_flag, with_names}
use Rattle.ud_model.proofs.answer.WordLemmas.{both_none}

-- after options without a fault and an operand, the first fault is that of the rest
pub first_fault-append : (gs more : List ParsedArg) → first_fault gs ≡ None → operand_in gs ≡ None → first_fault (gs ++ more) ≡ first_fault more
first_fault-append [] more h k = refl
first_fault-append (flag c ∷ gs) more h k = first_fault-append gs more h k
first_fault-append (option c n a ∷ gs) more h k =
    let both = both_none (argument_fault c n a) (first_fault gs) h in
    rw (both.0) (first_fault-append gs more both.1 k)
first_fault-append (operand n w ∷ gs) more h k = cc
first_fault-append (unknown c ∷ gs) more h k = cc
first_fault-append (lacking c ∷ gs) more h k = cc

-- after an operand, anything is one too many
pub first_fault-after_operand : (gs more : List ParsedArg) (g : ParsedArg) → first_fault gs ≡ None → is_some (operand_in gs) ≡ true
    → first_fault (gs ++ g ∷ more) ≡ Some too_many_files
first_fault-after_operand [] more g h k = cc
first_fault-after_operand (flag c ∷ gs) more g h k = first_fault-after_operand gs more g h k
first_fault-after_operand (option c n a ∷ gs) more g h k =
    let both = both_none (argument_fault c n a) (first_fault gs) h in
    rw (both.0) (first_fault-after_operand gs more g both.1 k)
first_fault-after_operand (operand n w ∷ []) more g h k = refl
first_fault-after_operand (operand n w ∷ (f ∷ gs)) more g h k = cc
first_fault-after_operand (unknown c ∷ gs) more g h k = cc
first_fault-after_operand (lacking c ∷ gs) more g h k = cc

-- options without an operand
pub operand_in-none : (o : Option Operand) → is_some o ≡ false → o ≡ None
operand_in-none o h = grind arith

-- the operand of options without one, with more after them, is that of the rest
pub operand_in-append : (gs more : List ParsedArg) → operand_in gs ≡ None → operand_in (gs ++ more) ≡ operand_in more
operand_in-append [] more h = refl
operand_in-append (flag c ∷ gs) more h = operand_in-append gs more h
operand_in-append (option c n a ∷ gs) more h = operand_in-append gs more h
operand_in-append (operand n w ∷ gs) more h = cc
operand_in-append (unknown c ∷ gs) more h = operand_in-append gs more h
operand_in-append (lacking c ∷ gs) more h = operand_in-append gs more h

swap_or : (a b c : Bool) → (a || (b || c)) ≡ (b || (a || c))
swap_or true true c = refl
swap_or true false c = refl
swap_or false b c = refl

-- a flag at the end
pub has_flag-flag_last : (ls : List ℕ) (gs : List ParsedArg) (c : ℕ) → has_flag ls (gs ++ flag c ∷ []) ≡ (has_letter ls c || has_flag ls gs)
has_flag-flag_last ls [] c = refl
has_flag-flag_last ls (flag d ∷ gs) c = grind (arith, swap_or, has_flag-flag_last ls gs c)
has_flag-flag_last ls (option d n a ∷ gs) c = has_flag-flag_last ls gs c
has_flag-flag_last ls (operand n w ∷ gs) c = has_flag-flag_last ls gs c
has_flag-flag_last ls (unknown d ∷ gs) c = has_flag-flag_last ls gs c
has_flag-flag_last ls (lacking d ∷ gs) c = has_flag-flag_last ls gs c

-- an option or operand that is no flag
abbrev pub IsNoFlag : ParsedArg → Type 0
IsNoFlag g = (ls : List ℕ) → has_flag ls (g ∷ []) ≡ false

-- an option or operand at the end that is no flag changes no flag
pub has_flag-last : (ls : List ℕ) (gs : List ParsedArg) (g : ParsedArg) → IsNoFlag g → has_flag ls (gs ++ g ∷ []) ≡ has_flag ls gs
has_flag-last ls [] g h = h ls
has_flag-last ls (flag d ∷ gs) g h = ap (λ (b : Bool). has_letter ls d || b) (has_flag-last ls gs g h)
has_flag-last ls (option d n a ∷ gs) g h = has_flag-last ls gs g h
has_flag-last ls (operand n w ∷ gs) g h = has_flag-last ls gs g h
has_flag-last ls (unknown d ∷ gs) g h = has_flag-last ls gs g h
has_flag-last ls (lacking d ∷ gs) g h = has_flag-last ls gs g h

-- the exit mode of two parts is that of the second, starting with the exit mode of the first
pub mode_from-append : (mode : ExitMode) (gs more : List ParsedArg) → mode_from mode (gs ++ more) ≡ mode_from (mode_from mode gs) more
mode_from-append mode [] more = refl
mode_from-append mode (flag c ∷ gs) more = mode_from-append mode gs more
mode_from-append mode (option c n a ∷ gs) more = mode_from-append (if has_letter (codes "x") c then mode_or mode (parse_exit_mode a) else mode) gs more
mode_from-append mode (operand n w ∷ gs) more = mode_from-append mode gs more
mode_from-append mode (unknown c ∷ gs) more = mode_from-append mode gs more
mode_from-append mode (lacking c ∷ gs) more = mode_from-append mode gs more

listing_last : (depths names d s : Bool) → listing_by (d || depths) (s || names) ≡ (if d then Depths else if s then with_names (listing_by depths names) else listing_by depths names)
listing_last depths names true s = refl
listing_last true names false true = refl
listing_last false true false true = refl
listing_last false false false true = refl
listing_last depths names false false = refl

-- a flag at the end, in the settings
pub settings_in-flag_last : (gs : List ParsedArg) (c : ℕ) → settings_in (gs ++ flag c ∷ []) ≡ with_flag (settings_in gs) c
settings_in-flag_last gs c = grind (arith, has_flag-flag_last, listing_last, mode_from-append)

-- at the end, an option or operand that is no flag changes the exit mode alone
pub settings_in-last : (gs : List ParsedArg) (g : ParsedArg) (m : ExitMode) → IsNoFlag g → mode_from (mode_from Zero gs) (g ∷ []) ≡ m
    → settings_in (gs ++ g ∷ []) ≡ record (settings_in gs) { exit_mode = m }
settings_in-last gs g m h e = grind (arith, has_flag-last, mode_from-append)

-- options and operands without a fault have none among the first of them
pub first_fault-prefix : (gs more : List ParsedArg) → first_fault (gs ++ more) ≡ None → first_fault gs ≡ None
first_fault-prefix [] more h = refl
first_fault-prefix (flag c ∷ gs) more h = first_fault-prefix gs more h
first_fault-prefix (option c n a ∷ gs) more h =
    let both = both_none (argument_fault c n a) (first_fault (gs ++ more)) h in
    rw (both.0) (first_fault-prefix gs more both.1)
first_fault-prefix (operand n w ∷ []) more h = refl
first_fault-prefix (operand n w ∷ (g ∷ gs)) more h = cc
first_fault-prefix (unknown c ∷ gs) more h = cc
first_fault-prefix (lacking c ∷ gs) more h = cc
