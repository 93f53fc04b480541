-- The options of unifdef(1) among those of unifdef-tree(1).
use Rattle.std.proofs.Common.{◌≡◌, ◌∙◌, ℕ, ◌+◌, ◌<◌, List, ◌∷◌, length, drop, get_or, Bool, true, false, bytes_eq, refl, sym, add-one}
use Rattle.std.proofs.Math.Seq.{drop-cons}
use Rattle.std.proofs.lemmas.Slice.Eq.{bytes_eq-Decides}
use Rattle.ud_args.specs.declared.command_line.ParsedArg.{ParsedArg}
use Rattle.ud_args.specs.ParsedArgs.{as_parsed, parsed}
use Rattle.ud_args.specs.TreeWords.{is_unifdef_option, unifdef_arg, unifdef_args}

-- the options from an index on are the one there, and those after it
pub unifdef_args-here : (given : List ParsedArg) (k : ℕ) (g : ParsedArg) → k < length given → is_unifdef_option (as_parsed (get_or given k g)) ≡ true
    → unifdef_args (parsed (drop k given)) ≡ unifdef_arg (as_parsed (get_or given k g)) ∷ unifdef_args (parsed (drop (k + 1) given))
unifdef_args-here given k g h e = rw (add-one, drop-cons given k g h, e) refl

-- or only those after it, if there is none at the index
pub unifdef_args-past : (given : List ParsedArg) (k : ℕ) (g : ParsedArg) → k < length given → is_unifdef_option (as_parsed (get_or given k g)) ≡ false
    → unifdef_args (parsed (drop k given)) ≡ unifdef_args (parsed (drop (k + 1) given))
unifdef_args-past given k g h e = rw (add-one, drop-cons given k g h, e) refl

-- names are equal either way round
pub bytes_eq-turned : (a b : List ℕ) → bytes_eq a b ≡ bytes_eq b a
bytes_eq-turned a b = by (bytes_eq a b) refl (bytes_eq b a) refl
  where
    by : (t : Bool) → bytes_eq a b ≡ t → (u : Bool) → bytes_eq b a ≡ u → t ≡ u
    by true e true f = refl
    by true e false f = sym ((bytes_eq-Decides b a).1 (sym ((bytes_eq-Decides a b).0 e))) ∙ f
    by false e true f = sym e ∙ (bytes_eq-Decides a b).1 (sym ((bytes_eq-Decides b a).0 f))
    by false e false f = refl
