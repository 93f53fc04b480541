-- A flag before other arguments sets its setting, and what these give stays.
use Rattle.std.proofs.Common.{◌≡◌, ℕ, List, ◌∷◌, Bool, true, false, None, codes, refl, ◌∙◌, ap, arith}
use Rattle.ud_laws.proofs.answer.SameArguments.{Same, given_same, table_same, no_fault_same}
use Rattle.ud_laws.proofs.answer.SameArguments.{name_same, flag_same, mode_same}
use Rattle.std.specs.Str.{chars}
use Rattle.std.specs.List.{filter_map}
use Rattle.std.proofs.Math.Bool.{or-true}
use Rattle.ud_model.specs.sections.Items.{Options}
use Rattle.ud_model.specs.answer.CommandLine.{ParsedArg, flag, parsed_from, parsed_args, has_flag, listing_by, settings_in, argument_in, options_of, first_fault, usage_fault, operand_in, name_or_stdin, display_name}
use Rattle.ud_laws.specs.output.ListedNames.{with_listing}
use Rattle.ud_laws.specs.output.InsertedLines.{with_blank_renumber, KeepsNumbers}
use Rattle.ud_laws.specs.output.SharedLines.{with_complement}
use Rattle.ud_laws.specs.output.StrictLines.{under_strict}
use Rattle.ud_model.specs.declared.settings.Listing.{Listing}

-- the options of these given arguments
abbrev options_in : List ParsedArg → Options
options_in gs = record { settings = settings_in gs; table = filter_map argument_in gs }

pub after_flag : (args : List (List ℕ)) → Same (parsed_from 1 args) (parsed_args args)
after_flag args = given_same 1 0 args

options_same : (gs hs : List ParsedArg) → Same gs hs → options_in gs ≡ options_in hs
options_same gs hs k = grind (arith, table_same, flag_same, mode_same)

-- what a flag in a word of its own gives, before other arguments
first_s : (args : List (List ℕ)) → parsed_args (codes "-s" ∷ args) ≡ flag 115 ∷ parsed_from 1 args
unfolding chars
first_s args = refl

first_c : (args : List (List ℕ)) → parsed_args (codes "-c" ∷ args) ≡ flag 99 ∷ parsed_from 1 args
unfolding chars
first_c args = refl

first_n : (args : List (List ℕ)) → parsed_args (codes "-n" ∷ args) ≡ flag 110 ∷ parsed_from 1 args
unfolding chars
first_n args = refl

first_b : (args : List (List ℕ)) → parsed_args (codes "-b" ∷ args) ≡ flag 98 ∷ parsed_from 1 args
unfolding chars
first_b args = refl

first_k : (args : List (List ℕ)) → parsed_args (codes "-K" ∷ args) ≡ flag 75 ∷ parsed_from 1 args
unfolding chars
first_k args = refl

-- the options of arguments with a flag before them
flagged : (args gs : List (List ℕ)) (c : ℕ) → parsed_args gs ≡ flag c ∷ parsed_from 1 args → options_of gs ≡ options_in (flag c ∷ parsed_args args)
flagged args gs c e =
    ap options_in e ∙ options_same (flag c ∷ parsed_from 1 args) (flag c ∷ parsed_args args)
    (record { alike = ap (λ (hs : List ParsedArg). flag c ∷ hs) (after_flag args).alike })

-- `-s`, unless `-S` is given too
pub lists_names : (args : List (List ℕ)) → has_flag (codes "S") (parsed_args args) ≡ false → options_of (codes "-s" ∷ args) ≡ with_listing (options_of args)
lists_names args off = flagged args (codes "-s" ∷ args) 115 (first_s args) ∙ ap (λ (b : Bool). listed_as (listing_by b true)) off
  where
    listed_as : Listing → Options
    listed_as l = record { settings = record (options_of args).settings { listing = l }; table = (options_of args).table }

-- `-c`
pub complements : (args : List (List ℕ)) → options_of (codes "-c" ∷ args) ≡ with_complement (options_of args)
complements args = flagged args (codes "-c" ∷ args) 99 (first_c args)

-- `-n`
pub renumbers : (args : List (List ℕ)) → options_of (codes "-n" ∷ args) ≡ with_blank_renumber (options_of args).settings.blank true (options_of args)
renumbers args = flagged args (codes "-n" ∷ args) 110 (first_n args)

-- `-b`
pub blanks : (args : List (List ℕ)) → options_of (codes "-b" ∷ args) ≡ with_blank_renumber true (options_of args).settings.renumber (options_of args)
blanks args = flagged args (codes "-b" ∷ args) 98 (first_b args)

-- `-K`
pub is_strict : (args : List (List ℕ)) → options_of (codes "-K" ∷ args) ≡ under_strict (options_of args)
is_strict args = flagged args (codes "-K" ∷ args) 75 (first_k args)

-- a flag before arguments without a fault makes none
no_fault_first : (args gs : List (List ℕ)) (c : ℕ) → parsed_args gs ≡ flag c ∷ parsed_from 1 args → usage_fault args ≡ None → usage_fault gs ≡ None
no_fault_first args gs c e f = ap first_fault e ∙ no_fault_same (given_same 0 1 args) f

pub no_fault_with_c : (args : List (List ℕ)) → usage_fault args ≡ None → usage_fault (codes "-c" ∷ args) ≡ None
no_fault_with_c args e = no_fault_first args (codes "-c" ∷ args) 99 (first_c args) e

-- messages call the input by the same name
pub name_with_c : (args : List (List ℕ)) → display_name (codes "-c" ∷ args) ≡ display_name args
name_with_c args = ap (λ (gs : List ParsedArg). name_or_stdin (operand_in gs)) (first_c args) ∙ name_same (after_flag args)

pub keeps_with_n : (args : List (List ℕ)) → usage_fault args ≡ None → KeepsNumbers args (codes "-n" ∷ args)
keeps_with_n args e =
    record {
      blank = (options_of args).settings.blank;
      renumber = true;
      given = or-true (options_of args).settings.blank;
      options = renumbers args;
      no_fault = no_fault_first args (codes "-n" ∷ args) 110 (first_n args) e;
    }

pub keeps_with_b : (args : List (List ℕ)) → usage_fault args ≡ None → KeepsNumbers args (codes "-b" ∷ args)
keeps_with_b args e =
    record {
      blank = true;
      renumber = (options_of args).settings.renumber;
      given = refl;
      options = blanks args;
      no_fault = no_fault_first args (codes "-b" ∷ args) 98 (first_b args) e;
    }
