-- The filter of rows: which names it rejects, and how it stays a filter of all rows.
use Rattle.std.proofs.Common.{◌≡◌, ◌≤◌, ◌<◌, ◌*◌, ◌/◌, ◌%◌, ◌^◌, ℕ, zero, suc, List, [], ◌∷◌, length, get_or, Bool, true, false, if◌then◌else◌, bytes_eq, refl, sym, ◌∙◌, ap, arith}
use Rattle.std.specs.Int.{w64, bit_at}
use Rattle.std.specs.Int.RustNames.{bit_or}
use Rattle.std.proofs.lemmas.Bool.{cases_eq, eq-eqb, eqb-true}
use Rattle.std.proofs.lemmas.List.{get_or-set_same, get_or-set_other}
use Rattle.std.proofs.lemmas.Nat.Bits.{bit_at_or, bit_at-lt, bit_at_set_same}
use Rattle.std.proofs.Math.ListN.{set}
use Rattle.std.specs.List.{insert}
use Rattle.std.proofs.lemmas.Slice.Eq.{bytes_eq-Decides}
use Rattle.ud_model.specs.conditions.Table.{Argument}
use Rattle.ud_cond.specs.symbols.SymbolTable.{name_at}
use Rattle.ud_cond.specs.symbols.NameFilters.{slot_of, bit_of, slot_is_set, AllNames}
use Rattle.ud_cond.proofs.lemmas.symbols.TableLemmas.{NoneFrom}

-- a test that the name of each row passes
module _ (p : List ℕ → Bool) where
  apart_by : (m n : List ℕ) (b : Bool) → p m ≡ true → p n ≡ false → bytes_eq m n ≡ b → b ≡ false
  apart_by m n b hit miss e = grind (arith, bytes_eq-Decides)

  -- a name that doesn't pass it is that of no row
  pub none-unmarked : (rows : List Argument) (name : List ℕ) → AllNames p rows → p name ≡ false → NoneFrom rows 0 name
  none-unmarked [] name marks miss k low high = absurd (omega arith)
  none-unmarked (r ∷ rows) name marks miss zero low high = apart_by r.name name (bytes_eq r.name name) marks.0 miss refl
  none-unmarked (r ∷ rows) name marks miss (suc k) low high = none-unmarked rows name marks.1 miss k (omega arith) (omega arith)

  -- a row is changed and keeps its name
  pub noted-set : (rows : List Argument) (i : ℕ) (a : Argument) → AllNames p rows → i < length rows → name_at rows i ≡ a.name → AllNames p (set rows i a)
  noted-set [] i a marks within same = absurd (omega arith)
  noted-set (r ∷ rows) zero a marks within same = (ap p (sym same) ∙ marks.0, marks.1)
  noted-set (r ∷ rows) (suc i) a marks within same = (marks.0, noted-set rows i a marks.1 (omega arith) same)

  -- a row is inserted, whose name passes it
  pub noted-insert : (rows : List Argument) (i : ℕ) (a : Argument) → AllNames p rows → i ≤ length rows → p a.name ≡ true → AllNames p (insert rows i a)
  noted-insert rows zero a marks within new = (new, marks)
  noted-insert [] (suc i) a marks within new = absurd (omega arith)
  noted-insert (r ∷ rows) (suc i) a marks within new = (marks.0, noted-insert rows i a marks.1 (omega arith) new)

  pub noted-added : (rows : List Argument) (i : ℕ) (a : Argument) (b : Bool) → AllNames p rows → i ≤ length rows → p a.name ≡ true → AllNames p (if b then insert rows i a else rows)
  noted-added rows i a b marks within new = grind (arith, noted-insert)

-- names that passed a test pass one that is wider
pub noted-kept : (p q : List ℕ → Bool) (rows : List Argument) → ((name : List ℕ) → p name ≡ true → q name ≡ true) → AllNames p rows → AllNames q rows
noted-kept p q [] kept marks = tt
noted-kept p q (r ∷ rows) kept marks = (kept r.name marks.0, noted-kept p q rows kept marks.1)

-- `with_bit word k`: the word with its bit `k` set
abbrev with_bit : ℕ → ℕ → ℕ
with_bit word k = bit_or word (1 * 2 ^ k % 2 ^ 64)

-- the words with the bit of the slot set
abbrev with_slot : List ℕ → ℕ → List ℕ
with_slot words slot = set words (slot / 64) (with_bit (get_or words (slot / 64) 0) (slot % 64))

module _ (words : List ℕ) (slot : ℕ) (within : slot / 64 < length words) where
  changed : get_or (with_slot words slot) (slot / 64) 0 ≡ with_bit (get_or words (slot / 64) 0) (slot % 64)
  changed = grind (arith, get_or-set_same)

  -- the slot is set
  pub slot-inserted : (key : ℕ) → slot ≡ slot_of key → slot_is_set (with_slot words slot) key ≡ true
  slot-inserted key is =
      let new : bit_of (with_slot words slot) slot ≡ 1 = ap (λ w. bit_at w (slot % 64)) changed ∙ bit_at_set_same w64 (get_or words (slot / 64) 0) (slot % 64) (omega arith) in
      eq-eqb (bit_of (with_slot words slot) (slot_of key)) 1 (ap (bit_of (with_slot words slot)) (sym is) ∙ new)

  -- each slot that is set stays set
  pub slot-kept : (key : ℕ) → slot_is_set words key ≡ true → slot_is_set (with_slot words slot) key ≡ true
  slot-kept key hit = grind (arith, eqb-true, eq-eqb, cases_eq, get_or-set_same, bit_at_or, bit_at-lt, get_or-set_other)
