-- NameFilters: the slots by which most unlisted names are rejected without a search.
use Rattle.std.specs.Prelude.{◌≡◌, ℕ, ◌*◌, ◌/◌, ◌%◌, ◌^◌, ◌==◌, List, [], ◌∷◌, get_or, Bool, true}
use Rattle.std.specs.Int.{bit_at}
use Rattle.ud_model.specs.conditions.Table.{Argument}
use Rattle.ud_cond.specs.symbols.Keys.{key_of}
use Rattle.ud_cond.specs.declared.symbols.name_filter.TheConstants.{FILTER_SLOTS, HASH_MULTIPLIER}
use Rattle.ud_cond.specs.declared.symbols.name_filter.TheConstants.{LOW_BITS, WORD_SLOTS}

-- `slot_of key`: the slot of the key, by some bits of its product with `HASH_MULTIPLIER`.
unfoldable pub slot_of : ℕ → ℕ
slot_of key = key * HASH_MULTIPLIER % 2 ^ 64 / 2 ^ LOW_BITS % FILTER_SLOTS

-- `bit_of words slot`: the bit of the slot in `words`, each with its lowest bit first.
abbrev pub bit_of : List ℕ → ℕ → ℕ
bit_of words slot = bit_at (get_or words (slot / WORD_SLOTS) 0) (slot % WORD_SLOTS)

-- `slot_is_set noted key`: the bit of the key's slot is 1 in `noted`.
abbrev pub slot_is_set : List ℕ → ℕ → Bool
slot_is_set noted key = bit_of noted (slot_of key) == 1

-- `has_slot noted name`: the slot of the key of the name is set in `noted`.
abbrev pub has_slot : List ℕ → List ℕ → Bool
has_slot noted name = slot_is_set noted (key_of name)

-- `AllNames p rows`: the name of each row passes the test `p`.
abbrev pub AllNames : (List ℕ → Bool) → List Argument → Type 0
AllNames p [] = Unit {0}
AllNames p (r ∷ rows) = (p r.name ≡ true) × AllNames p rows
