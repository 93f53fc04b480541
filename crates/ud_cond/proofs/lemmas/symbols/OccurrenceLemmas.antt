-- Names that stand nowhere in a text.
use Rattle.std.proofs.Common.{◌≡◌, ◌<◌, ◌+◌, ℕ, List, ◌++◌, length, length-append, Bool, true}
use Rattle.std.proofs.Common.{false, None, bytes_eq, nat_eq, refl, sym, ◌∙◌, subst, arith}
use Rattle.std.proofs.lemmas.List.{get_or-append-add, get_or_append_left}
use Rattle.std.proofs.lemmas.Slice.Eq.{bytes_eq-Decides}
use Rattle.memchr.specs.Find.{Nowhere, OccursAt}
use Rattle.ud_model.specs.conditions.Table.{Argument}
use Rattle.ud_cond.specs.symbols.SymbolTable.{LacksNames, name_at}
use Rattle.ud_cond.proofs.lemmas.symbols.TableLemmas.{entry_from-none}

-- the name stands nowhere in the text
abbrev pub StandsNowhere : List ℕ → List ℕ → Type 0
StandsNowhere text name = Nowhere (OccursAt text name) 0 (length text + 1)

-- a part of a text stands after the bytes before it
part : (text before name after : List ℕ) → text ≡ before ++ (name ++ after) →
    OccursAt text name (length before)
part text before name after e = subst (λ (t : List ℕ). OccursAt t name (length before)) (sym e)
    (record {
      fits = grind (arith, length-append);
      reads = λ j low. get_or-append-add before (name ++ after) j 0 ∙ get_or_append_left name after 0 j
          low;
    })

-- if the name of no row stands in the text, no name with an entry does
pub lacking : (rows : List Argument) (text : List ℕ) →
    ((k : ℕ) → k < length rows → StandsNowhere text (name_at rows k)) → LacksNames rows text
lacking rows text none before name after e = entry_from-none None rows name
    (λ k low high. other (name_at rows k) (bytes_eq (name_at rows k) name) refl (none k high))
  where
    here : OccursAt text name (length before)
    here = part text before name after e

    other : (m : List ℕ) (b : Bool) → bytes_eq m name ≡ b → StandsNowhere text m →
        bytes_eq m name ≡ false
    other m false is nowhere = is
    other m true is nowhere = absurd (nowhere (length before) (omega arith)
        (let f = here.fits in omega (arith, f))
        (subst (λ (n : List ℕ). OccursAt text n (length before))
        (sym ((bytes_eq-Decides m name).0 is)) here))

-- what holds below a number and at it, holds below the next one
pub up_to : (P : ℕ → Type 0) (i : ℕ) → ((k : ℕ) → k < i → P k) → P i → (k : ℕ) → k < i + 1 → P k
up_to P i below here k low = by (nat_eq k i) refl
  where
    by : (b : Bool) → nat_eq k i ≡ b → P k
    by b e = grind arith
