-- Edits: the output for a text is no longer than the text, but that a directive that becomes the
-- `#endif` may grow by a byte.
use Rattle.std.proofs.Common.{◌≡◌, ℕ, suc, ◌+◌, ◌≤◌, List, [], ◌∷◌, ◌++◌, length, Bool, true, false, not, ◌&&◌, refl, arith, length-append, length-take, length-drop}
use Rattle.ud_model.specs.text.Lines.{Line, text_of}
use Rattle.ud_model.specs.sections.Directives.{Span}
use Rattle.ud_model.specs.sections.Pruning.{Part, an_if, any_true, gives_way, ends_with_first_true, endif_verdict}
use Rattle.ud_model.specs.aids.SoFar.{verdict_so_far}
use Rattle.ud_model.specs.answer.Printing.{piece_alone}
use Rattle.ud_model.specs.declared.cond.Cond.{Cond}
use Rattle.ud_model.specs.declared.cond.Cond.TheVariants.{Yes, No}
use Rattle.ud_model.specs.declared.verdict.Verdict.{Verdict}
use Rattle.ud_model.specs.declared.verdict.Verdict.TheVariants.{Keep, Remove, ToEndif}

-- A group has come after the first true one, and after the one whose opener became the `#endif`.
abbrev pub is_past : List Cond → Bool
is_past cs = not (gives_way cs) && any_true cs && not (ends_with_first_true cs)

-- An opener after such a group is removed; one that becomes the `#endif` opens such a group.
abbrev pub Moves : Bool → Verdict → Bool → Type 0
Moves true v now = (v ≡ Remove) × (now ≡ true)
Moves false ToEndif now = now ≡ true
Moves false _ _ = Unit {0}

ends_after : (cs : List Cond) (c : Cond) → any_true cs ≡ true → (any_true (cs ++ c ∷ []) ≡ true) × (ends_with_first_true (cs ++ c ∷ []) ≡ false)
ends_after [] c e = cc
ends_after (Yes ∷ []) c e = (refl, refl)
ends_after (Yes ∷ d ∷ cs) c e = (refl, refl)
ends_after (_ ∷ cs) c e = ends_after cs c e

-- Each opener does so.
pub opener_moves : (cs : List Cond) (part : Part) (c : Cond) → Moves (is_past cs) (verdict_so_far cs part c) (is_past (cs ++ c ∷ []))
opener_moves (No ∷ cs) part c = opener_moves cs part c
opener_moves cs part c = grind (arith, ends_after)

-- After such a group the `#endif` is removed.
pub endif_past : (cs : List Cond) → is_past cs ≡ true → endif_verdict cs ≡ Remove
endif_past cs h = grind arith

-- The line stays as it is or is removed.
abbrev pub KeepsOrGoes : Verdict → Type 0
KeepsOrGoes Keep = Unit {0}
KeepsOrGoes Remove = Unit {0}
KeepsOrGoes _ = ⊥

-- Each `#endif` stays or is removed.
pub endif_keeps : (cs : List Cond) → KeepsOrGoes (endif_verdict cs)
endif_keeps cs = grind arith

-- The first opener stays or is removed.
pub if_keeps : (c : Cond) → KeepsOrGoes (verdict_so_far [] an_if c)
if_keeps c = grind arith

-- A removed line leaves its ending at most.
pub removed_size : (u blank : Bool) (k : Span) (l : Line) → length (piece_alone u blank (record { line = l; verdict = Remove; keyword = k })) + length l.body ≤ length (text_of l)
removed_size u blank k l = grind (arith, length-append)

pub keeps_size : (u blank : Bool) (v : Verdict) (k : Span) (l : Line) → KeepsOrGoes v → length (piece_alone u blank (record { line = l; verdict = v; keyword = k })) ≤ length (text_of l)
keeps_size u blank Keep k l h = grind arith
keeps_size u blank Remove k l h = let e = removed_size u blank k l in omega (arith, e)
keeps_size _ _ _ _ _ h = absurd h

-- The output is at most so long.
abbrev pub AtMost : Verdict → ℕ → ℕ → Type 0
AtMost ToEndif n m = n ≤ suc m
AtMost _ n m = n ≤ m

-- The case of a directive whose keyword has four bytes at least.
pub edited_size : (u blank : Bool) (v : Verdict) (k : Span) (l : Line) → 4 ≤ k.len → k.at + k.len ≤ length l.body →
    AtMost v (length (piece_alone u blank (record { line = l; verdict = v; keyword = k }))) (length (text_of l))
edited_size u blank v k l e h = grind (arith, length-append, length-take, length-drop)
