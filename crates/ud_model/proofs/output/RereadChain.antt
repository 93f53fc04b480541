-- Reading an output again, line by line: the output for all lines.
use Rattle.std.proofs.Common.{◌≡◌, ℕ, suc, List, [], ◌∷◌, ◌++◌, map, refl, sym, ◌∙◌, ap, subst, inl, arith}
use Rattle.ud_model.specs.text.Lines.{Line, ending_of, numbered_from, AreFormed}
use Rattle.ud_model.specs.text.Scans.{Reading}
use Rattle.ud_model.specs.sections.Tree.{Item, Tree, lines}
use Rattle.ud_model.specs.sections.Items.{Options, line_of, item_of, read_after, next_item}
use Rattle.ud_model.specs.sections.Faults.{AreFaultless, no_lines, one_more, NoneHolds, cases}
use Rattle.ud_model.specs.laws.Rereading.{IsPlain}
use Rattle.ud_model.proofs.output.Each.{Each, each_parts}
use Rattle.ud_model.proofs.output.Formed.{whole_ending, end_is_some}
use Rattle.ud_model.proofs.output.Heeding.{the_mode, one_mode, sound_heed}
use Rattle.ud_model.proofs.sections.Soundness.{sound_lines, lines_with_next}
use Rattle.ud_model.proofs.output.LeavesOff.{HasEnd}
use Rattle.ud_model.proofs.output.RereadMore.{Again, Between, IsLine, start}
use Rattle.ud_model.proofs.output.RereadStep.{step}

-- The lines were cut from a text, and each but the last has an ending.
abbrev pub AllButLast : List Line → Type 0
AllButLast [] = Unit {0}
AllButLast (l ∷ []) = IsLine l
AllButLast (l ∷ k ∷ ls) = (HasEnd l × IsLine l) × AllButLast (k ∷ ls)

-- A line that was cut from a text, and has an ending.
abbrev pub IsInner : Line → Type 0
IsInner l = HasEnd l × IsLine l

pub ends_before : (ls : List Line) (l : Line) → AllButLast (ls ++ l ∷ []) → Each IsInner ls × IsLine l
ends_before [] l h = (tt, h)
ends_before (k ∷ []) l h = ((h.0, tt), h.1)
ends_before (k ∷ m ∷ ls) l h = let r : Each IsInner (m ∷ ls) × IsLine l = ends_before (m ∷ ls) l h.1 in ((h.0, r.0), r.1)

-- The lines of a text are so.
pub lines_end : (n : ℕ) (ts : List (List ℕ)) → AreFormed ts → AllButLast (numbered_from n ts)
lines_end n (t ∷ u ∷ ts) f = ((end_is_some (ending_of t) (whole_ending t f.0), (n, t, refl, inl f.0)), lines_end (suc n) (u ∷ ts) f.1)
lines_end n ts h = grind arith

module _ (o : Options) (p : IsPlain o) where
  pub next_is : (xs : List (Item Reading)) (t : Tree Reading) (l : Line) → AreFaultless o xs t → next_item o xs t l ≡ item_of o (read_after xs (the_mode o) l)
  next_is xs t l s = grind (arith, one_mode, sound_lines, sound_heed)

  -- The last line of longer ones.
  one_step : (xs : List (Item Reading)) (t : Tree Reading) (s : AreFaultless o xs t) (ys : List (Item Reading)) → Between o (the_mode o) xs t ys → (l : Line) (u : Tree Reading) → IsLine l →
      lines u ≡ xs ++ next_item o xs t l ∷ [] → NoneHolds xs (next_item o xs t l) cases →
      (zs : List (Item Reading)) × Again o (the_mode o) (xs ++ next_item o xs t l ∷ []) u zs × (HasEnd l → Between o (the_mode o) (xs ++ next_item o xs t l ∷ []) u zs)
  one_step xs t s ys b l u i e n =
      subst (λ (x : Item Reading). (zs : List (Item Reading)) × Again o (the_mode o) (xs ++ x ∷ []) u zs × (HasEnd l → Between o (the_mode o) (xs ++ x ∷ []) u zs)) (sym (next_is xs t l s))
      (step o (the_mode o) xs t (sound_lines s) ys b l u i (e ∙ ap (λ (x : Item Reading). xs ++ x ∷ []) (next_is xs t l s))
      (subst (λ (x : Item Reading). NoneHolds xs x cases) (next_is xs t l s) n))

  between : (xs : List (Item Reading)) (t : Tree Reading) → AreFaultless o xs t → Each IsInner (map line_of xs) → (ys : List (Item Reading)) × Between o (the_mode o) xs t ys
  between _ _ no_lines h = ([], start o (the_mode o))
  between _ _ (one_more xs t s l u e n) h =
      let k = each_parts IsInner (map line_of xs) (l ∷ []) (subst (Each IsInner) (lines_with_next o xs t l) h) in
      let b : (ys : List (Item Reading)) × Between o (the_mode o) xs t ys = between xs t s k.0 in
      let z = one_step xs t s b.0 b.1 l u k.1.0.1 e n in
      (z.0, z.2 k.1.0.0)

  -- The items of the output, read again.
  pub again : (xs : List (Item Reading)) (t : Tree Reading) → AreFaultless o xs t → AllButLast (map line_of xs) → (ys : List (Item Reading)) × Again o (the_mode o) xs t ys
  again _ _ no_lines h = ([], (start o (the_mode o)).again)
  again _ _ (one_more xs t s l u e n) h =
      let k = ends_before (map line_of xs) l (subst AllButLast (lines_with_next o xs t l) h) in
      let b : (ys : List (Item Reading)) × Between o (the_mode o) xs t ys = between xs t s k.0 in
      let z = one_step xs t s b.0 b.1 l u k.1 e n in
      (z.0, z.1)
