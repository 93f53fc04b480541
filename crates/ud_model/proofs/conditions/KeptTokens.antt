-- Kept tokens: the flags choose the tokens of the residual.
use Rattle.std.proofs.Common.{◌≡◌, Bool, true, false, not, ◌&&◌, if◌then◌else◌, List, [], ◌∷◌, ◌++◌, map, refl, sym, ◌∙◌, ap, ap₂, arith, append-nil}
use Rattle.ud_model.specs.conditions.Table.{Argument}
use Rattle.ud_model.specs.conditions.Tokens.{operator}
use Rattle.ud_model.specs.conditions.Expressions.{Expression, unary, binary, parens, spelling}
use Rattle.ud_model.specs.conditions.Conditions.{Rules}
use Rattle.ud_model.specs.aids.Residuals.{Residual, joined_if, stands_alone, residual, chosen, all_flags, joined_flags, keeps}
use Rattle.ud_model.specs.declared.cond.Cond.{Cond}
use Rattle.ud_model.specs.declared.operator.Operator.{Operator}
use Rattle.ud_model.specs.declared.operator.Operator.TheVariants.{Or, And, Not}

-- There are as many flags as members.
abbrev pub SameLength : {A B : Type 0} → List A → List B → Type 0
SameLength [] [] = Unit {0}
SameLength (x ∷ xs) (y ∷ ys) = SameLength xs ys
SameLength [] (y ∷ ys) = ⊥
SameLength (x ∷ xs) [] = ⊥

chosen_both : {A : Type 0} (fs gs : List Bool) (xs ys : List A) → SameLength fs xs → chosen (fs ++ gs) (xs ++ ys) ≡ chosen fs xs ++ chosen gs ys
chosen_both (true ∷ fs) gs (x ∷ xs) ys h = ap (λ zs. x ∷ zs) (chosen_both fs gs xs ys h)
chosen_both (false ∷ fs) gs (x ∷ xs) ys h = chosen_both fs gs xs ys h
chosen_both fs gs xs ys h = grind arith

same_both : {A : Type 0} (fs gs : List Bool) (xs ys : List A) → SameLength fs xs → SameLength gs ys → SameLength (fs ++ gs) (xs ++ ys)
same_both (f ∷ fs) gs (x ∷ xs) ys h k = same_both fs gs xs ys h k
same_both fs gs xs ys h g = grind arith

same_all : {A : Type 0} (f : Bool) (xs : List A) → SameLength (map (λ t. f) xs) xs
same_all f [] = tt
same_all f (x ∷ xs) = same_all f xs

chosen_all : {A : Type 0} (xs : List A) → chosen (map (λ t. true) xs) xs ≡ xs
chosen_all [] = refl
chosen_all (x ∷ xs) = ap (λ zs. x ∷ zs) (chosen_all xs)

chosen_none : {A : Type 0} (xs : List A) → chosen (map (λ t. false) xs) xs ≡ []
chosen_none [] = refl
chosen_none (x ∷ xs) = chosen_none xs

-- The flags of a tree are as many as its tokens, and choose the tokens of the residual.
pub record Chooses (flags : List Bool) (e : Expression) (left : Expression) : Type 0 where
  pub long : SameLength flags (spelling e)
  pub are : chosen flags (spelling e) ≡ spelling left

joined_choose : (b d : Bool) (o : Operator) (c : Cond) (x y : Residual) (e f : Expression) (xs ys : List Bool) →
    Chooses xs e x.tree → Chooses ys f y.tree →
    Chooses (joined_flags b d e f xs ys) (binary o e f) (joined_if b d o c x y).tree
joined_choose true d o c x y e f xs ys p q = record {
  long = same_both (all_flags false e) (false ∷ ys) (spelling e) (operator o ∷ spelling f) (same_all false (spelling e)) q.long;
  are = chosen_both (all_flags false e) (false ∷ ys) (spelling e) (operator o ∷ spelling f) (same_all false (spelling e)) ∙ ap₂ (λ us vs. us ++ vs) (chosen_none (spelling e)) q.are;
}
joined_choose false true o c x y e f xs ys p q = record {
  long = same_both xs (false ∷ all_flags false f) (spelling e) (operator o ∷ spelling f) p.long (same_all false (spelling f));
  are = chosen_both xs (false ∷ all_flags false f) (spelling e) (operator o ∷ spelling f) p.long ∙ ap₂ (λ us vs. us ++ vs) p.are (chosen_none (spelling f)) ∙ append-nil (spelling x.tree);
}
joined_choose false false o c x y e f xs ys p q = grind (arith, same_both, chosen_both)

enclosed_choose : (b : Bool) (x : Residual) (e : Expression) (xs : List Bool) → Chooses xs e x.tree →
    Chooses (not b ∷ xs ++ not b ∷ []) (parens e) (if b then x else record x { tree = parens x.tree }).tree
enclosed_choose b x e xs p = grind (arith, same_both, chosen_both, append-nil)

not_choose : (x : Residual) (e : Expression) (xs : List Bool) → Chooses xs e x.tree → Chooses (true ∷ xs) (unary Not e) (unary Not x.tree)
not_choose x e xs p = record { long = p.long; are = ap (λ us. operator Not ∷ us) p.are }

module _ (table : List Argument) (rules : Rules) where
  -- The flags of each tree choose the tokens of its residual.
  pub choose : (e : Expression) → Chooses (keeps table rules e) e (residual table rules e).tree
  choose (unary Not a) = not_choose (residual table rules a) a (keeps table rules a) (choose a)
  choose (binary And a b) = search (rules, joined_choose, choose a, choose b)
  choose (binary Or a b) = search (rules, joined_choose, choose a, choose b)
  choose (parens a) = enclosed_choose ((residual table rules a).lost && stands_alone (residual table rules a).tree) (residual table rules a) a (keeps table rules a) (choose a)
  choose e = search (rules, same_all, chosen_all)

  -- The tokens that are left are those with a flag.
  pub kept_are : (e : Expression) → spelling (residual table rules e).tree ≡ chosen (keeps table rules e) (spelling e)
  kept_are e = sym (choose e).are
