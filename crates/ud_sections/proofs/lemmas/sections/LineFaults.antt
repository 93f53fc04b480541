-- LineFaults: when a line after sound ones is sound, and which fault it has otherwise.
use Rattle.std.proofs.Common.{◌≡◌, ◌<◌, ◌≤◌, List, [], ◌∷◌, ◌++◌, Bool, true, false, IsTrue, refl, sym, ◌∙◌, ap, subst, arith}
use Rattle.std.proofs.lemmas.List.{same_from_push}
use Rattle.ud_model.specs.text.Scans.{Reading}
use Rattle.ud_model.specs.sections.Directives.{content_of}
use Rattle.ud_model.specs.sections.Tree.{Item, Tree, lines, depth}
use Rattle.ud_model.specs.sections.Pruning.{Mark, marks}
use Rattle.ud_model.specs.sections.Items.{reading_of, line_of}
use Rattle.ud_model.specs.sections.Faults.{FaultOf, Case, past_last, too_long, cut, out_of_place, too_deep, obfuscated_case, is_cut, is_obfuscated, NoneHolds, cases, obfuscated, too_many_levels}
use Rattle.ud_model.specs.declared.limits.TheConstants.{MAX_DEPTH}
use Rattle.ud_model.proofs.sections.Unique.{unique}
use Rattle.ud_sections.specs.sections.Limits.{IsWithinLimits}

not_true : (b : Bool) → b ≡ false → IsTrue b → ⊥
not_true b e h = cc

-- the keyword of the item's line can't be known
abbrev pub is_cut_item : Item Reading → Bool
is_cut_item x = is_cut (content_of (reading_of x).scan)

module _ (xs : List (Item Reading)) (x : Item Reading) (w : IsWithinLimits (line_of x)) where
  -- a line within the limits isn't faulty in the first two ways
  within_first : (cs : List Case) → NoneHolds xs x cs → NoneHolds xs x (past_last ∷ too_long ∷ cs)
  within_first cs h = grind arith

  -- if no keyword is cut in it, the line isn't faulty in the third way either
  within_clear : (cs : List Case) → is_cut_item x ≡ false → NoneHolds xs x cs → NoneHolds xs x (past_last ∷ too_long ∷ cut ∷ cs)
  within_clear cs whole others = within_first (cut ∷ cs) (λ h. not_true (is_cut_item x) whole h, others)

  -- a keyword that is cut is a fault
  pub cut_fault : is_cut_item x ≡ true → FaultOf xs x (obfuscated (line_of x).number)
  cut_fault h = record { which = cut; holds = h; first = within_first [] tt; named = refl }

  module _ (whole : is_cut_item x ≡ false) (u : Tree Reading) (e : lines u ≡ xs ++ x ∷ []) where
    too_deep_not : depth u ≤ MAX_DEPTH → ((v : Tree Reading) × (lines v ≡ xs ++ x ∷ []) × (MAX_DEPTH < depth v)) → ⊥
    too_deep_not d j = let q : j.0 ≡ u = unique j.0 u (j.1 ∙ sym e) in
        let k : MAX_DEPTH < depth u = subst (λ v. MAX_DEPTH < depth v) q j.2 in omega (arith, k, d)

    -- a directive that opens one section too many
    pub too_deep_fault : MAX_DEPTH < depth u → FaultOf xs x (too_many_levels (line_of x).number)
    too_deep_fault h = grind arith

    -- a directive that spans lines and would have to be changed
    pub spoiled_fault : (before : List Mark) (m : Mark) → depth u ≤ MAX_DEPTH → marks u ≡ before ++ m ∷ [] →
        is_obfuscated before x m ≡ true → FaultOf xs x (obfuscated (line_of x).number)
    spoiled_fault before m d k s = grind (arith, too_deep_not)

    -- a line isn't faulty if it and the lines before have a tree that isn't too deep, and it isn't
    -- obfuscated
    pub clear_line : (before : List Mark) (m : Mark) → depth u ≤ MAX_DEPTH → marks u ≡ before ++ m ∷ [] →
        is_obfuscated before x m ≡ false → NoneHolds xs x cases
    clear_line before m d k s = within_clear (out_of_place ∷ too_deep ∷ obfuscated_case ∷ []) whole (
      λ h. h.1 (u, e),
      (
        too_deep_not d,
        (
          λ h.
              let q : h.2.0 ≡ u = unique h.2.0 u (h.2.1 ∙ sym e) in
              let same : (h.0 ≡ before) × (h.1 ≡ m) = same_from_push h.0 before h.1 m (sym h.2.2 ∙ ap marks q ∙ k) in
              not_true (is_obfuscated before x m) s
              (subst (λ (n : Mark). IsTrue (is_obfuscated before x n)) same.1 (subst (λ (ms : List Mark). IsTrue (is_obfuscated ms x h.1)) same.0 h.3)),
          tt,
        ),
      ),
    )
