-- `closed` makes a handle of null.
use Rattle.unifdef_c.proofs.WalkWords.{None, List, [], ◌∷◌, ◌++◌, refl, sym, subst, lit<, Ura, Val, SProp, ent, emp, ftrue, fsep, Memory, Routine, WpFn, Tables, Logic, Fun, WpFn-mono, Item, ‵, raw, ◌⊛◌, ◌$◌, ◌∵◌, !, qed, by, keep, drop, join, split, fsplit, fjoin, suffices, done, agg, lit, no_more, and_then, returns, enter, alloc_all, pass_all, free_all, look_at, get, sets, yes, null_ptr, ptr_val, Slot, plain, handle_tells, nothing, triple_of, entered, says, Stays, stay_dropped, walk_of, ends_at, Goes-dropped, walk_Meets, Good, layout, and_tt}
use contract.Running.{tables, tables_of}
use Rattle.unifdef_c.specs.contracts.handle.Handle as handle
use Rattle.unifdef_c.proofs.HandleBox.{E}
use Rattle.unifdef_c.proofs.HandleSteps.{Z, both, null_in}
use Rattle.unifdef_c.specs.contracts.handle.Handle.closed as F
use Rattle.unifdef_c.specs.contracts.handle.Handle.closed.Key.{name as #self}
use Rattle.unifdef_c.proofs.handle.Handle.closed.Statement as stated
use Rattle.unifdef_c.proofs.handle.Handle.closed.Code as code

abbrev From : Slot 0
From = plain (λ _. Z)

abbrev stayed : Stays (F.ended).signature.params (F.ended).kept
stayed = (stay_dropped From yes, tt)

module _ {M : Type 1} {𝓤 : Ura M} (𝓛 : Logic 𝓤) (at_mem : Memory → SProp 𝓤) (run : Routine → Fun 𝓤) (𝓣 : Tables 𝓤 𝓛.H) where
  open 𝓛 use {H}

  walk : (z : (walk_of 𝓛 F.ended stayed (F.clauses 𝓛 at_mem run)).Ghost)
      → ent 𝓤 ((walk_of 𝓛 F.ended stayed (F.clauses 𝓛 at_mem run)).pre z) (WpFn 𝓤 H 𝓣.C 𝓣.Λ code.function (z.0.4.0 ++ []) ((walk_of 𝓛 F.ended stayed (F.clauses 𝓛 at_mem run)).post z))
  walk z = let Post = (walk_of 𝓛 F.ended stayed (F.clauses 𝓛 at_mem run)).post z in
      let a = z.0.3.0 in
      let made : handle.the_row.Denot = record { at = null_ptr; alloc = a; stream = None } in
      qed 𝓛 ((‵ ftrue ⊛ ‵ (fsep (Z.own_val a z.0.4.0) ftrue)) ∷ raw (emp 𝓤) ∷ []) ∵ split ! $ drop ! $ fsplit ! $
      handle_tells E.al ! a z.0.4.0 (λ h ea fh. keep ! (0 ∷ []) $ null_in ! h a $
      let w = both (ptr_val null_ptr) h in
      let good : Good (layout handle.the_row) w = (and_tt _ fh.0, (record { fits = lit< tt }, (fh.1, tt))) in
      let Γ : List (Item 𝓤) = ‵ (handle.the_row.own_val made (w ∷ [])) ∷ [] in
      by ! (subst (λ (us : List Val). ent 𝓤 (types.Kit.⋆ 𝓛 Γ) (WpFn 𝓤 H 𝓣.C 𝓣.Λ code.function (us ++ []) Post)) (sym ea)
      (qed 𝓛 Γ ∵ enter ! 𝓣.C 𝓣.Λ code.function (h ∷ []) _ $ alloc_all ! (λ ls. pass_all ! refl (fh, tt) $
      sets ! (agg ! (and_then ! (lit ! tt) (and_then ! (get ! refl) (no_more !)))) refl good $
      returns ! (look_at ! 0 refl) $ free_all ! refl $
      suffices ! _ (ends_at 𝓛 F.ended stayed (F.clauses 𝓛 at_mem run) z w made (tt, tt) (tt, tt)) $ says ! refl $
      nothing ! $ nothing ! $ fjoin ! $ join ! $ nothing ! $ join ! $ done !))))

pub closed_spec : {M : Type 1} → stated.statement M
unfolding tables_of
closed_spec 𝓤 𝓛 𝓜 𝓡 wired = let 𝓣 : Tables 𝓤 𝓛.H = tables_of 𝓤 𝓛.H 𝓜 (tables 𝓤 𝓛.H 𝓜 𝓡 𝓡.env) in
    entered 𝓤 𝓛.H (triple_of 𝓛 F.signature (F.spec 𝓛 𝓜.mem 𝓡.returns)) 𝓣.C 𝓣.Λ #self code.function (code.unfolded 𝓤 𝓛.H 𝓜 𝓡 wired)
    (walk_Meets 𝓛 F.ended stayed (Goes-dropped 𝓛 0 From yes (λ κs x f. refl), tt) (F.clauses 𝓛 𝓜.mem 𝓡.returns) (WpFn 𝓤 𝓛.H 𝓣.C 𝓣.Λ code.function) (WpFn-mono 𝓤 𝓛.H 𝓛.laws 𝓣 code.function)
    (walk 𝓛 𝓜.mem 𝓡.returns 𝓣))
