-- `into_raw` reads the pointer. If it isn't null, what the handle owns goes with the parts.
use Rattle.unifdef_c.proofs.WalkWords.{None, Some, List, [], ◌∷◌, ◌++◌, refl, sym, ap, ◌∙◌, subst, lit<, Ura, Val, vcons, vnil, SProp, ent, emp, id⊢, ftrue, fsep, Memory, Routine, WpFn, Tables, Logic, Fun, WpFn-mono, Item, ‵, raw, ◌⊛◌, at_ret, ◌$◌, ◌∵◌, !, qed, by, keep, drop, use0, use1, join, split, fsplit, fjoin, suffices, done, whole, sub, agg, stop, fld, lit, bin, no_more, and_then, of_opd, first, branches, exec, returns, enter, alloc_all, pass_all, free_all, look_at, get, get_in, sets, sets_last, env, RattleType, yes, block_ptr, null_ptr, ptr_val, tests_null, type_at, nothing, triple_of, entered, says, Stays, stay_dropped, walk_of, ends_at, Goes-dropped, walk_Meets, Good, layout, and_tt, D, word, box_typed, box_in}
use contract.Running.{tables, tables_of}
use types.Match.{live}
use Rattle.std.proofs.alloc.Shapes.{after}
use Rattle.std.proofs.option.Made.{Some-of, none_of}
use Rattle.std.specs.contracts.impls.GlobalAllocator.TheImpl.{ghosts}
use Rattle.unifdef_c.specs.contracts.raw_box.RawBox as raw_box
use Rattle.unifdef_c.specs.contracts.handle.Handle as handle
use Rattle.unifdef_c.proofs.HandleBox.{E, FromHandle as From}
use Rattle.unifdef_c.proofs.HandleSteps.{W, Z, both, handle_out, either}
use Rattle.unifdef_c.specs.contracts.handle.Handle.into_raw as F
use Rattle.unifdef_c.specs.contracts.handle.Handle.into_raw.Key.{name as #self}
use Rattle.unifdef_c.proofs.handle.Handle.into_raw.Statement as stated
use Rattle.unifdef_c.proofs.handle.Handle.into_raw.Code as code

abbrev stayed : Stays (F.ended).signature.params (F.ended).kept
stayed = (stay_dropped From yes, tt)

module _ {M : Type 1} {𝓤 : Ura M} (𝓛 : Logic 𝓤) (at_mem : Memory → SProp 𝓤) (run : Routine → Fun 𝓤) (𝓣 : Tables 𝓤 𝓛.H) where
  open 𝓛 use {H}

  walk : (z : (walk_of 𝓛 F.ended stayed (F.clauses 𝓛 at_mem run)).Ghost)
      → ent 𝓤 ((walk_of 𝓛 F.ended stayed (F.clauses 𝓛 at_mem run)).pre z) (WpFn 𝓤 H 𝓣.C 𝓣.Λ code.function (z.0.4.0 ++ []) ((walk_of 𝓛 F.ended stayed (F.clauses 𝓛 at_mem run)).post z))
  walk z = let Post = (walk_of 𝓛 F.ended stayed (F.clauses 𝓛 at_mem run)).post z in
      let d : handle.the_row.Denot = z.0.3.0 in
      let Out : RattleType = type_at (F.signature).result tt in
      let P : RattleType = raw_box.the_row W Z ghosts in
      let Nil : Out.Denot = None in
      qed 𝓛 ((‵ ftrue ⊛ ‵ (fsep (handle.the_row.own_val d z.0.4.0) ftrue)) ∷ raw (emp 𝓤) ∷ []) ∵ split ! $ drop ! $ fsplit ! $
      handle_out ! d z.0.4.0 (λ h ws fh. either ! d.alloc d.at d.stream
      (λ ep ew. keep ! [] $
      let w = both (ptr_val null_ptr) h in
      by ! (subst (λ (us : List Val). ent 𝓤 (types.Kit.⋆ 𝓛 []) (WpFn 𝓤 H 𝓣.C 𝓣.Λ code.function (us ++ []) Post)) (sym (ws ∙ ap (λ p. both (ptr_val p) h ∷ []) ep))
      (qed 𝓛 [] ∵ enter ! 𝓣.C 𝓣.Λ code.function (w ∷ []) _ $
      alloc_all ! (λ ls. let Ev = env (code.function).locals ls in
      pass_all ! refl ((and_tt _ fh.0, (record { fits = lit< tt }, (fh.1, tt))), tt) $
      sets ! (of_opd ! (get_in ! (fld ! refl (stop !)) (sub ! 0 refl (whole !)))) refl (tt, record { fits = lit< tt }) $
      sets ! (of_opd ! (get_in ! (fld ! refl (stop !)) (sub ! 1 refl (whole !)))) refl fh $
      sets ! (bin ! (get ! refl) (lit ! tt) tt) refl (tt, tt) $ first ! $ branches ! (get ! refl)
      (λ _. sets_last ! (agg ! (and_then ! (lit ! tt) (no_more !))) refl (tt, (record { fits = lit< tt }, tt)) $
      exec ! 𝓣.C 𝓣.Λ Ev (after 4 (code.function).body) (at_ret Ev Post) $
      sets ! (of_opd ! (get ! refl)) refl (tt, (record { fits = lit< tt }, tt)) $
      use0 𝓛 (‵ (Out.own_val Nil (live 0 vnil ∷ []))) (none_of 𝓛 P) $ returns ! (look_at ! 0 refl) $ free_all ! refl $
      suffices ! _ (ends_at 𝓛 F.ended stayed (F.clauses 𝓛 at_mem run) z (live 0 vnil) Nil (tt, tt) (tt, tt)) $ says ! ew $
      nothing ! $ nothing ! $ fjoin ! $ join ! $ nothing ! $ join ! $ done !) (λ wrong. absurd wrong)))))
      (λ b o x ep ew te. keep ! (0 ∷ 1 ∷ []) $
      let w = word E h b o in
      let typed = box_typed E h b o fh in
      let v₁ : Val = live 1 (vcons w vnil) in
      let good : Good (layout Out) v₁ = (and_tt _ typed.0, (record { fits = lit< tt }, (typed.1, tt))) in
      let v : D E = record { ptr = block_ptr b o; alloc = d.alloc; value = x } in
      let made : P.Denot = record { ptr = block_ptr b o; alloc = d.alloc; value = x } in
      let Γ : List (Item 𝓤) = ‵ (Out.own_val (Some made) (v₁ ∷ [])) ∷ [] in
      fsplit ! $ box_in E ! v b o x refl refl $ use1 𝓛 (‵ (P.own_val made (w ∷ []))) (id⊢ 𝓤 _) $ use1 𝓛 (‵ (Out.own_val (Some made) (v₁ ∷ []))) (Some-of 𝓛 P made w) $
      by ! (subst (λ (us : List Val). ent 𝓤 (types.Kit.⋆ 𝓛 Γ) (WpFn 𝓤 H 𝓣.C 𝓣.Λ code.function (us ++ []) Post)) (sym (ws ∙ ap (λ p. both (ptr_val p) h ∷ []) ep))
      (qed 𝓛 Γ ∵ enter ! 𝓣.C 𝓣.Λ code.function (w ∷ []) _ $ alloc_all ! (λ ls. let Ev = env (code.function).locals ls in pass_all ! refl (typed, tt) $
      sets ! (of_opd ! (get_in ! (fld ! refl (stop !)) (sub ! 0 refl (whole !)))) refl (tt, tt) $ sets ! (of_opd ! (get_in ! (fld ! refl (stop !)) (sub ! 1 refl (whole !)))) refl fh $
      sets ! (bin ! (get ! refl) (lit ! tt) (tests_null (block_ptr b o) te)) refl (tt, tt) $ first ! $ branches ! (get ! refl) (λ wrong. absurd wrong) (λ _.
      sets ! (of_opd ! (get ! refl)) refl (tt, tt) $ sets ! (agg ! (and_then ! (get ! refl) (and_then ! (get ! refl) (no_more !)))) refl typed $
      sets_last ! (agg ! (and_then ! (lit ! tt) (and_then ! (get ! refl) (no_more !)))) refl good $
      exec ! 𝓣.C 𝓣.Λ Ev (after 4 (code.function).body) (at_ret Ev Post) $ sets ! (of_opd ! (get ! refl)) refl good $
      returns ! (look_at ! 0 refl) $ free_all ! refl $
      suffices ! _ (ends_at 𝓛 F.ended stayed (F.clauses 𝓛 at_mem run) z v₁ (Some made) (tt, tt) (tt, tt)) $ says ! ew $
      nothing ! $ nothing ! $ fjoin ! $ join ! $ nothing ! $ join ! $ done !))))))

pub into_raw_spec : {M : Type 1} → stated.statement M
unfolding tables_of
into_raw_spec 𝓤 𝓛 𝓜 𝓡 wired = let 𝓣 : Tables 𝓤 𝓛.H = tables_of 𝓤 𝓛.H 𝓜 (tables 𝓤 𝓛.H 𝓜 𝓡 𝓡.env) in
    entered 𝓤 𝓛.H (triple_of 𝓛 F.signature (F.spec 𝓛 𝓜.mem 𝓡.returns)) 𝓣.C 𝓣.Λ #self code.function (code.unfolded 𝓤 𝓛.H 𝓜 𝓡 wired)
    (walk_Meets 𝓛 F.ended stayed (Goes-dropped 𝓛 0 From yes (λ κs x f. refl), tt) (F.clauses 𝓛 𝓜.mem 𝓡.returns) (WpFn 𝓤 𝓛.H 𝓣.C 𝓣.Λ code.function) (WpFn-mono 𝓤 𝓛.H 𝓛.laws 𝓣 code.function)
    (walk 𝓛 𝓜.mem 𝓡.returns 𝓣))
