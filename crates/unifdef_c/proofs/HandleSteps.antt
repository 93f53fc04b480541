-- HandleSteps: a handle as its machine value, and the two cases of what it owns. Assumes `Logic`.
use Rattle.std.proofs.Common.{◌≡◌, ℕ, List, [], ◌∷◌, ◌++◌, refl, subst}
use Rattle.std.specs.Prelude.{Option, None, Some}
use seplogic.Ra.Ura.{Ura}
use mir.Raw.{raw as bare}
use mir.Val.{Val, vstruct, vcons, vnil, of_list}
use base.Fraction.{full_share}
use base.Logic.{ent, guard, never, fst∗, snd∗, via, guard_i}
use types.Logic.{Logic, sem}
use types.Kit.{Item, Goal, Seq, Step, step, ‵, ◌$◌, given, learn, use1, move, drop, fsplit, fjoin, fpick, fpack, feq_l, feq_i}
use contract.Monad.{fact_use}
use base.Fml.{ftrue}
use denote.RattleType.{RattleType, Valss}
use denote.Builtin.{RawPtr}
use denote.Steps.{nothing}
use denote.Struct.Struct.{within}
use denote.Struct.Owning.{shape}
use denote.Memory.{lone}
use denote.RawPtr.{Ptr, block_ptr, null_ptr, ptr_val, in_a_block, lies_at, Testable}
use denote.Param.{layout}
use Rattle.std.proofs.alloc.Calls.{handle_tells}
use Rattle.std.proofs.cell.Inside.{Good}
use Rattle.std.proofs.GlobalToken.{dealloc_token-Testable}
use Rattle.std.specs.Global.{Global}
use Rattle.std.specs.Box.Ownership.{box_owns}
use Rattle.std.specs.contracts.alloc.Global as heap
use Rattle.std.specs.contracts.impls.GlobalAllocator.TheImpl.{ghosts}
use Rattle.unifdef_c.specs.contracts.stream.Stream as stream
use Rattle.unifdef_c.specs.contracts.handle.Handle as handle
use Rattle.unifdef_c.specs.Handles.{handle_owns}
use Rattle.unifdef_c.proofs.HandleBox.{E}

abbrev pub W : RattleType
W = stream.the_row

abbrev pub Z : RattleType
Z = heap.the_row

abbrev pub both : Val → Val → Val
both v w = vstruct (vcons v (vcons w vnil))

abbrev boxed : Global → Ptr → W.Denot → base.Fml.Fml
boxed a = box_owns (ghosts.dealloc_token a) W

module _ {M : Type 1} {𝓤 : Ura M} (𝓛 : Logic 𝓤) where
  tested : (a : Global) (p : Ptr) (x : W.Denot) → ent 𝓤 (sem 𝓛 (boxed a p x)) (guard 𝓤 (Testable p) (sem 𝓛 (boxed a p x)))
  tested a p x = fact_use 𝓤 (Testable p)
      (via 𝓤 _ (snd∗ 𝓤 (sem 𝓛 (lies_at W full_share p x)) (sem 𝓛 (ghosts.dealloc_token a (bare (lone W.mir)) p))) (dealloc_token-Testable 𝓛 a (bare (lone W.mir)) p))
      (guard_i 𝓤 (Testable p) (sem 𝓛 (boxed a p x)))

module _ {M : Type 1} {𝓤 : Ura M} {𝓛 : Logic 𝓤} {K : Type 0} {Γ : List (Item 𝓤)} {G : Goal 𝓤 𝓛.H} where
  -- a handle is a pointer, what it owns and an allocator
  pub handle_out : K → (d : handle.the_row.Denot) (vs : List Val)
      → ((h : Val) → vs ≡ both (ptr_val d.at) h ∷ [] → Good (layout Z) h → Seq K 𝓛 (‵ (handle_owns d.alloc d.at d.stream) ∷ ‵ (Z.own_val d.alloc (h ∷ [])) ∷ Γ) G)
      → Seq K 𝓛 (‵ (handle.the_row.own_val d vs) ∷ Γ) G
  handle_out t d vs k =
      fsplit t $ fpick t (λ vss. fsplit t $ feq_l t (λ ev. fsplit t $ feq_l t (λ ep. fsplit t $ handle_tells E.al t d.alloc vss.1.0 (λ h ea fits. move t (1 ∷ []) $ drop t $ move t (1 ∷ []) $ k h
      (subst (λ (ws : List Val). vs ≡ vstruct (of_list (ptr_val d.at ∷ (ws ++ []))) ∷ []) ea (subst (λ (ps : List Val). vs ≡ vstruct (of_list (ps ++ (vss.1.0 ++ []))) ∷ []) ep ev)) fits))))

  -- a handle is null and owns nothing, or owns a box
  pub either : K → (a : Global) (p : Ptr) (w : Option W.Denot) → (p ≡ null_ptr → w ≡ None → Seq K 𝓛 Γ G)
      → ((b o : ℕ) (x : W.Denot) → p ≡ block_ptr b o → w ≡ Some x → Testable (block_ptr b o) → Seq K 𝓛 (‵ (boxed a (block_ptr b o) x) ∷ Γ) G)
      → Seq K 𝓛 (‵ (handle_owns a p w) ∷ Γ) G
  either t a p None none one = fpick t (λ e. drop t $ none e refl)
  either t a p (Some x) none one =
      in_a_block t p (λ q. boxed a q x) (fst∗ 𝓤 (never 𝓤) (sem 𝓛 (ghosts.dealloc_token a (bare (lone W.mir)) null_ptr))) (λ b o e.
      use1 𝓛 (given (Testable (block_ptr b o)) (‵ (boxed a (block_ptr b o) x))) (tested 𝓛 a (block_ptr b o) x) $ learn t (λ te. one b o x e refl te))

  -- a handle without a box is made of an allocator
  pub null_in : K → (h : Val) (a : Global)
      → Step K 𝓛 (‵ (handle.the_row.own_val (record { at = null_ptr; alloc = a; stream = None }) (both (ptr_val null_ptr) h ∷ [])) ∷ Γ) G (‵ (Z.own_val a (h ∷ [])) ∷ Γ) G
  null_in t h a = step (λ s. let v : Val = both (ptr_val null_ptr) h in
      nothing t $ fpack t (null_ptr ≡ null_ptr) (λ _. ftrue) refl $ nothing t $ move t (2 ∷ 0 ∷ []) $ fjoin t $ feq_i t (List Val) (ptr_val null_ptr ∷ []) (ptr_val null_ptr ∷ []) refl $ fjoin t $
      feq_i t (List Val) (v ∷ []) (v ∷ []) refl $ fjoin t $
      fpack t (Valss (RawPtr ∷ Z ∷ []))
      (within (shape handle.the_type) (null_ptr, (((a.memory.seal, tt), tt), tt)) (v ∷ []))
      (ptr_val null_ptr ∷ [], (h ∷ [], tt)) $
      fjoin t $ s)
