-- WalkWords: what a walk through the code of a handle or a box is written with.
pub use Rattle.std.specs.Prelude.{None, Some}
pub use Rattle.std.proofs.Common.{List, [], ◌∷◌, ◌++◌, refl, sym, subst, lit<, ap, ◌∙◌}
pub use seplogic.Ra.Ura.{Ura}
pub use mir.Val.{Val, vcons, vnil, vstruct, of_list, vptr, has_ty, WT}
pub use base.Logic.{SProp, ent, emp, id⊢, never, fst∗}
pub use base.Fml.{ftrue, fsep, flft}
pub use prog.Memory.{Memory}
pub use prog.Routine.{Routine}
pub use prog.Wp.{WpFn, Tables}
pub use types.Logic.{Logic, sem}
pub use contract.Monad.{Fun, fact}
pub use sound.WpLaws.{WpFn-mono, fm_of}
pub use types.Kit.{Item, ‵, raw, ◌⊛◌, at_ret, ◌$◌, ◌∵◌, !, qed, by, move, keep, drop, use0, use1, join, split, fsplit, fjoin, suffices, done, some, later, split3, pick, rewrite, fpick, feq_l, await, feq_i}
pub use types.Part.{agg, whole, sub}
pub use types.Run.{lit, no_more, and_then, returns, enter, stop, fld, of_opd, bin, first, branches, exec, blocks}
pub use types.ByLocal.{alloc_all, pass_all, free_all, look_at, get, sets, get_in, sets_last, env, lands_as, lands_last}
pub use denote.Exit.{yes, no}
pub use denote.RawPtr.{null_ptr, ptr_val, block_ptr, tests_null, Ptr, RawPtr, in_a_block}
pub use denote.Signature.{Slot, plain, type_at}
pub use Rattle.std.proofs.alloc.Calls.{handle_tells, token, Goes-blank}
pub use denote.Steps.{nothing, heard, only}
pub use denote.Triple.Spec.{triple_of}
pub use denote.Triple.Table.{entered}
pub use denote.Triple.Walked.{says, Stays, stay_dropped, walk_of, ends_at, Goes-dropped, walk_Meets}
pub use Rattle.std.proofs.cell.Inside.{Good}
pub use denote.Param.{layout, bounded}
pub use Rattle.std.proofs.ResultValues.{and_tt}
pub use mathlib.Core.Path.{◌≡◌}
pub use Rattle.std.proofs.BoxSteps.Form.{D, B, word, box_typed, Bx, τ, R, P, args, box_ty}
pub use Rattle.std.proofs.BoxSteps.Steps.{box_out, box_in}
pub use denote.RattleType.{RattleType}
pub use mir.Syntax.{Fn, Args, Dict, a_type, dcons, dnil, Body, place, copy, assign, rv_opd, seq, return}
pub use mir.MapTy.{inst_fn}
pub use contract.BorrowLft.{◌⊑◌}
pub use denote.Triple.Call.{calls_at, calls_at_last}
pub use denote.Triple.Clauses.{Ended, Clauses}
pub use denote.Triple.Statement.{Triple, Contract}
pub use Rattle.std.specs.Box.Ownership.{box_owns}
