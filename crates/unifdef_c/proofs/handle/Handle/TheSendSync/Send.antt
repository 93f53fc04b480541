-- A handle says the same to every thread: what it owns is a box of a stream, or nothing.
use Rattle.std.proofs.Common.{arith}
use Rattle.std.specs.Prelude.{None, Some, Option}
use base.Fraction.{full_share}
use base.Shift.{Keyless}
use mir.Raw.{raw}
use denote.Exit.{Exit, unchanged, leaves, hidden, under}
use denote.RattleType.{RattleType}
use denote.Memory.{lone}
use denote.RawPtr.{Ptr, block_ptr, null_ptr, lies_at}
use denote.Struct.Owning.{to}
use denote.Param.Send.{IsSend, Quiet, part_keyless}
use Rattle.std.specs.Global.{Global}
use Rattle.std.proofs.Crossing as heap
use Rattle.unifdef_c.specs.Handles.{handle_owns}
use Rattle.unifdef_c.specs.contracts.stream.Stream as stream
use Rattle.unifdef_c.proofs.stream.Stream.TheSendSync.{the_send as stream_send}
use Rattle.unifdef_c.specs.contracts.handle.Handle.{the_row}

-- as std has these two for its own types
quiet : {D X : Type 0} (to : D → X) (e : Exit X) → Quiet e → Quiet (hidden (under to e))
quiet to unchanged q = λ x w. tt
quiet to (leaves L l S s r₀) q = λ d. q (to d)

lies : (R : RattleType) → IsSend R → (p : Ptr) (x : R.Denot) → Keyless (lies_at R full_share p x)
lies R s (block_ptr b o) x = part_keyless R s full_share x b o
lies R s null_ptr x = tt

owned_keyless : (a : Global) (p : Ptr) (s : Option stream.the_row.Denot) → Keyless (handle_owns a p s)
owned_keyless a p None = λ _. tt
owned_keyless a p (Some s) = (lies stream.the_row stream_send p s, heap.frees.frees a (raw (lone stream.the_row.mir)) p)

pub send : IsSend the_row
send = grind (arith, owned_keyless, quiet)
