-- HandleBox: a handle and the parts of a box own what a box owns.
use Rattle.std.proofs.Common.{[]}
use mir.Syntax.{impl, tnil, dnil}
use denote.Signature.{Slot, plain}
use Rattle.std.proofs.BoxSteps.Form.{Bx}
use Rattle.std.specs.contracts.alloc.Global as heap
use Rattle.std.specs.contracts.impls.GlobalAllocator.TheImpl.{ghosts, dict}
use Rattle.std.proofs.alloc.Global.TheLaws as heap_laws
use Rattle.unifdef_c.specs.contracts.stream.Stream as stream
use Rattle.unifdef_c.proofs.stream.Stream.TheLaws as stream_laws
use Rattle.unifdef_c.specs.contracts.raw_box.RawBox as raw_box
use Rattle.unifdef_c.specs.contracts.handle.Handle as handle

-- a box of a `Stream`
abbrev pub E : Bx
E = record {
  row = stream.the_row;
  laws = stream_laws.the_row_laws;
  al = record { row = heap.the_row; laws = heap_laws.the_row_laws; g = ghosts; d = dict; drops = impl [] tnil dnil };
}

abbrev pub FromRaw : Slot 0
FromRaw = plain (λ _. raw_box.the_row stream.the_row heap.the_row ghosts)

abbrev pub FromHandle : Slot 0
FromHandle = plain (λ _. handle.the_row)
