-- Handles: what a handle owns.
use Rattle.std.specs.Prelude.{◌≡◌, Option, None, Some}
use base.Fml.{Fml, ftrue, fex}
use base.Stored.{Coded}
use denote.RawPtr.{Ptr, null_ptr}
use Rattle.std.specs.Box.Ownership.{box_owns}
use Rattle.std.specs.Global.{Global}
use Rattle.std.specs.contracts.option.Option.{the_row as option_row}
use Rattle.std.specs.contracts.impls.GlobalAllocator.TheImpl.{ghosts}
use Rattle.unifdef_c.specs.contracts.stream.Stream.{the_row}

-- `handle_owns alloc p s`: `p` is null if there is no stream. Else the stream `s` is at `p`, in
-- memory that `alloc` may free.
abbrev pub handle_owns : Global → Ptr → Option the_row.Denot → Fml
handle_owns alloc p None = fex (p ≡ null_ptr) (λ _. ftrue)
handle_owns alloc p (Some s) = box_owns (ghosts.dealloc_token alloc) the_row p s

-- `stream_coded`: the form in a ghost field of a stream, or of none.
abbrev pub stream_coded : Coded (Option the_row.Denot)
stream_coded = (option_row the_row).coded
