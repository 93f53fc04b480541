-- StreamCalls: what the calls from C do for a text that comes in chunks.
--
-- A handle is the stream that it owns, or `None` if it is closed.
use Rattle.std.specs.Prelude.{◌≡◌, ℕ, ℤ, pos, negsuc, List, length, nat_le, Option, None, Some}
use Rattle.std.specs.Prelude.{Bool, Result, Err, if◌then◌else◌}
use Rattle.ud_model.specs.answer.Messages.{out_of_memory}
use Rattle.ud_model.specs.declared.settings.Settings.{Settings}
use Rattle.ud_engine.specs.declared.fault.RunFault.{RunFault}
use Rattle.ud_engine.specs.declared.fault.RunFault.TheVariants.{Write}
use Rattle.unifdef.specs.RunMessages.{result_message, result_status}
use Rattle.unifdef_c.specs.Words.{words_of, AreUtf8}
use Rattle.unifdef_c.specs.CallFaults.{IsCallFault, code}
use Rattle.unifdef_c.specs.TextCalls.{overwritten}
use Rattle.unifdef_c.specs.Streams.{BeginsStream, FeedsStream, TakesStream, EndsStream, pending}
use Rattle.unifdef_c.specs.declared.stream.Stream.{Stream}
use Rattle.unifdef_c.specs.declared.fault.CallFault.{CallFault}
use Rattle.unifdef_c.specs.declared.stream.Fed.{Fed}
use Rattle.unifdef_c.specs.declared.stream.Fed.TheVariants as is

-- `OpensStream block s`: `s` is a stream before the first byte, by the words of `block`.
abbrev pub OpensStream : List ℕ → Stream → Type 0
OpensStream block s = AreUtf8 (words_of block) × BeginsStream (words_of block) s

-- `OpensHandle block h n`: `h` has a stream by the words of `block`, and `n` is 0. Or it has none,
-- and `n` says why.
pub data OpensHandle (block : List ℕ) : Option Stream → ℤ → Type 0 where
  opened : (s : Stream) → OpensStream block s → OpensHandle block (Some s) (pos 0)
  refused : (f : CallFault) → IsCallFault block f → OpensHandle block None (code f)

-- `as_int fed`: the number for the effect of a chunk.
abbrev pub as_int : Fed → ℤ
as_int is.Accepted = pos 0
as_int is.Faulty = pos 2
as_int is.OutOfMemory = negsuc 1
as_int is.Ended = negsuc 3

-- `FeedsHandle h h' chunk n`: the stream of `h` was fed `chunk` (`FeedsStream`). A closed handle
-- stays closed, and `n` is -4.
pub data FeedsHandle (chunk : List ℕ) : Option Stream → Option Stream → ℤ → Type 0 where
  fed : (s t : Stream) (f : Fed) → FeedsStream s t chunk f →
      FeedsHandle chunk (Some s) (Some t) (as_int f)
  is_closed : FeedsHandle chunk None None (negsuc 3)

-- `TakesHandle buffer buffer' left count h h'`: what fits of the pending output of `h` was written
-- to `buffer` (`TakesStream`), and `left` bytes stay pending. A closed handle has no output.
pub data TakesHandle (buffer buffer' : List ℕ) (left count : ℕ) : Option Stream → Option Stream →
    Type 0 where
  taken : (s t : Stream) → TakesStream s t buffer buffer' count → left ≡ length (pending t) →
      TakesHandle buffer buffer' left count (Some s) (Some t)
  is_closed : buffer' ≡ buffer → left ≡ 0 → count ≡ 0 →
      TakesHandle buffer buffer' left count None None

-- `Tells bytes status message message' size' n`: `bytes` were written to `message`, as far as they
-- fit, `size'` is their length, and `n` is the status, or 3 if they don't fit.
pub record Tells (bytes : List ℕ) (status : ℕ) (message message' : List ℕ) (size' n : ℕ) : Type 0
  where
    pub written : message' ≡ overwritten message bytes
    pub measured : size' ≡ length bytes
    pub returned : n ≡ if nat_le (length bytes) (length message) then status else 3

-- `TellsEnd name settings r message message' size' n`: the message and the status of the result `r`
-- of a text named `name` were handed out. Or memory was refused, as it was before the error
-- `Write`, and the message and status for that were.
pub data TellsEnd (name : List ℕ) (settings : Settings) (r : Result Bool RunFault)
    (message message' : List ℕ) (size' n : ℕ) : Type 0 where
  by_result : ¬ (r ≡ Err Write) →
      Tells (result_message name r) (result_status settings r) message message' size' n →
      TellsEnd name settings r message message' size' n
  no_memory : Tells out_of_memory 2 message message' size' n →
      TellsEnd name settings r message message' size' n

-- `EndsHandle message message' size size' h h' n`: the text of the stream of `h` has ended
-- (`EndsStream`), and its message and status were handed out. A closed handle stays closed, nothing
-- is written, and `n` is -4.
pub data EndsHandle (message message' : List ℕ) (size size' : ℕ) : Option Stream → Option Stream →
    ℤ → Type 0 where
  ended : (s t : Stream) (r : Result Bool RunFault) (n : ℕ) → EndsStream s t r →
      TellsEnd t.name.items t.settings r message message' size' n →
      EndsHandle message message' size size' (Some s) (Some t) (pos n)
  is_closed : message' ≡ message → size' ≡ size →
      EndsHandle message message' size size' None None (negsuc 3)
