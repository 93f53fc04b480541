-- ToolCall: one call of the tool.
--
-- What a stream gives or contains is `None` if the stream doesn't report it.
use Rattle.std.specs.Prelude.{ℕ, List, Bool, Option}
use Rattle.ud_io.specs.Watched.{WatchedState}

-- `Call R W`: a call of the tool with a reader `R` and an output `W`.
pub record Call (R W : Type 0) : Type 0 where
  pub args : List (List ℕ)
  pub old_reader : WatchedState R
  pub new_reader : WatchedState R
  pub old_out : WatchedState W
  pub new_out : WatchedState W
  -- The bytes that the reader gives from before the call on, and from after it on.
  pub input : Option (List ℕ)
  pub rest : Option (List ℕ)
  -- The contents of the output.
  pub old_output : Option (List ℕ)
  pub new_output : Option (List ℕ)
  -- The contents of the error stream, and whether it has failed.
  pub old_message : Option (List ℕ)
  pub new_message : Option (List ℕ)
  pub err_failed : Bool
  pub status : ℕ

-- `call_of remaining contents reported args reader reader' out out' err err' status`: the call with
-- these arguments, these streams before and after it, and this status.
abbrev pub call_of : {R W E : Type 0} → (R → Option (List ℕ)) → (W → Option (List ℕ)) →
    (E → Option (List ℕ)) → List (List ℕ) → WatchedState R → WatchedState R → WatchedState W →
    WatchedState W → WatchedState E → WatchedState E → ℕ → Call R W
call_of remaining contents reported args reader reader' out out' err err' status = record {
  args = args;
  old_reader = reader;
  new_reader = reader';
  old_out = out;
  new_out = out';
  input = remaining reader.inner;
  rest = remaining reader'.inner;
  old_output = contents out.inner;
  new_output = contents out'.inner;
  old_message = reported err.inner;
  new_message = reported err'.inner;
  err_failed = err'.failed;
  status = status;
}
