-- FaultEffects: the state of the output after a fault, and the result of a call.
use Rattle.std.specs.Prelude.{◌≡◌, ℕ, List, Bool, true, false, Result, Err}
use Rattle.ud_engine.specs.declared.fault.RunFault.{RunFault}
use Rattle.ud_engine.specs.declared.fault.RunFault.TheVariants.{Text, Section, Read, Write}
use Rattle.ud_io.specs.Watched.{WatchedState}

-- `OutputUnchanged old new buffered left f`: `f` is a fault of the text; the writer and the buffer
-- are unchanged.
abbrev pub OutputUnchanged : {W : Type 0} → WatchedState W → WatchedState W → List ℕ → List ℕ →
    RunFault → Type 0
OutputUnchanged old new buffered left (Section f) = (new ≡ old) × (left ≡ buffered)
OutputUnchanged old new buffered left (Text f) = (new ≡ old) × (left ≡ buffered)
OutputUnchanged old new buffered left Read = ⊥
OutputUnchanged old new buffered left Write = ⊥

-- `result_after failed ended`: the result of a call: `Write` if the writer has failed, else
-- `ended`, as its lines ended.
abbrev pub result_after : {T : Type 0} → Bool → Result T RunFault → Result T RunFault
result_after true ended = Err Write
result_after false ended = ended
