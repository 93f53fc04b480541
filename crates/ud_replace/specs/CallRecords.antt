-- CallRecords: the calls that code hands to a history.
use Rattle.std.specs.Prelude.{map}
use Rattle.ud_replace.specs.declared.call.DirectoryWalk.{DirectoryWalk}
use Rattle.ud_replace.specs.declared.call.DirectoryWalk.TheVariants.{Met, Followed, Listed}
use Rattle.ud_replace.specs.declared.call.DirectoryCall.{DirectoryCall}
use Rattle.ud_replace.specs.declared.call.DirectoryCall.TheVariants.{Read, OpenToWrite, Create}
use Rattle.ud_replace.specs.declared.call.DirectoryCall.TheVariants.{Append, SetModeAndOwner, Sync}
use Rattle.ud_replace.specs.declared.call.DirectoryCall.TheVariants.{Look, Rename, Overwrite}
use Rattle.ud_replace.specs.declared.call.DirectoryCall.TheVariants.{Remove, Sample, Walk}
use Rattle.ud_replace.specs.Calls.{Call, was_read, asked, made, appended, given, synced, looked}
use Rattle.ud_replace.specs.Calls.{renamed, overwrote, removed, sampled, walked}
use Rattle.ud_replace.specs.Calls.{WalkCall, met, followed, listed}

-- `walk_call_of w`: the same call, with the bytes that `w` refers to.
abbrev pub walk_call_of : DirectoryWalk → WalkCall
walk_call_of (Met path answer) = met path.now answer
walk_call_of (Followed path answer) = followed path.now answer
walk_call_of (Listed directory names answer) =
    listed directory.now (map (λ n. n.items) names.now) answer

-- `call_of c`: the same call, with the bytes that `c` refers to.
abbrev pub call_of : DirectoryCall → Call
call_of (Read name text answer) = was_read name.now text.now answer
call_of (OpenToWrite name answer) = asked name.now answer
call_of (Create name answer) = made name.now answer
call_of (Append name bytes answer) = appended name.now bytes.now answer
call_of (SetModeAndOwner name like answer) = given name.now like answer
call_of (Sync name answer) = synced name.now answer
call_of (Look name answer) = looked name.now answer
call_of (Rename from to answer) = renamed from.now to.now answer
call_of (Overwrite name text answer) = overwrote name.now text.now answer
call_of (Remove name answer) = removed name.now answer
call_of (Sample name text answer) = sampled name.now text.now answer
call_of (Walk w) = walked (walk_call_of w)
