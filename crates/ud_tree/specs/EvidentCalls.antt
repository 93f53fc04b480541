-- EvidentCalls: the evidence for the answer of each call of a tree.
--
-- `L`, `C`, `rest` and `again` are the evidence (`Evidence`, `Opening`), and `contents` is what a
-- file that is written has so far.
use Rattle.std.specs.Prelude.{◌≡◌, ℕ, List, true, Option, IfSome, OnOk}
use Rattle.ud_replace.specs.Calls.{Call, was_read, asked, made, appended, given, synced, looked}
use Rattle.ud_replace.specs.Calls.{renamed, overwrote, removed, sampled, walked}
use Rattle.ud_replace.specs.Calls.{WalkCall, met, followed, listed}
use Rattle.ud_replace.specs.declared.node.Sample.TheVariants.{Unread}
use Rattle.ud_tree.specs.Changing.{GivesMode, GivesOwner, HasBytes}
use Rattle.ud_tree.specs.Creating.{IsNew}
use Rattle.ud_tree.specs.Evidence.{Changing, Looking}
use Rattle.ud_tree.specs.Meeting.{At}
use Rattle.ud_tree.specs.Naming.{IsListed, IsMet, IsRenamed, LeadsToDirectory}
use Rattle.ud_tree.specs.Opening.{HasRead, IsFound, OpensToWrite}
use Rattle.ud_tree.specs.Sampling.{IsSampled}

-- `IsEvidentWalk L w`: there is evidence for the answer of a walk's call, unless it failed.
abbrev pub IsEvidentWalk : {F N : Type 0} → Looking F N → WalkCall → Type 0
IsEvidentWalk L (met path answer) = IsMet L path answer
IsEvidentWalk L (followed path leads) =
    leads ≡ true → At L path (LeadsToDirectory L true)
IsEvidentWalk L (listed directory names done) = done ≡ true → IsListed L directory names

-- `IsEvident L C rest again contents c`: there is evidence for the answer of the call `c`, unless
-- it failed.
abbrev pub IsEvident : {F N O W : Type 0} → Looking F N → Changing O W →
    (F → Option (List ℕ)) → (O → Option (List ℕ)) → (O → Option (List ℕ)) → Call → Type 0
IsEvident L C rest again contents (was_read name text answer) =
    IfSome answer (λ stat. At L name (λ place. HasRead L C rest again place text stat))
IsEvident {O = O} L C rest again contents (asked name may) =
    may ≡ true → At L name (λ place. (file : O) × OpensToWrite L C place file)
IsEvident {W = W} L C rest again contents (made name answer) =
    OnOk answer (At L name (λ place. (file : W) × IsNew C place file))
IsEvident {W = W} L C rest again contents (appended name bytes answer) =
    IfSome answer (λ count. (old : W) × (new : W) × C.appends old bytes count new)
IsEvident {W = W} L C rest again contents (given name like done) =
    done ≡ true → (old : W) × (new : W) × GivesOwner C like old new × GivesMode C like new
IsEvident {W = W} L C rest again contents (synced name done) =
    done ≡ true → (file : W) × C.syncs_new file
IsEvident L C rest again contents (looked name answer) =
    IfSome answer (λ stat. At L name (λ place. IsFound L place stat))
IsEvident L C rest again contents (renamed from to done) = done ≡ true → IsRenamed L C from to
IsEvident {O = O} L C rest again contents (overwrote name text done) =
    done ≡ true → (file : O) × HasBytes C contents text file
IsEvident L C rest again contents (removed name done) = done ≡ true → At L name C.removes
IsEvident L C rest again contents (sampled name text answer) =
    ¬ (answer ≡ Unread) → At L name (λ place. IsSampled L rest place text answer)
IsEvident L C rest again contents (walked w) = IsEvidentWalk L w
