-- Decisions: what a call from C returns for one expression.
use Rattle.std.specs.Prelude.{◌≡◌, ◌⊎◌, ℕ, ℤ, pos, negsuc, ◌<◌, ◌≤◌, List, length, nat_le}
use Rattle.std.specs.Prelude.{None, if◌then◌else◌}
use Rattle.ud_model.specs.answer.CommandLine.{usage_fault, options_of}
use Rattle.ud_model.specs.conditions.Conditions.{condition_of}
use Rattle.ud_model.specs.conditions.Names.{names_of}
use Rattle.ud_model.specs.sections.Items.{rules_of}
use Rattle.ud_model.specs.declared.cond.Cond.{Cond}
use Rattle.ud_model.specs.declared.cond.Cond.TheVariants.{Yes, No, Unknown}
use Rattle.ud_model.specs.declared.kind.Kind.TheVariants.{If}
use Rattle.ud_model.specs.declared.limits.TheConstants.{MAX_LINE_BYTES}
use Rattle.unifdef_c.specs.Words.{words_of, block_of, AreUtf8}
use Rattle.unifdef_c.specs.CallFaults.{IsCallFault, code}
use Rattle.unifdef_c.specs.TextCalls.{overwritten}
use Rattle.unifdef_c.specs.declared.fault.CallFault.{CallFault}

-- `cond_by args text`: the condition of the expression `text` by the options of `args`.
abbrev pub cond_by : List (List ℕ) → List ℕ → Cond
cond_by args text =
    (condition_of If text (options_of args).table (rules_of (options_of args).settings)).cond

-- `Decides args text cond`: the arguments have no fault, and `cond` is the condition of `text`.
abbrev pub Decides : List (List ℕ) → List ℕ → Cond → Type 0
Decides args text cond = (usage_fault args ≡ None) × (cond_by args text ≡ cond)

-- `as_int c`: the number of the condition `c`.
abbrev pub as_int : Cond → ℤ
as_int No = pos 0
as_int Yes = pos 1
as_int Unknown = pos 2

-- `IsDecision block text n`: `n` is the number of the condition of the expression `text` by the
-- words of `block`, or says why there is none. An expression may be longer than a line.
pub data IsDecision (block text : List ℕ) : ℤ → Type 0 where
  decided : (c : Cond) → AreUtf8 (words_of block) → length text ≤ MAX_LINE_BYTES →
      Decides (words_of block) text c → IsDecision block text (as_int c)
  refused : (f : CallFault) → IsCallFault block f → length text ≤ MAX_LINE_BYTES →
      IsDecision block text (code f)
  too_long : MAX_LINE_BYTES < length text → IsDecision block text (negsuc 2)

-- The names of the expression, each with a zero byte after it.
abbrev pub names_block : List ℕ → List ℕ
names_block text = block_of (names_of If text)

-- `WritesNames text block block' size' n`: what fits of the names, and their length, were written.
pub record WritesNames (text block block' : List ℕ) (size' : ℕ) (n : ℤ) : Type 0 where
  pub fits : length text ≤ MAX_LINE_BYTES
  pub written : block' ≡ overwritten block (names_block text)
  pub measured : size' ≡ length (names_block text)
  pub returned : n ≡ pos (if nat_le (length (names_block text)) (length block) then 0 else 3)

-- `NamesAnswer text block block' size size' n`: `WritesNames`. Or memory was refused, or the
-- expression is longer than a line, and nothing was written.
abbrev pub NamesAnswer : List ℕ → List ℕ → List ℕ → ℕ → ℕ → ℤ → Type 0
NamesAnswer text block block' size size' n = WritesNames text block block' size' n ⊎
    ((block' ≡ block) × (size' ≡ size) × ((n ≡ negsuc 1) × (length text ≤ MAX_LINE_BYTES) ⊎
    (n ≡ negsuc 2) × (MAX_LINE_BYTES < length text)))
