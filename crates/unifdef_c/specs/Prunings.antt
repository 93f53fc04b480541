-- Prunings: what a call from C returns for a text without the operands that words decide.
use Rattle.std.specs.Prelude.{◌≡◌, ◌==◌, ℕ, ℤ, pos, List, length, nat_le}
use Rattle.std.specs.Prelude.{None, if◌then◌else◌}
use Rattle.ud_model.specs.answer.CommandLine.{usage_fault, options_of}
use Rattle.ud_model.specs.sections.Items.{rules_of}
use Rattle.ud_passes.specs.pruning.PrunedTexts.{pruned_text, edited_count}
use Rattle.ud_passes.specs.declared.pruning.texts.Pruned.{Pruned}
use Rattle.unifdef_c.specs.Words.{words_of, AreUtf8}
use Rattle.unifdef_c.specs.TextCalls.{overwritten}
use Rattle.unifdef_c.specs.CallFaults.{IsCallFault, code}
use Rattle.unifdef_c.specs.declared.fault.CallFault.{CallFault}

-- `text_left args text`: what the options of `args` leave of the text.
abbrev pub text_left : List (List ℕ) → List ℕ → List ℕ
text_left args text =
    pruned_text (options_of args).table (rules_of (options_of args).settings) text

-- `edited_by args text`: how many lines of the text are edited by these options.
abbrev pub edited_by : List (List ℕ) → List ℕ → ℕ
edited_by args text =
    edited_count (options_of args).table (rules_of (options_of args).settings) text

-- `IsPrunedBy args text p`: the arguments have no fault, and `p` is what they leave of the text.
pub record IsPrunedBy (args : List (List ℕ)) (text : List ℕ) (p : Pruned) : Type 0 where
  pub no_fault : usage_fault args ≡ None
  pub left : p.text.items ≡ text_left args text
  pub edited : p.edited ≡ edited_by args text

-- `HandsOutPruned text edited output output' size n`: `text` was written to `output`, as far as it
-- fits. Its length is `size`, and `n` says whether it fits and whether lines were edited.
pub record HandsOutPruned (text : List ℕ) (edited : ℕ) (output output' : List ℕ) (size : ℕ)
    (n : ℤ) : Type 0 where
  pub written : output' ≡ overwritten output text
  pub measured : size ≡ length text
  pub returned : n ≡ pos (if nat_le (length text) (length output) then (if edited == 0 then 0
      else 1) else 3)

-- `PruneAnswer block text output output' size size' n`: what the words of `block` leave of the text
-- was handed out; or nothing was written, and `n` says why.
pub data PruneAnswer (block text output output' : List ℕ) (size size' : ℕ) : ℤ → Type 0 where
  pruned : (n : ℤ) → AreUtf8 (words_of block) → usage_fault (words_of block) ≡ None →
      HandsOutPruned (text_left (words_of block) text) (edited_by (words_of block) text) output
      output' size' n → PruneAnswer block text output output' size size' n
  refused : (f : CallFault) → IsCallFault block f → output' ≡ output → size' ≡ size →
      PruneAnswer block text output output' size size' (code f)
