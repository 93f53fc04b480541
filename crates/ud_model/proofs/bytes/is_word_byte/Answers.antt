use Rattle.std.proofs.Common.{arith, refl}
use Rattle.ud_model.specs.declared.bytes.TheConstants.{WORD_BYTES}
use Rattle.ud_model.specs.text.Bytes.{is_word_byte}
use Rattle.ud_model.proofs.text.ByteTables.{agree_below, from_table}
use Rattle.ud_model.proofs.bytes.is_word_byte.Goals as goal

pub returns : goal.returns
unfolding agree_below
returns c = from_table WORD_BYTES 46 is_word_byte c.args.byte (omega arith) refl
