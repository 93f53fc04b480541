use Rattle.std.proofs.Common.{arith}
use Rattle.std.proofs.lemmas.Option.{slice_get_read, slice_get_past, slice_get-map}
use Rattle.ud_args.proofs.OperandLemmas.{named}
use Rattle.ud_args.proofs.parse.operand_in.Goals as goal

-- the index of an operand is that of an argument
pub returns-in_err-get : goal.returns-in_err-get
returns-in_err-get c = grind (arith, named, slice_get_past, slice_get-map)

pub returns : goal.returns
returns c = grind (arith, named, slice_get_read, slice_get-map)
