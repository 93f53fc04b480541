-- The line is the text's prefix up to its first newline.
use Rattle.ud_text.proofs.lemmas.lines.FirstLineLemmas.{first_bytes, first_value, first_no_newline}
use Rattle.ud_text.proofs.lines.line_in.Goals as goal

pub returns-clause-bytes : goal.returns-clause-bytes
returns-clause-bytes c = (
  c.up_to_newline-taken.result.whole,
  first_bytes c.args.text.now c.split_ending.result.0.now c.split_ending.result.1.now c.up_to_newline-taken.result.used c.up_to_newline-taken.result.whole c.up_to_newline-taken.ensures c.split_ending.ensures.value,
)

pub returns-clause-value : goal.returns-clause-value
returns-clause-value c =
    first_value c.args.text.now c.split_ending.result.0.now c.split_ending.result.1.now c.up_to_newline-taken.result.used c.up_to_newline-taken.result.whole c.up_to_newline-taken.ensures c.split_ending.ensures.value c.args.number

pub returns-clause-one_line : goal.returns-clause-one_line
returns-clause-one_line c =
    first_no_newline c.args.text.now c.split_ending.result.0.now c.split_ending.result.1.now c.up_to_newline-taken.result.used c.up_to_newline-taken.result.whole c.up_to_newline-taken.ensures c.split_ending.ensures.value
