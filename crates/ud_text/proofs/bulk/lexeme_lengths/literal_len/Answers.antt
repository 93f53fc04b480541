-- Bytes up to one that ends the literal or escapes the next byte, and then that one.
use Rattle.std.proofs.Common.{◌+◌, arith, ne_eqb, eq-eqb}
use Rattle.ud_text.proofs.lemmas.bulk.StepLemmas.{literal_run, literal_backslash, literal_two, literal_ends, literal_line_ends}
use Rattle.ud_text.proofs.bulk.lexeme_lengths.literal_len.Goals as goal

pub returns-then-rest-end-clause-read : goal.returns-then-rest-end-clause-read
returns-then-rest-end-clause-read c = λ white.
    literal_ends c.args.rest.now c.args.quote (c.loop-at.at + c.find_any_of.result) (omega arith) c.requires.quote (eq-eqb _ _ c.if-rest-end.true) white
    (literal_run c.args.rest.now c.args.quote c.loop-at.at c.find_any_of.result c.find_any_of.ensures.value white (c.loop-at.invariant.read white))

pub loop-at-preserved : goal.loop-at-preserved
loop-at-preserved c = record {
  low = omega arith;
  within = omega arith;
  read = λ white.
      literal_two c.args.rest.now c.args.quote (c.loop-at.at + c.find_any_of.result) (omega arith) c.requires.quote
      (literal_backslash c.args.rest.now c.args.quote c.loop-at.at c.find_any_of.result c.find_any_of.ensures.value (omega arith)
      (ne_eqb _ 10 c.if-rest-end-eq10.false) (ne_eqb _ _ c.if-rest-end.false)) (ne_eqb _ 10 c.if-rest-end-eq10-2.false) white
      (literal_run c.args.rest.now c.args.quote c.loop-at.at c.find_any_of.result c.find_any_of.ensures.value white (c.loop-at.invariant.read white));
}

pub returns-then-rest-end-eq10-clause-read : goal.returns-then-rest-end-eq10-clause-read
returns-then-rest-end-eq10-clause-read c = λ white.
    literal_line_ends c.args.rest.now c.args.quote (c.loop-at.at + c.find_any_of.result) (omega (arith, c.loop-at.invariant.low)) (omega arith) (eq-eqb _ 10 c.if-rest-end-eq10.true)
    (ne_eqb _ 92 c.if-rest-end-eq92.false) (ne_eqb _ 13 c.if-rest-end-eq13.false) white
    (literal_run c.args.rest.now c.args.quote c.loop-at.at c.find_any_of.result c.find_any_of.ensures.value white (c.loop-at.invariant.read white))
