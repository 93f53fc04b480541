-- Bytes up to a newline or a slash, and then that one.
use Rattle.std.proofs.Common.{◌≡◌, ◌≤◌, ℕ, Bool, ◌+◌, take, false, arith, ne_eqb, sym, ◌∙◌, subst}
use Rattle.ud_text.proofs.lemmas.bulk.LexemeLemmas.{spliced_by}
use Rattle.ud_text.proofs.lemmas.bulk.QuotedLemmas.{QuotedTo, quoted_star, quoted_shut, quoted_more, quoted_line, unspliced_last, unspliced_return}
use Rattle.ud_text.proofs.bulk.lexeme_lengths.quoted_line_len.Goals.{
  else-rest-stop-eq13-via-then-rest-stop-eq13+else-may_splice,
}
use Rattle.ud_text.proofs.bulk.lexeme_lengths.quoted_line_len.Goals.{
  else-rest-stop-eq13-via-else-rest-stop-eq13,
}
use Rattle.ud_text.proofs.bulk.lexeme_lengths.quoted_line_len.Goals.{
  then-begun-stop+then-rest-stop-eq42-2,
}
use Rattle.ud_text.proofs.bulk.lexeme_lengths.quoted_line_len.Goals.{else-begun-stop}
use Rattle.ud_text.proofs.bulk.lexeme_lengths.quoted_line_len.Goals as goal

pub returns-then-rest-stop-eq10-clause-read : goal.returns-then-rest-stop-eq10-clause-read
returns-then-rest-stop-eq10-clause-read c = λ white.
    quoted_line c.args.rest.now c.loop-at.at c.find_any_of.result c.find_any_of.ensures.value
    c.loop-at.invariant.opens c.if-stop-rest.false c.if-rest-stop-eq10.true
    unspliced white c.loop-at.begun (omega (arith, c.if-begun-gt0.false))
    (c.loop-at.invariant.read white)
  where
    n : ℕ
    n = c.loop-at.at + c.find_any_of.result

    low : 1 ≤ n
    low = omega (arith, c.loop-at.invariant.low)

    unspliced : spliced_by false (take n c.args.rest.now) ≡ false
    unspliced = elim c.else-rest-stop-eq13.branch [
      | else-rest-stop-eq13-via-then-rest-stop-eq13+else-may_splice w ↦
          unspliced_return c.args.rest.now n
          (grind (arith, c.requires.first, low, w.if-rest-stop-eq13.true))
          (omega (arith, c.if-stop-rest.false)) w.if-rest-stop-eq13.true
          (sym w.may_splice.ensures ∙ w.if-may_splice.false)
      | else-rest-stop-eq13-via-else-rest-stop-eq13 w ↦
          unspliced_last c.args.rest.now n low (omega (arith, c.if-stop-rest.false))
          (ne_eqb _ 92 c.if-rest-stop-eq92.false) (ne_eqb _ 13 w.if-rest-stop-eq13.false)
    ]

pub loop-at-preserved-then-rest-stop-eq42 : goal.loop-at-preserved-then-rest-stop-eq42
loop-at-preserved-then-rest-stop-eq42 c = record {
  low = omega arith;
  within = omega (arith, c.if-stop-rest-2.false);
  begun = omega arith;
  few = c.loop-at.invariant.few;
  opens = grind arith;
  read = λ white.
      quoted_star c.args.rest.now c.loop-at.at c.find_any_of.result c.find_any_of.ensures.value
      c.loop-at.invariant.opens white c.loop-at.begun (c.loop-at.invariant.read white)
      c.if-stop-rest-2.false (ne_eqb _ 10 c.if-rest-stop-eq10.false) c.if-rest-stop-eq42.true;
}

pub loop-at-preserved : goal.loop-at-preserved
loop-at-preserved c = record {
  low = omega arith;
  within = omega (arith, c.if-stop-rest-2.false);
  begun = not_later;
  few = omega (arith, c.loop-at.invariant.few, c.if-slashes-eq-MOST_SLASHES.false);
  opens = grind arith;
  read = read;
}
  where
    n : ℕ
    n = c.loop-at.at + c.find_any_of.result

    not_later : c.if-begun-stop.begun ≤ n + 1
    not_later = elim c.if-begun-stop.branch [
      | then-begun-stop+then-rest-stop-eq42-2 w ↦ omega (arith, w.begun-is)
      | else-begun-stop w ↦ omega (arith, w.begun-is, c.loop-at.invariant.begun)
    ]

    read : (white : Bool) → QuotedTo white c.if-begun-stop.begun c.args.rest.now (n + 1)
    read white = elim c.if-begun-stop.branch [
      | then-begun-stop+then-rest-stop-eq42-2 w ↦
          subst (λ (k : ℕ). QuotedTo white k c.args.rest.now (n + 1)) (sym w.begun-is)
          (quoted_shut c.args.rest.now c.loop-at.at c.find_any_of.result c.find_any_of.ensures.value
          c.loop-at.invariant.opens white c.loop-at.begun (c.loop-at.invariant.read white)
          c.if-stop-rest.false (ne_eqb _ 10 c.if-rest-stop-eq10.false) w.if-begun-stop.true
          w.if-rest-stop-eq42-2.true)
      | else-begun-stop w ↦
          subst (λ (k : ℕ). QuotedTo white k c.args.rest.now (n + 1)) (sym w.begun-is)
          (quoted_more c.args.rest.now c.loop-at.at c.find_any_of.result c.find_any_of.ensures.value
          c.loop-at.invariant.opens white c.loop-at.begun (c.loop-at.invariant.read white)
          c.if-stop-rest.false (ne_eqb _ 10 c.if-rest-stop-eq10.false))
    ]
