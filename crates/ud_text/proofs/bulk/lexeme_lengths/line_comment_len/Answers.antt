-- Up to the first newline, before which no splice begins.
use Rattle.std.proofs.Common.{◌≡◌, ◌+◌, ◌-◌, ◌<◌, ◌∙◌, ◌==◌, length, take, drop, get_or, subst, sym, ap, refl, ne_eqb, false, List, ℕ, arith}
use Rattle.std.proofs.lemmas.List.{take_rest}
use Rattle.ud_model.specs.text.Lines.{NoNewline}
use Rattle.ud_model.specs.text.Bytes.{newline, backslash, carriage_return}
use Rattle.ud_text.specs.bulk.BulkLexemes.{may_splice}
use Rattle.ud_text.proofs.bulk.lexeme_lengths.line_comment_len.Goals.{
  else-last-eq13-via-then-last-eq13+else-may_splice,
}
use Rattle.ud_text.proofs.bulk.lexeme_lengths.line_comment_len.Goals.{
  else-last-eq13-via-else-last-eq13,
}
use Rattle.ud_text.proofs.lemmas.lines.NewlineLemmas.{no_newline_front}
use Rattle.ud_text.proofs.lemmas.bulk.StepLemmas.{comment_spans, feed_there}
use Rattle.ud_text.proofs.bulk.lexeme_lengths.line_comment_len.Goals as goal

pub returns-clause-read : goal.returns-clause-read
returns-clause-read c =
    let tail : List ℕ = take (length c.args.rest.now - 2) (drop 2 c.args.rest.now) in
    comment_spans c.args.rest.now c.in_ok-count.count c.requires.first
    (subst (λ (l : List ℕ). NoNewline (take c.in_ok-count.count l)) (take_rest c.args.rest.now 2) (no_newline_front tail c.in_ok-count.count c.in_ok-count.ensures.0.before))
    (subst (λ (l : List ℕ). c.in_ok-count.count < length l) (take_rest c.args.rest.now 2) c.in_ok-count.ensures.0.high)
    (feed_there c.args.rest.now c.in_ok-count.count c.in_ok-count.ensures.1)
    unspliced
  where
    none_spliced : (a b : ℕ) → (b == backslash) ≡ false → (b == carriage_return) ≡ false →
        may_splice a b ≡ false
    none_spliced a b e f = rw (e, f) refl

    unspliced : may_splice (get_or c.args.rest.now c.in_ok-count.count 0)
        (get_or c.args.rest.now (c.in_ok-count.count + 1) 0) ≡ false
    unspliced = elim c.else-last-eq13.branch [
      | else-last-eq13-via-then-last-eq13+else-may_splice w ↦
          ap (λ (b : ℕ). may_splice (get_or c.args.rest.now c.in_ok-count.count 0) b)
          w.if-last-eq13.true ∙ sym w.may_splice.ensures ∙ w.if-may_splice.false
      | else-last-eq13-via-else-last-eq13 w ↦
          none_spliced (get_or c.args.rest.now c.in_ok-count.count 0)
          (get_or c.args.rest.now (c.in_ok-count.count + 1) 0)
          (ne_eqb (get_or c.args.rest.now (c.in_ok-count.count + 1) 0) 92 c.if-last-eq92.false)
          (ne_eqb (get_or c.args.rest.now (c.in_ok-count.count + 1) 0) 13 w.if-last-eq13.false)
    ]

pub returns-clause-ends : goal.returns-clause-ends
returns-clause-ends c =
    let there : 2 + c.in_ok-count.count ≡ 2 + c.in_ok-count.count + 1 - 1 = omega arith in
    subst (λ (n : ℕ). get_or c.args.rest.now n 0 ≡ newline) there (feed_there c.args.rest.now c.in_ok-count.count c.in_ok-count.ensures.1)
