-- Content without a mark is shown unchanged.
use Rattle.std.proofs.Common.{◌≡◌, ap, ◌&&◌, arith}
use Rattle.ud_model.specs.text.Bytes.{are_white}
use Rattle.ud_text.specs.scan.LexerViews.{lex_state_of}
use Rattle.ud_text.proofs.lemmas.scan.MaskLemmas.{plain_run}
use Rattle.ud_text.proofs.scan.lexer.mask_or_borrow.Goals as goal

pub returns-then-first_mark-content-clause-masks : goal.returns-then-first_mark-content-clause-masks
returns-then-first_mark-content-clause-masks g c = λ text r.
    plain_run text c.args.content.now c.if-are_white.white c.first_mark.result r (ap lex_state_of c.in-Text.is)
    c.first_mark.ensures c.if-first_mark-content.true c.requires.one_line white_is
  where
    white_is : c.if-are_white.white ≡ (c.args.lexer.white && are_white c.args.content.now)
    white_is = grind arith
