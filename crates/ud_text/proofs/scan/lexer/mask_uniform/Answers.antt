-- Runs of bytes that leave the state unchanged.
use Rattle.std.proofs.Common.{sym, ◌∙◌, ap}
use Rattle.ud_text.specs.scan.LexerViews.{lex_state_of}
use Rattle.ud_text.proofs.lemmas.scan.MaskLemmas.{and_at_true, and_at_false, text_run, block_run, line_run}
use Rattle.ud_text.proofs.scan.lexer.mask_uniform.Goals as goal

pub returns-then-are_white-clause-masks : goal.returns-then-are_white-clause-masks
returns-then-are_white-clause-masks g c n text m =
    text_run text c.args.rest.now (g.H.LineBuffer.items c.args.masked.now) (g.H.LineBuffer.items c.append.new.masked) c.args.lexer.white c.first_mark-count.result m
    (ap lex_state_of c.in-Text.is) c.first_mark-count.ensures c.requires.one_line c.append.ensures
    (and_at_true c.args.lexer.white _ (sym c.are_white.ensures ∙ c.if-are_white.true))

pub returns-else-are_white-clause-masks : goal.returns-else-are_white-clause-masks
returns-else-are_white-clause-masks g c n text m =
    text_run text c.args.rest.now (g.H.LineBuffer.items c.args.masked.now) (g.H.LineBuffer.items c.append.new.masked) c.are_white.result c.first_mark-count.result m
    (ap lex_state_of c.in-Text.is) c.first_mark-count.ensures c.requires.one_line c.append.ensures
    (c.are_white.ensures ∙ and_at_false c.args.lexer.white _ (sym c.are_white.ensures ∙ c.if-are_white.false))

pub returns-in-Block-clause-masks : goal.returns-in-Block-clause-masks
returns-in-Block-clause-masks g c n text m =
    block_run text c.args.rest.now (g.H.LineBuffer.items c.args.masked.now) (g.H.LineBuffer.items c.append_spaces.new.masked) c.memchr.result c.unwrap_or-count.result m
    (ap lex_state_of c.in-Block.is) c.memchr.ensures c.unwrap_or-count.ensures c.append_spaces.ensures

pub returns-in-ToLineEnd-clause-masks : goal.returns-in-ToLineEnd-clause-masks
returns-in-ToLineEnd-clause-masks g c n text m =
    line_run text c.args.rest.now (g.H.LineBuffer.items c.args.masked.now) (g.H.LineBuffer.items c.append_spaces-in-ToLineEnd.new.masked) m
    (ap lex_state_of c.in-ToLineEnd.is) c.requires.one_line c.append_spaces-in-ToLineEnd.ensures
