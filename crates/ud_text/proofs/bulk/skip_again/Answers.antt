-- By the lexer's state.
use Rattle.std.proofs.Common.{ap}
use Rattle.ud_text.specs.scan.LexerViews.{lex_state_of}
use Rattle.ud_text.proofs.lemmas.bulk.StepLemmas.{start_read, start_block}
use Rattle.ud_text.proofs.bulk.skip_again.Goals as goal

pub returns-in-Text-clause-skipped : goal.returns-in-Text-clause-skipped
returns-in-Text-clause-skipped c = c.skip_text_from.ensures.skipped _ (start_read c.args.lines.now (lex_state_of c.args.lexer.state) c.args.lexer.white (ap lex_state_of c.in-Text.is))

pub returns-in-Ok-clause-skipped : goal.returns-in-Ok-clause-skipped
returns-in-Ok-clause-skipped c =
    c.skip_text_from-in-Ok.ensures.skipped _ (c.in-Ok.ensures.read _ (start_block c.args.lines.now (lex_state_of c.args.lexer.state) c.args.lexer.white (ap lex_state_of c.in-Block.is)))

pub returns-in-Err-clause-skipped : goal.returns-in-Err-clause-skipped
returns-in-Err-clause-skipped c = c.in-Err.ensures.read _ (start_block c.args.lines.now (lex_state_of c.args.lexer.state) c.args.lexer.white (ap lex_state_of c.in-Block.is))
