-- By the lexer's state.
use Rattle.std.proofs.Common.{ap}
use Rattle.ud_text.specs.scan.LexerViews.{lex_state_of}
use Rattle.ud_text.proofs.lemmas.bulk.StepLemmas.{start_block}
use Rattle.ud_text.proofs.lemmas.bulk.ReachLemmas.{reach_start, reach_close}
use Rattle.ud_text.proofs.bulk.fast_path.skip_text_lines.Goals as goal

pub returns-in-Text-clause-skipped : goal.returns-in-Text-clause-skipped
returns-in-Text-clause-skipped c = c.skip_text_from.ensures.skipped _ (reach_start c.args.lines.now (lex_state_of c.args.lexer.state) c.args.lexer.white (ap lex_state_of c.in-Text.is))

pub returns-then-closes-clause-skipped : goal.returns-then-closes-clause-skipped
returns-then-closes-clause-skipped c = c.skip_text_from-then-closes.ensures.skipped _
    (reach_close 0 (start_block c.args.lines.now (lex_state_of c.args.lexer.state) c.args.lexer.white
    (ap lex_state_of c.in-Block.is)) c.find_star_pair-pair.result.0 c.find_star_pair-pair.ensures.order.0
    c.find_star_pair-pair.ensures.none (c.find_star_pair-pair.ensures.closes c.if-closes.true) 0)
