-- The last byte is removed, and a space appended.
use Rattle.std.proofs.Common.{sym, ◌∙◌}
use Rattle.ud_text.proofs.lemmas.scan.MaskLemmas.{blanked}
use Rattle.ud_text.proofs.scan.lexer.blank_last.Goals as goal

pub returns-then-is_some-clause-items : goal.returns-then-is_some-clause-items
returns-then-is_some-clause-items g c =
    blanked (g.H.LineBuffer.items c.args.masked.now) (g.H.LineBuffer.items c.pop.new.self) (g.H.LineBuffer.items c.push.new.self) c.pop.result c.pop.ensures.items (sym c.is_some.ensures ∙ c.if-is_some.true) c.push.ensures
