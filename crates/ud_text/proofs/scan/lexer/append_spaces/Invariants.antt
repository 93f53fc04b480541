-- The spaces so far were appended.
use Rattle.std.proofs.Common.{◌≡◌, ◌++◌, replicate}
use Rattle.ud_text.proofs.scan.lexer.append_spaces.Given as goal

abbrev pub invariant-loop-space : goal.invariant-loop-space
invariant-loop-space g l = g.H.LineBuffer.items l.masked ≡ g.H.LineBuffer.items l.initial.masked ++ replicate l._space 32
