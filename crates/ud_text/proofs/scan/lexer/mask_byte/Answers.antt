-- One more byte, and a space in place of the slash before it if the byte begins a comment.
use Rattle.std.proofs.Common.{sym, ◌∙◌, ap, true, false, ℕ, ◌++◌, ◌∷◌, []}
use Rattle.ud_text.specs.scan.LexerViews.{lex_state_of}
use Rattle.ud_text.proofs.lemmas.scan.MaskLemmas.{one_more}
use Rattle.ud_text.proofs.scan.lexer.mask_byte.Goals as goal
use Rattle.ud_text.proofs.scan.lexer.mask_byte.Goals.{then-opens_comment, else-opens_comment}

pub returns-clause-masks : goal.returns-clause-masks
returns-clause-masks g c n text m =
    elim c.if-opens_comment.branch [
      | then-opens_comment w ↦
          one_more n text (lex_state_of c.args.lexer.state) (lex_state_of c.next_state.result) c.args.lexer.white c.stays_white.result c.args.byte
          (g.H.LineBuffer.items c.args.masked.now) (g.H.LineBuffer.items c.if-opens_comment.masked) (g.H.LineBuffer.items c.push.new.self) true m
          (sym w.if-opens_comment.true ∙ c.opens_comment.ensures)
          (ap g.H.LineBuffer.items w.masked-is ∙ w.blank_last.ensures.items)
          (c.push.ensures ∙ ap (λ (b : ℕ). g.H.LineBuffer.items c.if-opens_comment.masked ++ b ∷ []) c.masked_byte.ensures)
          c.next_state.ensures c.stays_white.ensures
      | else-opens_comment w ↦
          one_more n text (lex_state_of c.args.lexer.state) (lex_state_of c.next_state.result) c.args.lexer.white c.stays_white.result c.args.byte
          (g.H.LineBuffer.items c.args.masked.now) (g.H.LineBuffer.items c.if-opens_comment.masked) (g.H.LineBuffer.items c.push.new.self) false m
          (sym w.if-opens_comment.false ∙ c.opens_comment.ensures)
          (ap g.H.LineBuffer.items w.masked-is)
          (c.push.ensures ∙ ap (λ (b : ℕ). g.H.LineBuffer.items c.if-opens_comment.masked ++ b ∷ []) c.masked_byte.ensures)
          c.next_state.ensures c.stays_white.ensures
    ]
