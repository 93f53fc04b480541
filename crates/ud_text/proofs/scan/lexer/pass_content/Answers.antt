-- A piece more is read.
use Rattle.std.proofs.Common.{◌≡◌, ◌++◌, List, ℕ, sym, ◌∙◌, ap, subst, append_assoc, take, take-append-drop, arith}
use Rattle.ud_model.specs.text.Lines.{NoNewline}
use Rattle.ud_model.specs.aids.LexStates.{LexesTo}
use Rattle.ud_text.specs.scan.LexerViews.{lex_state_of}
use Rattle.ud_text.proofs.lemmas.scan.MaskLemmas.{no_newline-take, no_newline-drop}
use Rattle.ud_text.proofs.scan.lexer.pass_content.Goals as goal

pub mask_content-inside-requires : goal.mask_content-inside-requires
mask_content-inside-requires c = grind (arith, no_newline-take)

pub loop-rest-preserved : goal.loop-rest-preserved
loop-rest-preserved c = let p = c.loop-rest.invariant.passed in
    let rest : List ℕ = c.loop-rest.rest.now in
    let piece : List ℕ = c.split_at.result.0.now in
    let after : List ℕ = c.split_at.result.1.now in
    let joined : piece ++ after ≡ rest = ap (λ (l : List ℕ). l ++ after) c.split_at.ensures.front ∙ ap (λ (l : List ℕ). take c.min.result rest ++ l) c.split_at.ensures.back ∙ take-append-drop c.min.result rest in
    record {
      one_line = subst NoNewline (sym c.split_at.ensures.back) (no_newline-drop c.min.result rest c.loop-rest.invariant.one_line);
      passed = (
        p.0 ++ piece,
        append_assoc p.0 piece after ∙ ap (λ (l : List ℕ). p.0 ++ l) joined ∙ p.1,
        λ text r.
            subst (λ (t : List ℕ). LexesTo t (lex_state_of c.mask_content-inside.result.state) c.mask_content-inside.result.white) (append_assoc text p.0 piece)
            (c.mask_content-inside.ensures.masks (text ++ p.0) (p.2 text r)).reads,
      );
    }
