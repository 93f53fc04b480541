-- A space for one byte more.
use Rattle.std.proofs.Common.{ℕ, ◌+◌, List, [], ◌∷◌, ◌++◌, map, drop, sym, ◌∙◌, ap, append_assoc}
use Rattle.std.proofs.lemmas.List.{drop_more}
use Rattle.ud_model.specs.text.Lexemes.{block_comment, shown, cells_in}
use Rattle.ud_passes.proofs.pruning.comments.append_spaces.Goals as goal

pub loop-byte-preserved : goal.loop-byte-preserved
loop-byte-preserved c = let i : ℕ = c.loop-byte._byte-index in
    let rest : List ℕ = map shown (cells_in block_comment (drop (i + 1) c.args.bytes.now)) in
    ap (λ (x : List ℕ). x ++ rest) c.in_ok-push.ensures.items ∙ append_assoc c.loop-byte.shown.items (32 ∷ []) rest
    ∙ ap (λ (x : List ℕ). c.loop-byte.shown.items ++ map shown (cells_in block_comment x)) (sym (drop_more c.args.bytes.now i 0 c.loop-byte-test.true)) ∙ c.loop-byte.invariant
