-- The pruned text is handed out, or nothing is written.
use Rattle.std.proofs.Common.{◌≡◌, ◌==◌, ℕ, List, Bool, true, false, length, nat_le, if◌then◌else◌, ℤ, pos, refl, sym, ◌∙◌, ap, subst, w32, to_z, of_z}
use Rattle.unifdef_c.specs.Words.{words_of}
use Rattle.unifdef_c.specs.Prunings.{PruneAnswer, pruned, refused, HandsOutPruned, text_left, edited_by}
use Rattle.unifdef_c.proofs.FaultLemmas.{same_code}
use Rattle.unifdef_c.proofs.pruning.unifdef_prune.Goals as goal

abbrev status : Bool → Bool → ℕ
status fits same = if fits then (if same then 0 else 1) else 3

-- A status is a number of C's int.
same_status : (fits same : Bool) → to_z w32 (of_z w32 (pos (status fits same))) ≡ pos (status fits same)
same_status true true = refl
same_status true false = refl
same_status false same = refl

pub returns-in-Ok : goal.returns-in-Ok
returns-in-Ok c = let text : List ℕ = text_left (words_of c.args.words.now) c.args.text.now in
    let left : c.in-Ok.pruned.text.items ≡ text = c.in-Ok.ensures.ok.left in
    let edited : c.in-Ok.pruned.edited ≡ edited_by (words_of c.args.words.now) c.args.text.now = c.in-Ok.ensures.ok.edited in
    let h : HandsOutPruned text (edited_by (words_of c.args.words.now) c.args.text.now) c.args.output.now c.hand_out_pruned.new.output c.hand_out_pruned.new.size c.hand_out_pruned.result =
    subst (λ (x : List ℕ). HandsOutPruned x (edited_by (words_of c.args.words.now) c.args.text.now) c.args.output.now
    c.hand_out_pruned.new.output c.hand_out_pruned.new.size c.hand_out_pruned.result) left
    (subst (λ (b : ℕ). HandsOutPruned c.in-Ok.pruned.text.items b c.args.output.now c.hand_out_pruned.new.output
    c.hand_out_pruned.new.size c.hand_out_pruned.result) edited c.hand_out_pruned.ensures) in
    let same : to_z w32 (of_z w32 c.hand_out_pruned.result) ≡ c.hand_out_pruned.result =
    ap (λ (z : ℤ). to_z w32 (of_z w32 z)) h.returned ∙ same_status (nat_le (length text) (length c.args.output.now)) (edited_by (words_of c.args.words.now) c.args.text.now == 0) ∙ sym h.returned in
    subst (λ (z : ℤ). PruneAnswer c.args.words.now c.args.text.now c.args.output.now c.hand_out_pruned.new.output c.args.size.now c.hand_out_pruned.new.size z) (sym same)
    (pruned c.hand_out_pruned.result c.in-Ok.ensures.utf8 c.in-Ok.ensures.ok.no_fault h)

pub returns-in-Err : goal.returns-in-Err
returns-in-Err c = subst (λ n. PruneAnswer c.args.words.now c.args.text.now c.args.output.now c.args.output.now c.args.size.now c.args.size.now n)
    (sym (same_code c.in-Err.fault c.code.result c.code.ensures)) (refused c.in-Err.fault c.in-Err.ensures.err refl refl)
