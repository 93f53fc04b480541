-- The first token stays or goes, with the white space that belongs to it.
use Rattle.std.proofs.lemmas.List.{map-append}
use Rattle.std.proofs.Common.{◌≡◌, ℕ, ◌-◌, List, [], ◌++◌, length, map, drop, take, Bool, not, ◌||◌, if◌then◌else◌, sym, ◌∙◌, ap, ap₂, arith}
use Rattle.std.proofs.lemmas.Grind.{common_steps}
use Rattle.ud_model.specs.text.Bytes.{skip_white, are_white}
use Rattle.ud_model.specs.conditions.Tokens.{next_token, found}
use Rattle.ud_simplified.specs.ResidualTexts.{left_from}
use Rattle.ud_cond.specs.CondViews.{as_token}
use Rattle.ud_passes.specs.pruning.Cells.{AreCells, byte_of}
use Rattle.ud_passes.proofs.CellLemmas.{cells_count, found_left, end_left, none_left, all_appended, same_on}
use Rattle.ud_passes.proofs.pruning.left_texts.append_token.Goals as goal

pub returns-in_ok-append_if-in-Found-2-clause-left : goal.returns-in_ok-append_if-in-Found-2-clause-left
returns-in_ok-append_if-in-Found-2-clause-left c = λ cells flags a.
    let masked : List ℕ = c.args.place.text.shown.now in
    let gap : ℕ = c.saturating_sub-gap.result in
    let next : next_token masked ≡ found (as_token c.in-Found.token) c.in-Found.after.now = sym c.in-Found.ensures in
    let back : AreCells (drop gap cells) c.split_at.result.1.bytes.now c.split_at.result.1.shown.now = c.split_at.ensures.back cells a in
    let front : AreCells (take gap cells) c.split_at.result.0.bytes.now c.split_at.result.0.shown.now = c.split_at.ensures.front cells a in
    let goes : c.gap_stays.result ≡ ((if c.args.place.operand then c.args.flag else c.args.place.stays) || not (are_white (map byte_of (take gap cells)))) =
    c.gap_stays.ensures ∙ ap (λ (l : List ℕ). (if c.args.place.operand then c.args.flag else c.args.place.stays) || not (are_white l)) (sym front.bytes_are) in
    let size : ℕ = c.saturating_sub-size.result in (
      drop size (drop gap cells),
      c.split_at-in-Found.ensures.back (drop gap cells) back,
      same_on c.args.left.now.bytes.items c.args.left.now.shown.items
          (found_left c.args.place.stays c.args.place.operand c.args.flag flags cells (as_token c.in-Found.token) c.in-Found.after.now gap size
          (ap next_token a.shown_are ∙ next)
          (ap₂ (λ (n : ℕ) (l : List ℕ). n - length l) (sym (cells_count cells c.args.place.text.bytes.now masked a)) (ap skip_white a.shown_are ∙ sym c.skip_white.ensures) ∙ sym c.saturating_sub-gap.ensures)
          (ap (λ (n : ℕ). n - length c.in-Found.after.now) (sym (cells_count (drop gap cells) c.split_at.result.1.bytes.now c.split_at.result.1.shown.now back)) ∙ sym c.saturating_sub-size.ensures))
          (ap (λ (o : Bool). left_from c.args.flag o flags (drop size (drop gap cells))) c.ends_operand.ensures)
          (grind (arith, common_steps, map-append, front, c.split_at-in-Found.ensures.front (drop gap cells) back, (c.in_ok-append_if-in-Found.ensures.bytes ∙ ap (λ (g : Bool). c.args.left.now.bytes.items ++ (if g then c.split_at.result.0.bytes.now else [])) goes), (c.in_ok-append_if-in-Found.ensures.shown ∙ ap (λ (g : Bool). c.args.left.now.shown.items ++ (if g then c.split_at.result.0.shown.now else [])) goes), c.in_ok-append_if-in-Found-2.ensures.bytes, c.in_ok-append_if-in-Found-2.ensures.shown)),
    )

pub returns-in-AtEnd-clause-left : goal.returns-in-AtEnd-clause-left
returns-in-AtEnd-clause-left c =
    grind (arith, common_steps, same_on, end_left, none_left, all_appended)

pub returns-in-Unreadable-clause-left : goal.returns-in-Unreadable-clause-left
returns-in-Unreadable-clause-left c =
    grind (arith, common_steps, same_on, none_left, all_appended)
