-- One line, or the lines.
use Rattle.std.proofs.Common.{◌≡◌, ◌++◌, List, ℕ, Bool, if◌then◌else◌, ◌∙◌, ap, sym, append_assoc}
use Rattle.ud_passes.specs.folding.LogicalLines.{is_line_shown}
use Rattle.ud_simplified.specs.FoldedTexts.{folded_bytes}
use Rattle.ud_passes.proofs.FoldLemmas.{folded_as}
use Rattle.ud_passes.proofs.folding.logical.LogicalLine.end.Goals as goal

pub returns-in_ok-extend_from_slice : goal.returns-in_ok-extend_from_slice
returns-in_ok-extend_from_slice c = λ group i.
    let b = c.args.last.now in
    let bytes : List ℕ = c.append_line.new.out.items in
    let all : (if c.in_ok-is_read.is_read then bytes else c.args.self.now.plain.items) ≡ folded_bytes group =
    folded_as c.args.self.now b group bytes c.in_ok-is_read.is_read i (c.in_ok-append_line.ensures ∙ sym (append_assoc c.args.self.now.body.items b.line.body.now b.line.ending.now))
    (λ k w e n o. c.in_ok-is_read.ensures k (c.as_slice-body.ensures.value ∙ w) e n o ∙ ap (λ (x : List ℕ). is_line_shown k x) c.as_slice.ensures.value) b.line.ended in
    c.in_ok-extend_from_slice.ensures.items
    ∙ ap (λ (x : List ℕ). c.args.out.now.items ++ x) (c.as_slice-then-is_read.ensures.value ∙ sym (ap (λ (t : Bool). if t then bytes else c.args.self.now.plain.items) c.if-is_read.true) ∙ all)

pub returns-in_ok-extend_from_slice-2 : goal.returns-in_ok-extend_from_slice-2
returns-in_ok-extend_from_slice-2 c = λ group i.
    let b = c.args.last.now in
    let bytes : List ℕ = c.append_line.new.out.items in
    let all : (if c.in_ok-is_read.is_read then bytes else c.args.self.now.plain.items) ≡ folded_bytes group =
    folded_as c.args.self.now b group bytes c.in_ok-is_read.is_read i (c.in_ok-append_line.ensures ∙ sym (append_assoc c.args.self.now.body.items b.line.body.now b.line.ending.now))
    (λ k w e n o. c.in_ok-is_read.ensures k (c.as_slice-body.ensures.value ∙ w) e n o ∙ ap (λ (x : List ℕ). is_line_shown k x) c.as_slice.ensures.value) b.line.ended in
    c.in_ok-extend_from_slice-2.ensures.items
    ∙ ap (λ (x : List ℕ). c.args.out.now.items ++ x) (c.as_slice-else-is_read.ensures.value ∙ sym (ap (λ (t : Bool). if t then bytes else c.args.self.now.plain.items) c.if-is_read.false) ∙ all)
