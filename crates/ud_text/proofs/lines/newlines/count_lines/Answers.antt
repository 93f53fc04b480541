-- The newlines of the first bytes, of those after them, and of the last ones.
use Rattle.std.proofs.Common.{rules, ◌∙◌, ◌-◌, ◌+◌, length, take, drop}
use Rattle.ud_text.proofs.lemmas.lines.ConsumeLemmas.{counted_all, lines_counted}
use Rattle.ud_text.proofs.lines.newlines.count_lines.Goals as goal

pub returns : goal.returns
returns c =
    let rest = take (length c.args.bytes.now - c.newlines_by_blocks-counted.result.at) (drop c.newlines_by_blocks-counted.result.at c.args.bytes.now) in
    counted_all c.args.bytes.now c.newlines_by_blocks-counted.result.at c.newlines_by_blocks-counted.result.newlines (c.newlines_by_lanes-middle.result.newlines + c.count-others.result)
    c.newlines_by_blocks-counted.ensures.counted
    (counted_all rest c.newlines_by_lanes-middle.result.at c.newlines_by_lanes-middle.result.newlines c.count-others.result c.newlines_by_lanes-middle.ensures.counted (search rules)
    ∙ lines_counted rest)
