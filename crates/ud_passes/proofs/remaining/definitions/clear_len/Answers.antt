-- Up to a `#`, past one, or to the end.
use Rattle.std.proofs.Common.{◌+◌, ◌-◌, List, ℕ, length, take, drop, length-drop, ap, subst, arith}
use Rattle.std.proofs.lemmas.List.{take_rest}
use Rattle.memchr.specs.Find.{Nowhere, Passes, is_byte}
use Rattle.ud_model.specs.conditions.Table.{Argument}
use Rattle.ud_passes.specs.remaining.Definitions.{IsClear}
use Rattle.ud_passes.proofs.DefinitionLemmas.{clear_more, clear_hashless, clear_one}
use Rattle.ud_passes.proofs.remaining.definitions.clear_len.Goals as goal

-- A search from `at` on has passed `count` bytes.
passed : (table : List Argument) (t : List ℕ) (at count : ℕ) → IsClear table at t → Nowhere (Passes (is_byte 35) (take (length t - at) (drop at t))) 0 count → IsClear table (at + count) t
passed table t at count h none = grind (arith, clear_more, take_rest, clear_hashless)

pub returns-in_default-clause-clear : goal.returns-in_default-clause-clear
returns-in_default-clause-clear c = λ calls h.
    let t = c.args.text.now in
    let at = c.loop-at.at in
    let size = length-drop at t in
    let all = ap (λ (x : List ℕ). length x) (take_rest t at) in
    subst (λ (n : ℕ). IsClear calls n t) (omega (arith, size, all, c.loop-at.invariant.within))
    (passed calls t at _ (c.loop-at.invariant.clear calls h) c.in_default.ensures)

pub returns-then-defines_after-clause-clear : goal.returns-then-defines_after-clause-clear
returns-then-defines_after-clause-clear c = λ calls h.
    grind (arith, passed, c.loop-at.invariant.clear calls h)

pub loop-at-preserved : goal.loop-at-preserved
loop-at-preserved c =
    let first = c.in-Some.ensures.0 in
    let clear = c.loop-at.invariant.clear in
    let none = c.defines_after.ensures in
    grind (arith, length-drop, take_rest, clear_one, passed, first.high, first.before, clear, none)
