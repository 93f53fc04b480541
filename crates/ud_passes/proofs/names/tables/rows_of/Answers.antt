-- A row more.
use Rattle.std.proofs.Common.{◌≡◌, ◌<◌, ◌+◌, ◌-◌, ℕ, List, Bor, map, length, take, drop, sym, ◌∙◌, ap, subst, arith}
use Rattle.std.proofs.lemmas.List.{map_push, get_or_default, length-drop, take_all}
use Rattle.ud_passes.specs.names.NameTables.{NameCount}
use Rattle.ud_passes.specs.names.RowViews.{as_count}
use Rattle.ud_passes.proofs.TableLemmas.{RowsAt, rows_next_in}
use Rattle.ud_passes.proofs.names.tables.rows_of.Goals as goal

pub loop-start-smaller : goal.loop-start-smaller
loop-start-smaller c = let names = c.args.names.now in
    let start : ℕ = c.loop-start.start in
    let count : ℕ = c.leading-count.result in
    let i = c.loop-start.invariant in
    let e = c.leading-count.ensures in
    let l : start < length names = c.loop-start-test.true in
    let all : take (length names - start) (drop start names) ≡ drop start names = take_all (length names - start) (drop start names) (omega (arith, length-drop start names)) in
    let step = rows_next_in (λ (n : Bor (List ℕ)). n.now) names c.requires (map as_count c.loop-start.rows.items) _ start count _ all i.1 l e.within (λ d. ap (λ (n : Bor (List ℕ)). n.now) (get_or_default names start d _ l)) e.same e.other in
    omega (arith, l, step.0)

pub loop-start-preserved : goal.loop-start-preserved
loop-start-preserved c = let names = c.args.names.now in
    let start : ℕ = c.loop-start.start in
    let count : ℕ = c.leading-count.result in
    let i = c.loop-start.invariant in
    let e = c.leading-count.ensures in
    let l : start < length names = c.loop-start-test.true in
    let all : take (length names - start) (drop start names) ≡ drop start names = take_all (length names - start) (drop start names) (omega (arith, length-drop start names)) in
    let step = rows_next_in (λ (n : Bor (List ℕ)). n.now) names c.requires (map as_count c.loop-start.rows.items) _ start count _ all i.1 l e.within (λ d. ap (λ (n : Bor (List ℕ)). n.now) (get_or_default names start d _ l)) e.same e.other in
    let long : length (drop start names) ≡ length names - start = length-drop start names in (
      omega (arith, l, long, e.within),
      subst (λ (rs : List NameCount). RowsAt (λ (n : Bor (List ℕ)). n.now) names rs (start + count)) (sym (ap (λ x. map as_count x) c.in_ok-push.ensures.items ∙ map_push as_count _ _)) step.1,
    )
