-- By whether a name is given again.
use Rattle.std.proofs.Common.{◌≡◌, ◌∙◌, ◌+◌, ◌++◌, ◌∷◌, [], Some, drop, get_or, map, refl, ap, add-one, arith, rules}
use Rattle.std.proofs.Math.Seq.{drop-cons}
use Rattle.std.proofs.lemmas.List.{map-append}
use Rattle.std.proofs.lemmas.List.Folds.{list_any-append}
use Rattle.std.proofs.lemmas.Map.Text.{is_eq-slice_cmp}
use Rattle.std.specs.List.{filter_map}
use Rattle.ud_args.specs.ParsedArgs.{as_parsed, parsed}
use Rattle.ud_args.specs.TreeWords.{symbol_of}
use Rattle.ud_args.specs.declared.command_line.ParsedArg.TheVariants.{Flag}
use Rattle.ud_args.proofs.TreeLemmas.{bytes_eq-turned}
use Rattle.ud_args.proofs.tree_words.symbol_names.Goals as goal
use Rattle.ud_args.proofs.tree_words.symbol_names.Goals.{then-branch+in_ok-from_slice+in_ok-push, else-branch}

pub loop-item-preserved : goal.loop-item-preserved
loop-item-preserved c =
    let given = c.args.given.now in let i = c.loop-item.item-index in let n = c.in-Some.name.now in
    let named : symbol_of (as_parsed (get_or given i (Flag 0))) ≡ Some n = search rules in
    let next : filter_map symbol_of (parsed (drop i given)) ≡ n ∷ filter_map symbol_of (parsed (drop (i + 1) given)) = rw (add-one, drop-cons given i (Flag 0) c.loop-item-test.true, named) refl in
    let old = c.loop-item.invariant.seen c.in-Some.name in
    elim c.if-branch.branch [
      | then-branch+in_ok-from_slice+in_ok-push w ↦
          let push = ap (λ v. map (λ m. m.items) v.items) w.names-is ∙ ap (map (λ m. m.items)) w.in_ok-push.ensures.items
          ∙ map-append (λ m. m.items) c.loop-item.names.items (w.in_ok-from_slice.field-0 ∷ []) ∙ ap (λ m. map (λ m. m.items) c.loop-item.names.items ++ m ∷ []) w.in_ok-from_slice.ensures.items in
          record { names = grind (arith, push, next, c.loop-item.invariant.names, old, c.in_ok-insert.ensures.added, w.if-branch.true); seen = λ m. (grind (arith, push, list_any-append, is_eq-slice_cmp n m.now, bytes_eq-turned n m.now, c.in_ok-insert.ensures.updates.0 m, c.loop-item.invariant.seen m)) }
      | else-branch w ↦ record { names = rw w.names-is (grind (arith, next, c.loop-item.invariant.names, old, c.in_ok-insert.ensures.added, w.if-branch.false)); seen = λ m. rw (w.names-is, ← c.loop-item.invariant.seen m) (grind (arith, c.in_ok-insert.ensures.unchanged, w.if-branch.false)) }
    ]
