-- The set has the names so far.
use Rattle.std.proofs.Common.{◌≡◌, ℕ, List, Bor, drop, map}
use Rattle.std.specs.BTreeSet.{contains}
use Rattle.std.specs.Cmp.Lexicographic.{slice_cmp}
use Rattle.std.specs.List.{filter_map}
use Rattle.std.specs.Ordering.{nat_cmp}
use Rattle.ud_args.specs.TreeWords.{has_name, names_with, symbol_of, symbol_names}
use Rattle.ud_args.specs.ParsedArgs.{parsed}
use Rattle.ud_args.proofs.tree_words.symbol_names.Given as goal

abbrev pub invariant-loop-item : goal.invariant-loop-item
invariant-loop-item l = record {
  names : names_with (map (λ n. n.items) l.names.items) (filter_map symbol_of (parsed (drop l.item-index l.given))) ≡ symbol_names (parsed l.given);
  seen : (n : Bor (List ℕ)) → contains (λ a b. slice_cmp nat_cmp a.now b.now) l.seen n ≡ has_name (map (λ n. n.items) l.names.items) n.now;
}
