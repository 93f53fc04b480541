use Rattle.std.proofs.Common.{◌≡◌, map, filter}
use Rattle.ud_tree.specs.Naming.{is_proper}
use Rattle.ud_tree.proofs.disk.naming.proper_names.Given as goal

abbrev pub invariant-loop-name : goal.invariant-loop-name
invariant-loop-name l =
    map (λ n. n.items) l.names.items ≡ filter is_proper (map (λ n. n.items) l.yielded)
