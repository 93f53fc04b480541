use Rattle.std.proofs.Common.{◌≡◌, ◌++◌, map, drop}
use Rattle.ud_tree.specs.Covering.{paths_after, paths_of}
use Rattle.ud_tree.proofs.find_files.split_paths.Given as goal

abbrev pub invariant-loop-byte : goal.invariant-loop-byte
invariant-loop-byte l = map (λ p. p.items) l.paths.items ++ paths_after l.path.items (drop l.byte-index l.text) ≡ paths_of l.text
