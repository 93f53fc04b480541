use Rattle.std.proofs.Common.{rules, tests, ℕ, List, nat_eq, Bor}
use Rattle.std.proofs.lemmas.Iterator.{YieldsList-from_slice}
use Rattle.std.proofs.lemmas.Iterator.Search.{any_from_yields_List}
use Rattle.std.specs.List.{starts_with}
use Rattle.ud_model.specs.declared.kind.Kind.{Kind}
use Rattle.ud_model.proofs.keywords.is_prefix_of_keyword.Goals as goal

pub returns : goal.returns
returns c =
    any_from_yields_List (λ (row : Bor (List ℕ) × Kind). starts_with nat_eq row.0.now c.args.word.now) _ _ c.any.result c.any.ensures.ran
    (YieldsList-from_slice _ c.iter.ensures.rest) (λ x b q k. search (rules, tests))
