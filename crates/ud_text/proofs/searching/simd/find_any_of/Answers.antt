-- Few bytes are searched one by one.
use Rattle.std.proofs.Common.{rules, tests, ◌≡◌, ◌∙◌, length, unwrap_or, ap}
use Rattle.std.specs.List.{position_or_len}
use Rattle.std.proofs.lemmas.Iterator.{YieldsList-from_slice}
use Rattle.std.proofs.lemmas.Iterator.Search.{position_from_yields_List}
use Rattle.ud_text.specs.searching.Searches.{is_one_of}
use Rattle.ud_text.proofs.lemmas.searching.SimdLemmas.{search_bound}
use Rattle.ud_text.proofs.searching.simd.find_any_of.Goals.{After-unwrap_or}
use Rattle.ud_text.proofs.searching.simd.find_any_of.Goals as goal
use Rattle.ud_model.proofs.text.ByteLemmas.{unwrap_or-position}

found : (c : After-unwrap_or) → c.unwrap_or.result ≡ position_or_len (is_one_of c.args.set) c.args.bytes.now
found c =
    let at = position_from_yields_List (λ b. is_one_of c.args.set b) _ _ c.position.result c.position.ensures.ran (YieldsList-from_slice c.args.bytes.now cc) (λ x b q k. search (rules, tests)) in
    c.unwrap_or.ensures ∙ ap (λ p. unwrap_or p (length c.args.bytes.now)) at ∙ unwrap_or-position (λ b. is_one_of c.args.set b) c.args.bytes.now

pub returns-else-bytes-ge4-clause-value : goal.returns-else-bytes-ge4-clause-value
returns-else-bytes-ge4-clause-value c = found c

pub returns-then-bytes-ge16-clause-bound : goal.returns-then-bytes-ge16-clause-bound
returns-then-bytes-ge16-clause-bound c = search_bound (is_one_of c.args.set) c.args.bytes.now _ c.find_by_lanes.ensures

pub returns-then-bytes-ge8-clause-bound : goal.returns-then-bytes-ge8-clause-bound
returns-then-bytes-ge8-clause-bound c = search_bound (is_one_of c.args.set) c.args.bytes.now _ c.find_by_lanes-then-bytes-ge8.ensures

pub returns-then-bytes-ge4-clause-bound : goal.returns-then-bytes-ge4-clause-bound
returns-then-bytes-ge4-clause-bound c = search_bound (is_one_of c.args.set) c.args.bytes.now _ c.find_by_lanes-then-bytes-ge4.ensures
