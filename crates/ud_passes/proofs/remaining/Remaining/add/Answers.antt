-- The search has the marks meanwhile.
use Rattle.std.proofs.Common.{◌∙◌}
use Rattle.std.proofs.lemmas.Result.{on_ok_weaker}
use Rattle.ud_cond.specs.symbols.Marks.{Unmarks}
use Rattle.ud_passes.specs.remaining.RemainingLists.{is_named}
use Rattle.ud_passes.proofs.remaining.Remaining.add.Goals as goal

pub returns-clause-unnamed : goal.returns-clause-unnamed
returns-clause-unnamed c = on_ok_weaker c.search-result.result (λ added. λ calls h name.
    let u : Unmarks c.args.symbols.now (is_named calls c.args.mode c.args.text.now) c.args.unnamed.now.items c.swap-2.new.y.items =
    rw (c.swap-2.ensures.y_after, ← c.swap.ensures.x_after) (added calls h).unnamed_are in
    c.drop_unset.ensures c.args.symbols.now name ∙ u name)
    c.search-result.ensures.added
