use Rattle.std.proofs.Common.{◌∙◌, is_ok, sym, ap, subst}
use Rattle.ud_cond.specs.symbols.Keys.{key_of}
use Rattle.ud_cond.specs.symbols.SymbolTable.{IsGapFor}
use Rattle.ud_cond.specs.symbols.NameFilters.{slot_is_set, has_slot}
use Rattle.ud_cond.proofs.lemmas.symbols.SortedLemmas.{sorted-added}
use Rattle.ud_cond.proofs.lemmas.symbols.FilterLemmas.{noted-kept, noted-added}
use Rattle.ud_cond.proofs.symbols.Symbols.insert_at.Goals as goal

pub invariant_of-self : goal.invariant_of-self
invariant_of-self c =
    let gap = subst (λ rows. IsGapFor rows c.args.i c.args.row.name) (sym c.self.view_is) c.requires.gap in
    let new = ap (slot_is_set c.insert.new.self.words) (sym c.requires.keyed) ∙ c.insert.ensures.inserted in
    rw c.insert-added.ensures.items (
      sorted-added c.self.inside.rows.items c.args.i c.args.row (is_ok c.insert-added.result) c.self.invariant.0 gap,
      noted-added (has_slot c.insert.new.self.words) c.self.inside.rows.items c.args.i c.args.row (is_ok c.insert-added.result)
          (noted-kept (has_slot c.self.inside.filter.words) (has_slot c.insert.new.self.words) c.self.inside.rows.items
          (λ name. c.insert.ensures.others_kept (key_of name)) c.self.invariant.1) gap.within new,
    )
