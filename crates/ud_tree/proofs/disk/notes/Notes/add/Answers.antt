use Rattle.std.proofs.Common.{List, subst, sym}
use Rattle.std.proofs.Math.Logic.{∥∥₁_map}
use Rattle.std.proofs.lemmas.List.Elements.{All-cons}
use Rattle.std.specs.List.{All}
use Rattle.ud_replace.specs.Calls.{Call}
use Rattle.ud_tree.specs.EvidentCalls.{IsEvident}
use Rattle.ud_tree.proofs.disk.notes.Notes.add.Goals as goal

pub invariant_of-self : goal.invariant_of-self
invariant_of-self g c =
    let P : Call → Type 0 = IsEvident g.S.Looks.looking g.S.Changes.changing g.S.File.Read.remaining g.S.Old.Read.remaining g.S.Old.Write.contents in
    record {
      evident = subst (λ (l : List Call). ∥ All P l ∥₁) (sym c.with-self.ensures)
          (∥∥₁_map c.args.self.now.evident (All-cons P _ _ c.requires));
    }
