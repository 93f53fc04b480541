-- Each row sets the entry of its name.
use Rattle.ud_cond.proofs.lemmas.symbols.TableLemmas.{represents-changes}
use Rattle.ud_cond.proofs.symbols.Symbols.from_rows.Goals as goal

pub rows-preserved : goal.rows-preserved
rows-preserved c = represents-changes c.rows.symbols c.add.new.self c.rows.yielded c.in-Some.row c.in_ok-add.ensures.ok c.rows.invariant
