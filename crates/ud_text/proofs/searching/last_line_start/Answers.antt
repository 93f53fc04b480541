-- By the search from the end.
use Rattle.ud_text.proofs.lemmas.bulk.BulkPlainLemmas.{last_begins-none, last_begins-found}
use Rattle.ud_text.proofs.searching.last_line_start.Goals as goal

pub returns-in-Some : goal.returns-in-Some
returns-in-Some c = last_begins-found c.args.bytes.now c.in-Some.at c.in-Some.ensures.0 c.in-Some.ensures.1

pub returns-in-None : goal.returns-in-None
returns-in-None c = last_begins-none c.args.bytes.now c.in-None.ensures
