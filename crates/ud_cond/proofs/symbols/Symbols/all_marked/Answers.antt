use Rattle.std.proofs.Common.{◌≡◌, length, replicate, true, rules}
use Rattle.ud_cond.proofs.lemmas.symbols.MarkLemmas.{all-marked}
use Rattle.ud_cond.proofs.symbols.Symbols.all_marked.Goals as goal

pub returns : goal.returns
returns c =
    let all : c.resize.new.self.items ≡ replicate (length c.args.self.now) true = search rules in
    rw all (all-marked c.args.self.now)
