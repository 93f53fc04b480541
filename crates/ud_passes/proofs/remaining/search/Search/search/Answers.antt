-- From the first line to the last.
use Rattle.std.proofs.Common.{ℕ, List, [], length, append-nil, sym, ◌∙◌, ap, refl, arith}
use Rattle.ud_text.proofs.lemmas.scan.PassLemmas.{nothing_left}
use Rattle.ud_passes.proofs.LackingLemmas.{appends_nothing}
use Rattle.ud_passes.proofs.SearchLemmas.{first_place, all_searched}
use Rattle.ud_passes.proofs.remaining.search.Search.search.Goals as goal

pub loop-walk-init : goal.loop-walk-init
loop-walk-init c = record {
  grows = ([], sym (append-nil c.args.self.now.list.items));
  listing = refl;
  room = let e = ap (λ (x : List ℕ). length x) c.new-walk.ensures.rest in omega (arith, e);
  searched = λ calls h. first_place c.args.symbols.now calls c.args.mode c.args.name.now c.args.text.now c.args.self.now (length c.args.text.now) c.new-walk.result
      (ap (λ (x : List ℕ). length x) (sym c.new-walk.ensures.rest)) (c.new-walk.ensures.walked c.args.mode);
}

pub returns-clause-added : goal.returns-clause-added
returns-clause-added c = λ calls h.
    all_searched c.args.symbols.now calls c.args.mode c.args.name.now c.args.text.now c.args.self.now c.loop-walk.self c.end.new.self c.loop-walk.place c.loop-walk.walk (c.loop-walk.invariant.searched calls h)
    (nothing_left c.loop-walk.walk.rest.now (sym c.is_at_end.ensures ∙ c.loop-walk-test.false)) (c.in_ok-end.ensures.appends calls h)

pub returns-then-not-may_name-clause-added : goal.returns-then-not-may_name-clause-added
returns-then-not-may_name-clause-added c = λ calls h. appends_nothing c.args.symbols.now calls c.args.mode c.args.name.now c.args.text.now c.args.self.now (c.may_name.ensures.lacks calls h c.if-not-may_name.true) (c.may_name.ensures.unsplit c.if-not-may_name.true)
