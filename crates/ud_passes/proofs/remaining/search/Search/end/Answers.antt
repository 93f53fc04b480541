-- By whether there is a mention, and names a listed symbol.
use Rattle.std.proofs.Common.{◌≡◌, true, sym, ◌∙◌, ap, subst, arith, rules}
use Rattle.std.proofs.lemmas.Result.{on_ok_weaker}
use Rattle.ud_passes.specs.remaining.ListedNames.{names_by}
use Rattle.ud_passes.specs.remaining.Searches.{Appends, begun_as, ended}
use Rattle.ud_passes.proofs.SearchLemmas.{appends_listed, appends_none, appends_unlisted}
use Rattle.ud_passes.proofs.remaining.search.Search.end.Goals as goal

pub returns-then-not-names_listed-clause-appends : goal.returns-then-not-names_listed-clause-appends
returns-then-not-names_listed-clause-appends c = λ calls h.
    grind (arith, appends_unlisted, c.names_listed.ensures calls h)

pub returns-in_default-clause-appends : goal.returns-in_default-clause-appends
returns-in_default-clause-appends c = λ calls h.
    subst (λ b. Appends c.args.symbols.now calls c.args.name.now (ended (begun_as b c.args.self.now.after.items)) c.args.self.now c.args.self.now) (sym c.in_default.is)
    (appends_none c.args.symbols.now calls c.args.name.now c.args.self.now)

pub returns-clause-appends : goal.returns-clause-appends
returns-clause-appends c = on_ok_weaker c.append.result (λ line. λ calls h.
    let rows = c.args.symbols.now in let b = c.in-Some.begun in let t = c.tally.ensures in let u = c.unmark.ensures in let a = c.append.ensures in
    let named : names_by calls b.class c.as_slice.result.now ≡ true = sym (c.names_listed.ensures calls h) ∙ search rules in
    appends_listed rows calls c.args.name.now c.args.begun b c.args.self.now.after.items c.args.self.now c.append.new.self c.in-Some.is
    (ap (names_by calls b.class) (sym c.as_slice.ensures.value) ∙ named)
    (line calls h ∙ grind (arith, t.list, u.list, t.listing, u.listing, t.after, u.after))
    (λ small. a.count ∙ u.count ∙ t.count small) (λ some. rw (a.count, u.count) (t.some some)) (λ small. a.defined ∙ u.defined ∙ t.defined small) (a.listing ∙ u.listing ∙ t.listing)
    (rw (a.unnamed, ← t.after, ← t.unnamed) u.unnamed))
    c.append.ensures.line
