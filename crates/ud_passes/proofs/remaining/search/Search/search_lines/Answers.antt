-- Text lines, or one line.
use Rattle.std.proofs.Common.{List, ℕ, length, refl, sym, subst, arith}
use Rattle.std.proofs.lemmas.Bool.{le-leb}
use Rattle.ud_model.specs.text.Lines.{Line, text_of}
use Rattle.ud_model.specs.aids.LineViews.{as_line, as_scan}
use Rattle.ud_model.specs.declared.limits.TheConstants.{MAX_LINE_BYTES}
use Rattle.ud_passes.specs.remaining.Searches.{IsClearTo}
use Rattle.ud_passes.proofs.SearchLemmas.{texts_clear, still_clear, texts_searched, fitting_searched, long_searched}
use Rattle.ud_passes.proofs.remaining.search.Search.search_lines.Goals as goal

pub returns-in-Texts-clause-searched : goal.returns-in-Texts-clause-searched
returns-in-Texts-clause-searched c = λ calls h text start s.
    let n = c.in-Texts.ensures.next text s.read s.walked in
    let rest : List ℕ = c.args.walk.now.rest.now in
    let clear = c.clear_until-until.ensures calls h s.clear in
    let front = c.in-Texts.ensures.prefix in
    texts_searched c.args.symbols.now calls c.args.mode c.args.name.now text start c.args.self.now c.args.place c.args.walk.now s c.args.self.now _ c.next_within.new.self
    (subst (IsClearTo calls c.clear_until-until.result) (sym c.next_within.ensures.rest) (still_clear calls c.clear_until-until.result _ rest clear)) c.in-Texts.bytes.now n.0 n.1
    (texts_clear calls c.clear_until-until.result c.in-Texts.bytes.now rest n.0 clear (omega arith) front.1 n.2) n.2 n.3
    (grind (arith, c.passable_len-maximum.ensures.begun, c.in-Texts.ensures.one)) refl c.lines_in.result c.lines_in.ensures.count refl refl refl refl refl refl

pub returns-in_ok-end_line-in-TooLong-clause-searched : goal.returns-in_ok-end_line-in-TooLong-clause-searched
returns-in_ok-end_line-in-TooLong-clause-searched c = λ calls h text start s.
    let n = c.in-TooLong.ensures.next text s.read s.walked in
    let e = c.in_ok-end_line-in-TooLong.ensures in
    let rest : List ℕ = c.args.walk.now.rest.now in
    let clear = c.clear_until-until.ensures calls h s.clear in
    long_searched c.args.symbols.now calls c.args.mode c.args.name.now text start c.args.self.now c.args.place c.args.walk.now s c.end_line.new.self c.in_ok-end_line-in-TooLong.field-0 c.next_within.new.self
    (subst (λ (u : ℕ). IsClearTo calls u c.next_within.new.self.rest.now) (sym e.until) (subst (IsClearTo calls c.clear_until-until.result) (sym c.next_within.ensures.rest) (still_clear calls c.clear_until-until.result _ rest clear)))
    (as_line c.in-TooLong.field-0) n.1 e.number c.args.self.now refl refl refl refl refl n.0 refl (e.ended calls h)

pub returns-in_ok-end_line-in-Fitting-clause-searched : goal.returns-in_ok-end_line-in-Fitting-clause-searched
returns-in_ok-end_line-in-Fitting-clause-searched c = λ calls h text start s.
    let n = c.in-Fitting.ensures.next text s.read s.walked in
    let k : Line = as_line c.in-Fitting.line in
    let e = c.in_ok-end_line-in-Fitting.ensures in
    let rest : List ℕ = c.args.walk.now.rest.now in
    let clear = c.clear_until-until.ensures calls h s.clear in
    fitting_searched c.args.symbols.now calls c.args.mode c.args.name.now text start c.args.self.now c.args.place c.args.walk.now s c.end_line-in-Fitting.new.self c.in_ok-end_line-in-Fitting.field-0 _
    (subst (λ (u : ℕ). IsClearTo calls u c.next_within.new.self.rest.now) (sym e.until) (subst (IsClearTo calls c.clear_until-until.result) (sym c.next_within.ensures.rest) (still_clear calls c.clear_until-until.result _ rest clear)))
    k n.1 e.number _ refl refl refl refl refl _ (as_scan c.in-Fitting.scan) n.0 (le-leb (length (text_of k)) MAX_LINE_BYTES c.in-Fitting.ensures.fitting.1)
    (c.in_ok-begun-in-Fitting.ensures calls h c.args.mode) (e.ended calls h)
