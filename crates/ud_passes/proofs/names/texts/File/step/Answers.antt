-- Text lines, or one line.
use Rattle.std.proofs.Common.{length, arith}
use Rattle.std.proofs.lemmas.Bool.{le-leb}
use Rattle.ud_model.specs.text.Lines.{text_of}
use Rattle.ud_model.specs.declared.limits.TheConstants.{MAX_LINE_BYTES}
use Rattle.ud_model.specs.aids.LineViews.{as_line}
use Rattle.ud_passes.proofs.UnlistedLemmas.{texts_more, line_more, line_found}
use Rattle.ud_passes.proofs.names.texts.File.step.Goals as goal

pub returns-in-Texts-clause-listed : goal.returns-in-Texts-clause-listed
returns-in-Texts-clause-listed c = λ text start l.
    let n = c.in-Texts.ensures.next text l.read l.walked in
    texts_more c.args.self text start c.args.found c.args.walk.now c.args.out.now.items l c.next.new.self c.in-Texts.bytes.now n.0 n.1 n.2 n.3 c.breaks_in.result c.breaks_in.ensures.count

pub returns-in-TooLong-clause-listed : goal.returns-in-TooLong-clause-listed
returns-in-TooLong-clause-listed c = λ text start l.
    let n = c.in-TooLong.ensures.next text l.read l.walked in
    line_more c.args.self text start c.args.found c.args.walk.now c.args.out.now.items l c.next.new.self (as_line c.in-TooLong.line) n.1 _ c.pass.ensures.number
    (grind (arith, n.0)) c.pass.ensures.count

pub returns-else-has_unlisted-clause-listed : goal.returns-else-has_unlisted-clause-listed
returns-else-has_unlisted-clause-listed c = λ text start l.
    let n = c.in-Fitting.ensures.next text l.read l.walked in
    line_more c.args.self text start c.args.found c.args.walk.now c.args.out.now.items l c.next.new.self (as_line c.in-Fitting.line) n.1 _ c.pass-in-Fitting.ensures.number
    (grind (arith, n.0, le-leb (length (text_of (as_line c.in-Fitting.line))) MAX_LINE_BYTES c.in-Fitting.ensures.fitting.1, c.has_unlisted.ensures, c.if-has_unlisted.false)) c.pass-in-Fitting.ensures.count

pub returns-then-has_unlisted-clause-listed : goal.returns-then-has_unlisted-clause-listed
returns-then-has_unlisted-clause-listed c = λ text start l.
    let n = c.in-Fitting.ensures.next text l.read l.walked in
    line_found c.args.self text start c.args.found c.args.walk.now c.args.out.now.items l c.next.new.self (as_line c.in-Fitting.line) n.1 _ c.in_ok-add-in-Fitting.ensures.number
    (grind (arith, n.0, le-leb (length (text_of (as_line c.in-Fitting.line))) MAX_LINE_BYTES c.in-Fitting.ensures.fitting.1, c.has_unlisted.ensures, c.if-has_unlisted.true)) c.in_ok-add-in-Fitting.ensures.count _ c.in_ok-add-in-Fitting.ensures.line
