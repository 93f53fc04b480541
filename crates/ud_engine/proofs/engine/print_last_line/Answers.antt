use Rattle.std.proofs.Common.{rules, sym, subst, [], ◌++◌, append-nil, arith}
use Rattle.ud_model.specs.text.Lines.{Line, NoNewline}
use Rattle.ud_model.specs.aids.LineViews.{as_line}
use Rattle.ud_engine.specs.Finishing.{without_fault}
use Rattle.ud_io.specs.Streams.{stream_of, TakesAllBut}
use Rattle.ud_engine.proofs.EndLemmas.{last_printed, last_cut, last_fails}
use Rattle.ud_engine.proofs.engine.print_last_line.Goals as goal
use Rattle.ud_text.proofs.lemmas.scan.MaskLemmas.{no_newline-take}

pub put_line-requires-clause-one_line : goal.put_line-requires-clause-one_line
put_line-requires-clause-one_line g c =
    subst (λ (l : Line). NoNewline l.body) (sym c.line.ensures.value)
    (grind (arith, no_newline-take))

pub returns-in-Err-put_line-clause-last : goal.returns-in-Err-put_line-clause-last
returns-in-Err-put_line-clause-last g c = λ s fed.
    last_fails g.S.Show.represents g.S.Show.piece s.options s.pieces (without_fault c.args.symbols.now c.args.lines.now c.args.printer.now c.args.output.now) s.text s.printed fed (search rules)
    c.close.new.self c.in-Ok-true.ensures.value.1 (as_line c.line.result) c.line.ensures.value
    g.W.Write.contents c.args.out.now c.put_line.new.out c.requires.not_failed c.in-Err-put_line.ensures.unchanged.0 c.in-Err-put_line.fault
    (c.in-Err-put_line.ensures.prints s.options s.pieces fed.taken.items fed.taken.tree fed.taken.symbols fed.taken.has)

pub returns-else-failed-clause-last : goal.returns-else-failed-clause-last
returns-else-failed-clause-last g c = λ s fed.
    last_printed g.S.Show.represents g.S.Show.piece s.options s.pieces (without_fault c.args.symbols.now c.args.lines.now c.args.printer.now c.args.output.now) s.text s.printed fed (search rules)
    c.close.new.self c.in-Ok-true.ensures.value.1 (as_line c.line.result) c.line.ensures.value
    c.put_line.new.self (stream_of g.W.Write.contents c.args.out.now) (stream_of g.W.Write.contents c.put_line.new.out) (stream_of g.W.Write.contents c.flush.new.out) c.put_line.new.output
    (c.in-Ok.ensures.prints s.options s.pieces fed.taken.items fed.taken.tree fed.taken.symbols fed.taken.has) c.requires.not_failed
    (subst (λ x. TakesAllBut (stream_of g.W.Write.contents c.put_line.new.out) (stream_of g.W.Write.contents c.flush.new.out) x []) (append-nil c.put_line.new.output)
    (subst (λ x. TakesAllBut (stream_of g.W.Write.contents c.put_line.new.out) (stream_of g.W.Write.contents c.flush.new.out) (c.put_line.new.output ++ []) x) c.flush.ensures.empty c.flush.ensures.takes)) (search rules)

pub returns-then-failed-clause-last : goal.returns-then-failed-clause-last
returns-then-failed-clause-last g c = λ s fed. (
  search rules,
  last_cut g.S.Show.represents g.S.Show.piece s.options s.pieces (without_fault c.args.symbols.now c.args.lines.now c.args.printer.now c.args.output.now) s.text s.printed fed (search rules)
      c.close.new.self c.in-Ok-true.ensures.value.1 (as_line c.line.result) c.line.ensures.value
      c.put_line.new.self (stream_of g.W.Write.contents c.args.out.now) (stream_of g.W.Write.contents c.put_line.new.out) (stream_of g.W.Write.contents c.flush.new.out) c.put_line.new.output
      (c.in-Ok.ensures.prints s.options s.pieces fed.taken.items fed.taken.tree fed.taken.symbols fed.taken.has) c.requires.not_failed
      (subst (λ x. TakesAllBut (stream_of g.W.Write.contents c.put_line.new.out) (stream_of g.W.Write.contents c.flush.new.out) x []) (append-nil c.put_line.new.output)
      (subst (λ x. TakesAllBut (stream_of g.W.Write.contents c.put_line.new.out) (stream_of g.W.Write.contents c.flush.new.out) (c.put_line.new.output ++ []) x) c.flush.ensures.empty c.flush.ensures.takes)) (search rules),
)
