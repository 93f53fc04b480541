-- A line that was passed, or that was read.
use Rattle.std.proofs.Common.{◌<◌, length, length-append, arith}
use Rattle.std.proofs.lemmas.Bool.{lt-leb}
use Rattle.ud_model.specs.text.Lines.{Line, text_of}
use Rattle.ud_model.specs.aids.LineViews.{as_line}
use Rattle.ud_model.specs.declared.limits.TheConstants.{MAX_LINE_BYTES}
use Rattle.ud_passes.proofs.WalkLemmas.{line_next}
use Rattle.ud_passes.proofs.walk.Walk.next_line.Goals as goal

pub returns-then-used-gt-MAX_LINE_BYTES-clause-next : goal.returns-then-used-gt-MAX_LINE_BYTES-clause-next
returns-then-used-gt-MAX_LINE_BYTES-clause-next c = λ text read w.
    let k : Line = as_line c.line_in-line.result in
    let to = c.line_in-line.ensures.bytes in
    let n = length-append k.body k.ending in
    let long : MAX_LINE_BYTES < length (text_of k) = let more = c.if-used-gt-MAX_LINE_BYTES.true in omega (arith, n, more) in (
      lt-leb (length (text_of k)) MAX_LINE_BYTES long,
      line_next c.args.mode text read c.args.self.now.rest.now c.args.self.now.scanner w c.requires.some k to.0 to.1 c.line_in-line.ensures.value _ c.split_at.ensures.back _ (c.pass.ensures read w.represents),
    )

pub returns-clause-next : goal.returns-clause-next
returns-clause-next c = λ text read w.
    let to = c.line_in-line.ensures.bytes in (
      c.read_into-scan.ensures.value read w.represents,
      line_next c.args.mode text read c.args.self.now.rest.now c.args.self.now.scanner w c.requires.some (as_line c.line_in-line.result) to.0 to.1 c.line_in-line.ensures.value _ c.split_at.ensures.back _
          (c.read_into-scan.ensures.represents read w.represents),
    )
