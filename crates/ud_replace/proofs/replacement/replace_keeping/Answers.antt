use Rattle.std.proofs.Common.{sym}
use Rattle.std.proofs.lemmas.Result.{err_from_is_err_and}
use Rattle.ud_replace.specs.Replacing.{unread, other_file, judged, keeps}
use Rattle.ud_replace.proofs.OutcomeLemmas.{judges_failed, judges_same, judges_differs, is_output}
use Rattle.ud_replace.proofs.StepLemmas.{judges_from}
use Rattle.ud_replace.proofs.replacement.replace_keeping.Goals as goal

pub returns-in_default : goal.returns-in_default
returns-in_default g c = record { calls = λ o p. unread c.in_default.ensures.noted; output = λ o p ok. absurd cc }

pub returns-then-not-is_of : goal.returns-then-not-is_of
returns-then-not-is_of g c = record { calls = λ o p. other_file c.in-Some.stat (sym c.if-not-is_of.ensures) c.in-Some.ensures.noted; output = λ o p ok. absurd cc }

pub returns-in_err-differs-clause-calls : goal.returns-in_err-differs-clause-calls
returns-in_err-differs-clause-calls g c = λ o p.
    let e = err_from_is_err_and c.from_residual.result c.from_residual.ensures.1 in
    rw (e.1, e.2) (judged c.in-Some.stat (sym c.if-not-is_of.ensures) (judges_from (rw (← c.run.ensures.text) at c.in-Some.ensures.noted) (judges_failed (c.in_err-differs.ensures.ran o p))))

pub returns-then-not-differs : goal.returns-then-not-differs
returns-then-not-differs g c =
    let noted = rw (← c.run.ensures.text) at c.in-Some.ensures.noted in
    record {
      calls = λ o p. judged c.in-Some.stat (sym c.if-not-is_of.ensures) (judges_from noted (judges_same (c.in_ok-differs.ensures.ran o p) c.if-not-differs.true));
      output = λ o p ok.
          keeps c.in-Some.stat (sym c.if-not-is_of.ensures) (judges_from noted (judges_same (c.in_ok-differs.ensures.ran o p) c.if-not-differs.true))
          (is_output (c.in_ok-differs.ensures.ran o p));
    }

pub returns : goal.returns
returns g c =
    let noted = rw (← c.run.ensures.text) at c.in-Some.ensures.noted in
    let puts = rw c.as_slice-text.ensures.value at c.put.ensures in
    record {
      calls = λ o p. judged c.in-Some.stat (sym c.if-not-is_of.ensures)
          (judges_from noted (judges_differs (c.in_ok-differs.ensures.ran o p) c.if-not-differs.false c.output.ensures puts));
      output = λ o p ok.
          keeps c.in-Some.stat (sym c.if-not-is_of.ensures)
          (judges_from noted (judges_differs (c.in_ok-differs.ensures.ran o p) c.if-not-differs.false c.output.ensures puts))
          (is_output (c.in_ok-differs.ensures.ran o p));
    }
