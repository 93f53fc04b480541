use Rattle.std.proofs.Common.{◌≡◌, refl, sym, ap₂, map, string_bytes, ◌∙◌, inl}
use Rattle.ud_model.specs.answer.CommandLine.{options_of, display_name}
use Rattle.ud_io.specs.Watched.{AppendsAllOrPrefix}
use Rattle.ud_io.proofs.BufferingLemmas.{all_or_prefix_same}
use Rattle.unifdef.specs.RunMessages.{final_result, result_message, result_status}
use Rattle.unifdef.proofs.EndedLemmas.{flushed_went, read_reported, write_reported}
use Rattle.unifdef.proofs.HeadlineLemmas.{usage_answers, flushed_answers, flushed_kept_up}
use Rattle.unifdef.proofs.running.tool.Goals as goal
use Rattle.unifdef.proofs.running.tool.Given.{Over}

-- the message names the input of the arguments, and reports how the run and the flush ended
message_is : (g : Over) (c : goal.After-drop-plan-inside g) →
    AppendsAllOrPrefix c.report_result.new.err.failed (g.E.Write.contents c.args.err.now.inner) (g.E.Write.contents c.report_result.new.err.inner)
    (result_message (display_name (map string_bytes c.args.args.now)) (final_result c.run-ran.result c.flush-flushed.result))
message_is g c =
    all_or_prefix_same c.report_result.new.err.failed _ _ _ _ (ap₂ result_message (c.display_name.ensures c.in-Ok.ensures.ok) c.final_result-ended.ensures) c.report_result.ensures.message

-- the status is that of this end, too
status_is : (g : Over) (c : goal.After-drop-plan-inside g) →
    c.report_result.result ≡ result_status (options_of (map string_bytes c.args.args.now)).settings (final_result c.run-ran.result c.flush-flushed.result)
status_is g c = c.report_result.ensures.status ∙ ap₂ result_status (c.settings.ensures ∙ c.in-Ok.ensures.ok.said) c.final_result-ended.ensures

pub returns-in-Ok-clause-lag : goal.returns-in-Ok-clause-lag
returns-in-Ok-clause-lag g c = λ right.
    inl (flushed_kept_up (options_of (map string_bytes c.args.args.now)) _ _ _ _ _
    (c.run-ran.ensures.finished (options_of (map string_bytes c.args.args.now)) (sym c.in-Ok.ensures.ok.said) c.in-Ok.ensures.ok.represents).lag
    c.flush-flushed.ensures.unchanged)

pub returns-in-Ok-clause-ended : goal.returns-in-Ok-clause-ended
returns-in-Ok-clause-ended g c = λ right.
    inl (record {
      ran = c.run-ran.result;
      flushed = c.flush-flushed.result;
      ended = flushed_went (options_of (map string_bytes c.args.args.now)) _ _ _ _ _ c.run-ran.result
          (c.run-ran.ensures.finished (options_of (map string_bytes c.args.args.now)) (sym c.in-Ok.ensures.ok.said) c.in-Ok.ensures.ok.represents).ended
          c.flush-flushed.ensures.unchanged;
      read_failed = read_reported c.run-ran.new.reader.failed c.run-ran.result c.run-ran.ensures.error_matches.read_fails.0 c.run-ran.ensures.error_matches.read_fails.1;
      write_failed = write_reported c.run-ran.new.out.failed c.flush-flushed.new.self.failed c.flush-flushed.result c.run-ran.result
          c.run-ran.ensures.error_matches.write_fails.0 c.run-ran.ensures.error_matches.write_fails.1 c.flush-flushed.ensures.failed c.flush-flushed.ensures.fused;
      reported = message_is g c;
      answered = status_is g c;
    })

pub returns-in-Ok-clause-answer : goal.returns-in-Ok-clause-answer
returns-in-Ok-clause-answer g c = λ read_works write_works.
    flushed_answers _ c.run-ran.result c.run-ran.new.out.failed c.flush-flushed.result _ c.in-Ok.ensures.ok.right
    ((c.run-ran.ensures.finished (options_of (map string_bytes c.args.args.now)) (sym c.in-Ok.ensures.ok.said) c.in-Ok.ensures.ok.represents).ran read_works)
    c.flush-flushed.ensures.unchanged c.flush-flushed.ensures.failed c.flush-flushed.ensures.fused write_works (message_is g c) (status_is g c)

-- rejected arguments have a fault, or memory couldn't be allocated
pub returns-in-Err-clause-answer : goal.returns-in-Err-clause-answer
returns-in-Err-clause-answer g c = λ read_works write_works.
    usage_answers _ c.in-Err.fault refl refl refl c.report_usage.ensures refl c.in-Err.ensures.err
