use Rattle.std.proofs.Common.{map, ap, ◌∙◌, ◌-◌, rules}
use Rattle.ud_model.specs.sections.Items.{reading_of}
use Rattle.ud_model.specs.sections.Directives.{content_of}
use Rattle.ud_model.specs.answer.Listing.{names_in_content, depth_prefix}
use Rattle.ud_model.specs.aids.LineViews.{as_line}
use Rattle.ud_io.specs.Streams.{stream_of}
use Rattle.ud_engine.proofs.DeciderLemmas.{scans_one}
use Rattle.ud_engine.proofs.NameListingLemmas.{lists_one}
use Rattle.ud_engine.proofs.line_decider.LineDecider.list_names.Goals as goal

pub returns : goal.returns
returns g c = record {
  lists = λ o xs t represents h.
      let before = map reading_of xs in
      let s = scans_one o _ xs t (as_line c.args.line.now) _ c.mode.result
      (c.mode.ensures o xs t h.read) h.read h.no_fault
      (c.read_into-scan.ensures.value before h.carries)
      (c.read_into-scan.ensures.represents before h.carries) in
      let read = c.in_ok-step_by.ensures.represents o xs t s.read (record { scanned = s.scanned; represents = represents }) in
      let depth = c.depth.ensures.value o _ read.tree read.read in
      lists_one o c.args.lister.now xs t read.tree (as_line c.args.line.now) h.read.sound read.read.sound _
      (c.names_in.ensures ∙ ap names_in_content c.directive-content.ensures.value ∙ ap (λ s. names_in_content (content_of s)) s.scanned) c.prefix.result.now
      (c.prefix.ensures.text ∙ ap (depth_prefix c.args.lister.now) (c.saturating_sub-outer.ensures ∙ ap (λ n. n - 1) depth))
      _ (record { read = read.read; no_fault = c.in_ok-step_by.ensures.no_fault.1; carries = s.carries })
      (stream_of g.W.Write.contents c.args.out.now) (stream_of g.W.Write.contents c.append.new.out) (stream_of g.W.Write.contents c.append_names.new.out)
      c.args.output.now c.append.new.self c.append_names.new.output c.args.pending.now c.append.ensures c.append_names.ensures;
  unchanged = search rules;
  stays = search rules;
}
