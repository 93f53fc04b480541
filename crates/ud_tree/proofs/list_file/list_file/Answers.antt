-- By the run over the file's text.
use Rattle.std.proofs.Common.{ℕ, List, [], is_ok, if◌then◌else◌, refl, sym, ap, ◌∙◌, subst, append-nil, arith}
use Rattle.std.proofs.lemmas.Result.{err_from_is_err_and}
use Rattle.ud_replace.specs.UnprunedRuns.{RunsUnpruned}
use Rattle.ud_tree.specs.Shown.{fails_over, not_read, unlisted}
use Rattle.ud_tree.proofs.ShownLemmas.{lists_into, added}
use Rattle.ud_tree.proofs.list_file.list_file.Goals as goal

pub returns-in_err-_stat : goal.returns-in_err-_stat
returns-in_err-_stat g c =
    let e = err_from_is_err_and c.from_residual.result c.from_residual.ensures.1 in
    rw (e.1, e.2) (record {
      listed = record { names = []; hidden = 0; hidden_list = [] };
      does = record { text = c.read_file.new.text.items; reads = c.in_err-_stat.ensures.reads; lists_file = λ o p. unlisted [] (not_read c.in_err-_stat.ensures.read) };
      adds = record {
        names = sym (append-nil c.args.names.now.list.items);
        hidden = λ small. omega arith;
        hidden_list = sym (append-nil c.args.names.now.hidden_list.items);
        lists = refl;
      };
    })

pub returns-in-Ok : goal.returns-in-Ok
returns-in-Ok g c =
    lists_into c.args.job.now.arguments.now c.list_text.result c.in_ok-_stat.ensures.reads c.in_ok-_stat.ensures.read (λ o p.
    subst (λ (x : List ℕ). RunsUnpruned o.run c.read_file.new.text.items x c.run_over-ran.new.out.inner.items c.in-Ok.field-0)
    (ap (λ v. v.items) c.new-listed.ensures.inner ∙ c.new.ensures.items)
    (subst (λ (x : List ℕ). RunsUnpruned o.run x c.new-listed.result.inner.items c.run_over-ran.new.out.inner.items c.in-Ok.field-0) c.as_slice.ensures.value
    (c.in-Ok.ensures o.run p.settings p.table)))
    c.as_slice-in-Ok.ensures.value (c.as_slice-output.ensures.value ∙ ap (λ v. v.items) c.inner.ensures) c.list_text.ensures

pub returns : goal.returns
returns g c = record {
  listed = record { names = if is_ok c.add-added.result then c.as_slice-output.result.now else []; hidden = 0; hidden_list = [] };
  does = record {
    text = c.read_file.new.text.items;
    reads = c.in_ok-_stat.ensures.reads;
    lists_file = λ o p. unlisted (if is_ok c.add-added.result then c.as_slice-output.result.now else [])
        (fails_over _ _ c.in_ok-_stat.ensures.read (rw c.as_slice.ensures.value at (c.in-Err.ensures o.run p.settings p.table)));
  };
  adds = record {
    names = c.add-added.ensures.list ∙ added (is_ok c.add-added.result) c.args.names.now.list.items c.as_slice-output.result.now;
    hidden = λ small. c.add-added.ensures.hidden ∙ omega arith;
    hidden_list = c.add-added.ensures.hidden_list ∙ sym (append-nil c.args.names.now.hidden_list.items);
    lists = c.add-added.ensures.lists;
  };
}
