use Rattle.std.proofs.Math.ListN.{length-take}
use Rattle.std.proofs.lemmas.Grind.{common_steps}
use Rattle.std.proofs.Common.{ℕ, List, sym, ◌∙◌, subst, arith}
use Rattle.std.specs.Io.KnownBytes.{Consumes}
use Rattle.std.proofs.KnownBytes.{Consumes-nil}
use Rattle.ud_tree.proofs.StreamLemmas.{reads_more, reads_end}
use Rattle.ud_tree.proofs.find_files.read_input.Goals as goal

pub loop-read-init : goal.loop-read-init
loop-read-init g c = record {
  works = sym c.failed.ensures ∙ c.if-failed.false;
  consumed = subst (λ (t : List ℕ). Consumes (g.R.Read.remaining c.args.input.now.inner)
      (g.R.Read.remaining c.args.input.now.inner) t) (sym c.requires.empty)
      (Consumes-nil (g.R.Read.remaining c.args.input.now.inner));
  many = omega arith;
}

pub read-requires : goal.read-requires
read-requires g c = record { not_failed = c.loop-read.invariant.works }

pub returns-then-count-eq0-clause-all : goal.returns-then-count-eq0-clause-all
returns-then-count-eq0-clause-all g c =
    λ all. reads_end _ c.in-Some.count c.read.new.buf c.loop-read.text.items c.if-count-eq0.true
    (omega arith) c.loop-read.invariant.consumed c.in-Some.ensures.once c.in-Some.ensures.failed

pub loop-read-preserved : goal.loop-read-preserved
loop-read-preserved g c = record {
  works = c.in-Some.ensures.failed;
  consumed = reads_more _ _ _ c.in-Some.count c.read.new.buf c.loop-read.text.items c.in_ok-extend_from_slice.ensures.items c.loop-read.invariant.consumed c.in-Some.ensures.once.1;
  many = grind (arith, common_steps, length-take, c.in_ok-extend_from_slice.ensures.items, c.if-count-eq0.false, c.in-Some.ensures.once.0, c.loop-read.invariant.many);
}

pub unreachable-requires : goal.unreachable-requires
unreachable-requires g c = omega (arith, c.loop-read.invariant.many)
