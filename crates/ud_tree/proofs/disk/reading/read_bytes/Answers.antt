use Rattle.std.proofs.Common.{List, ℕ, sym, subst, arith}
use Rattle.std.proofs.KnownBytes.{Consumes-trans}
use Rattle.std.proofs.lemmas.Grind.{common_steps}
use Rattle.std.specs.Io.KnownBytes.{Consumes}
use Rattle.ud_tree.proofs.disk.reading.read_bytes.Goals as goal

pub loop-block-preserved : goal.loop-block-preserved
loop-block-preserved g c =
    let reads = c.in_ok-count.ensures.reads in record {
      consumed = subst (λ (t : List ℕ). Consumes (g.F.Read.remaining c.args.file.now) (g.F.Read.remaining c.read_block.new.file) t)
          (sym reads.appended) (Consumes-trans _ _ _ _ _ c.loop-block.invariant.consumed reads.consumed);
      many = grind (arith, common_steps, reads.appended, reads.counted, c.if-count-eq0.false, c.loop-block.invariant.many);
    }
