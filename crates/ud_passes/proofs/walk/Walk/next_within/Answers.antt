-- Text lines, or one line.
use Rattle.std.proofs.Common.{◌≡◌, ◌++◌, List, ℕ, take, take-append-drop, length-take, sym, ◌∙◌, ap, subst, arith}
use Rattle.std.proofs.lemmas.List.{take-take}
use Rattle.ud_model.specs.text.Scans.{Reading}
use Rattle.ud_text.specs.bulk.BulkScanning.{AreWholeLines, SkipsText}
use Rattle.ud_text.proofs.lemmas.scan.LongerTextLemmas.{skipped_none}
use Rattle.ud_passes.specs.Walks.{AreTexts, HaveBytes, Walked}
use Rattle.ud_passes.proofs.WalkLemmas.{texts_next}
use Rattle.ud_passes.proofs.walk.Walk.next_within.Goals as goal

pub returns-then-skipped-eq0-clause-next : goal.returns-then-skipped-eq0-clause-next
returns-then-skipped-eq0-clause-next c = λ text read w.
    c.next_line-then-skipped-eq0.ensures.next text read (record {
      done = w.done;
      is = w.is;
      ends = w.ends;
      read_is = w.read_is;
      count_is = w.count_is;
      represents = skipped_none c.args.mode _ _ c.skip_text-skipped.result _ (omega arith) c.skip_text-skipped.ensures.skips read w.represents;
    })

pub returns-clause-next : goal.returns-clause-next
returns-clause-next c = λ text read w.
    let rest : List ℕ = c.args.self.now.rest.now in
    let n = c.skip_text-skipped.result in
    let whole : take n (take c.min.result rest) ≡ take n rest = take-take n c.min.result rest (let few = c.skip_text-skipped.ensures.bound in let short = length-take c.min.result rest in omega (arith, few, short)) in
    subst (λ (x : List ℕ). (rs : List Reading) × AreTexts rs × HaveBytes x rs × Walked c.args.mode text (read ++ rs) c.split_at.result.1.now c.skip_text-skipped.new.self) (sym c.split_at.ensures.front)
    (texts_next c.args.mode text read rest c.args.self.now.scanner w c.requires.some _ _ c.skip_text-skipped.new.self
    (subst AreWholeLines whole c.skip_text-skipped.ensures.ends) (subst (SkipsText c.args.mode c.args.self.now.scanner c.skip_text-skipped.new.self) whole c.skip_text-skipped.ensures.skips)
    (ap (λ (x : List ℕ). take n rest ++ x) c.split_at.ensures.back ∙ take-append-drop n rest))
