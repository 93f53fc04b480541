use Rattle.std.proofs.Common.{◌≡◌, true, suc, ◌<◌, length, inl, inr, sym, subst, arith}
use Rattle.ud_model.specs.text.Lines.{NoNewline, Line}
use Rattle.ud_text.specs.lines.LinesState.{LinesState, IsComplete}
use Rattle.ud_text.proofs.lemmas.lines.LinesLemmas.{represent_body, represent_last}
use Rattle.ud_text.proofs.lines.Lines.line.Goals as goal
use Rattle.std.proofs.lemmas.Grind.{common_steps}

-- a line that can be read has bytes
some_held : (lines : LinesState) → (lines.whole ≡ true → 0 < length lines.held) → IsComplete lines → 0 < length lines.held
some_held lines some (inl whole) = some whole
some_held lines some (inr ended) = ended.1

pub returns-clause-value : goal.returns-clause-value
returns-clause-value g c = grind (arith, c.split_ending.ensures.value (suc c.self.inside.consumed))

pub returns-clause-one_line : goal.returns-clause-one_line
returns-clause-one_line g c = λ text took.
    subst (λ (l : Line). NoNewline l.body) (sym (returns-clause-value g c)) (represent_body (suc c.args.self.now.before) c.args.self.now text took)

pub returns-clause-represents : goal.returns-clause-represents
returns-clause-represents g c = grind (arith, common_steps, represent_last, some_held)
