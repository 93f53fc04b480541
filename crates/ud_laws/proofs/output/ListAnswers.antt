-- The list of names, stated for arguments, an input and the answer to them.
use Rattle.std.proofs.Common.{◌≡◌, ◌≢◌, ℕ, List, None, refl, subst, arith}
use Rattle.ud_model.specs.sections.Items.{Options}
use Rattle.ud_model.specs.answer.CommandLine.{usage_fault, options_of}
use Rattle.ud_model.specs.answer.Answer.{Answer, IsAnswer, refused, ran}
use Rattle.ud_model.specs.answer.Outcomes.{HasOutcome}
use Rattle.ud_laws.specs.output.ListedNames.{with_listing, AgreeOnListed}
use Rattle.ud_laws.proofs.output.AnswerLaws.{faultless}
use Rattle.ud_laws.proofs.output.ListComplete.{list_complete}

-- Arguments with the same entries for the listed names have the same answer.
pub answered_by_list : {lister args more : List (List ℕ)} {input : List ℕ} {l a : Answer} → IsAnswer lister input l → l.status ≢ 2 →
    options_of lister ≡ with_listing (options_of args) → IsAnswer args input a → a.status ≢ 2 → usage_fault more ≡ None →
    (options_of more).settings ≡ (options_of args).settings → AgreeOnListed l.output (options_of args).table (options_of more).table → IsAnswer more input a
answered_by_list (refused f e) n g b k u same alike = absurd (n refl)
answered_by_list (ran r e d) n g (refused f h) k u same alike = absurd (k refl)
answered_by_list {lister = lister} {args = args} {more = more} {input = input} (ran r e d) n g (ran s f b) k u same alike =
    let calm : r.fault ≡ None = faultless (options_of lister).settings r.differs r.fault n in
    let quiet : s.fault ≡ None = faultless (options_of args).settings s.differs s.fault k in
    let there : HasOutcome (options_of more) input s =
    list_complete (options_of args) (options_of more) input (subst (λ (o : Options). HasOutcome o input r) g d) calm same alike b in
    subst (IsAnswer more input) (grind (arith, quiet, same)) (ran s u there)
