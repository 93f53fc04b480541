use Rattle.ud_model.specs.answer.CommandLine.{options_of}
use Rattle.ud_laws.proofs.output.AnswerLaws.{answered_selects}
use Rattle.ud_laws.proofs.output.ReadInMode.{read_in_one_mode}
use Rattle.ud_laws.proofs.answer_laws.law_answer_selects.Goals as goal

pub returns-clause-readings : goal.returns-clause-readings
returns-clause-readings c = λ args p text t i. read_in_one_mode (options_of args) p text t i

pub returns-clause-selected : goal.returns-clause-selected
returns-clause-selected c = λ args input a s p ns us b d w v k. answered_selects s.answer s.no_fault p ns us b d w v k.c_world k.truths
