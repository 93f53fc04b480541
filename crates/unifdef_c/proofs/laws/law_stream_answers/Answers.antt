use Rattle.std.proofs.Common.{refl, sym, subst, List, ℕ}
use Rattle.unifdef_c.specs.declared.stream.Fed.TheVariants as is
use Rattle.unifdef_c.specs.StreamCourses.{GoesOn, HasStopped, IsAnswerOf}
use Rattle.unifdef_c.proofs.CourseLemmas.{begins, feeds, stops, takes, answers, stopped, stopped_takes, stopped_feeds, ended_takes}
use Rattle.unifdef_c.proofs.laws.law_stream_answers.Goals as goal

pub returns-clause-begins : goal.returns-clause-begins
returns-clause-begins c = begins

pub returns-clause-feeds : goal.returns-clause-feeds
returns-clause-feeds c = λ args text given chunk s t g w. feeds args text given chunk s t is.Accepted g w refl

pub returns-clause-stops : goal.returns-clause-stops
returns-clause-stops c = λ args text given chunk s t g w. stops args text given chunk s t is.Faulty g w refl

pub returns-clause-takes : goal.returns-clause-takes
returns-clause-takes c = λ args text given more s t g w.
    subst (λ (x : List ℕ). GoesOn args text x t) (sym w.more_is)
    (takes args text given w.buffer w.buffer' w.count s t w.takes g)

pub returns-clause-answers : goal.returns-clause-answers
returns-clause-answers c = λ args text given s t r g w no. answers args text given s t r g w no

pub returns-clause-stopped : goal.returns-clause-stopped
returns-clause-stopped c = λ args text given later s t f r h w. stopped args text given s t later f r h w

pub returns-clause-stopped_takes : goal.returns-clause-stopped_takes
returns-clause-stopped_takes c = λ args text given more s t f h w.
    subst (λ (x : List ℕ). HasStopped args text x t f) (sym w.more_is)
    (stopped_takes args text given w.buffer w.buffer' w.count s t w.takes f h)

pub returns-clause-stopped_feeds : goal.returns-clause-stopped_feeds
returns-clause-stopped_feeds c = λ args text given chunk s t f fed h w.
    stopped_feeds args text given s t chunk fed f h w

pub returns-clause-ended_takes : goal.returns-clause-ended_takes
returns-clause-ended_takes c = λ args text given more s t r a w.
    subst (λ (x : List ℕ). IsAnswerOf args text x t r) (sym w.more_is)
    (ended_takes args text given w.buffer w.buffer' w.count s t w.takes r a)
