-- The bytes up to the `#`, and those that show that it begins no directive.
use Rattle.std.proofs.Common.{◌+◌, ◌-◌, List, ℕ, take, drop, length, true, rules}
use Rattle.std.proofs.lemmas.List.{take_rest}
use Rattle.ud_text.specs.bulk.BulkLexemes.{NoHash}
use Rattle.ud_text.specs.bulk.PlainText.{NoneBeginsDirective}
use Rattle.ud_text.proofs.lemmas.bulk.HashLemmas.{hashless_none, none_more}
use Rattle.ud_text.proofs.bulk.plain.before_directive_len.Goals as goal

up_to_hash : (lines : List ℕ) (at n : ℕ) → NoneBeginsDirective true (take at lines) → NoHash (take n (take (length lines - at) (drop at lines))) →
    NoneBeginsDirective true (take (at + n) lines)
up_to_hash lines at n h none = search (rules, none_more, hashless_none, take_rest)

pub returns-then-sign-lines-clause-text : goal.returns-then-sign-lines-clause-text
returns-then-sign-lines-clause-text c = search (rules, up_to_hash)

pub returns-then-count-eq0-clause-text : goal.returns-then-count-eq0-clause-text
returns-then-count-eq0-clause-text c = search (rules, up_to_hash)

pub loop-at-preserved : goal.loop-at-preserved
loop-at-preserved c = search (rules, none_more, up_to_hash)
