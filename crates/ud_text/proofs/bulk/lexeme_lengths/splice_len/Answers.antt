-- The first bytes are a backslash and an ending.
use Rattle.std.proofs.Common.{◌≡◌, ◌∷◌, [], take, sym, subst, rules}
use Rattle.ud_text.specs.bulk.BulkLexemes.{IsSplice, splice_newline, splice_return_feed}
use Rattle.ud_model.specs.text.Bytes.{backslash, carriage_return, newline}
use Rattle.ud_text.proofs.bulk.lexeme_lengths.splice_len.Goals as goal

pub returns-then-starts_with-clause-splice : goal.returns-then-starts_with-clause-splice
returns-then-starts_with-clause-splice c =
    let e : take 2 c.args.rest.now ≡ backslash ∷ newline ∷ [] = search rules in subst IsSplice (sym e) splice_newline

pub returns-then-starts_with-2-clause-splice : goal.returns-then-starts_with-2-clause-splice
returns-then-starts_with-2-clause-splice c =
    let e : take 3 c.args.rest.now ≡ backslash ∷ carriage_return ∷ newline ∷ [] = search rules in subst IsSplice (sym e) splice_return_feed
