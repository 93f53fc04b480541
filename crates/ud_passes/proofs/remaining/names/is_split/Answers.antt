use Rattle.std.proofs.Common.{◌≡◌, ℕ, nat_eq, List, [], ◌∷◌, false, arith}
use Rattle.std.specs.List.{starts_with}
use Rattle.ud_model.specs.text.Bytes.{starts_with_byte}
use Rattle.ud_passes.proofs.NameLemmas.{ends_in_word-last}
use Rattle.ud_passes.proofs.remaining.names.is_split.Goals as goal

begins : (b : ℕ) (t : List ℕ) → starts_with nat_eq t (b ∷ []) ≡ starts_with_byte b t
begins b [] = grind arith
begins b (c ∷ t) = grind arith

pub returns-then-starts_with : goal.returns-then-starts_with
returns-then-starts_with c =
    grind (
      arith,
      begins 10 c.args.after.now,
      c.if-starts_with.ensures.value,
      c.if-starts_with.true,
      c.if-is_word_byte.ensures,
      ends_in_word-last false c.args.before.now
          c.in-len1-up.len_at_least,
    )

pub returns-else-starts_with : goal.returns-else-starts_with
returns-else-starts_with c =
    grind (
      arith,
      begins 10 c.args.after.now,
      begins 13 c.args.after.now,
      c.if-starts_with.ensures.value,
      c.starts_with-else-starts_with.ensures.value,
      c.if-is_word_byte.ensures,
      ends_in_word-last false c.args.before.now
          c.in-len1-up.len_at_least,
    )

pub returns-in_default-2 : goal.returns-in_default-2
returns-in_default-2 c =
    grind (
      arith,
      c.if-is_word_byte.ensures,
      ends_in_word-last false c.args.before.now
          c.in-len1-up.len_at_least,
    )
