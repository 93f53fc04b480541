use Rattle.std.proofs.Common.{◌≡◌, ◌++◌, length, map, string_bytes}
use Rattle.unifdef_c.specs.Words.{words_of, AreUtf8}
use Rattle.unifdef_c.proofs.args.parse_words.Given as goal

abbrev pub invariant-words : goal.invariant-words
invariant-words l = (words_of l.words ≡ map string_bytes l.args.items ++ words_of l.rest) × AreUtf8 (map string_bytes l.args.items)

abbrev pub decreases-words : goal.decreases-words
decreases-words l = length l.rest
