use Rattle.std.proofs.Common.{rules, tests, ◌∙◌}
use Rattle.std.proofs.lemmas.Iterator.{YieldsList-from_slice}
use Rattle.std.proofs.lemmas.Iterator.Search.{all_from_yields_List}
use Rattle.ud_model.specs.text.Bytes.{is_word_byte}
use Rattle.ud_model.proofs.text.ByteLemmas.{list_all-word}
use Rattle.ud_model.proofs.bytes.are_word_bytes.Goals as goal

pub returns : goal.returns
returns c =
    all_from_yields_List is_word_byte _ _ c.all.result c.all.ensures.ran (YieldsList-from_slice c.args.bytes.now cc) (λ x b q k. search (rules, tests))
    ∙ list_all-word c.args.bytes.now
