-- They aren't sought, or were found.
use Rattle.std.proofs.Common.{refl, sym, ◌∙◌, true≢false}
use Rattle.ud_replace.specs.Moments.{no_call}
use Rattle.ud_tree.proofs.other_files.find_others.Goals as goal

pub returns-then-not-seeks_others : goal.returns-then-not-seeks_others
returns-then-not-seeks_others g c = record {
  screen = record { quiet = refl; terminal = refl; shown = refl };
  remaining = refl;
  unnamed = refl;
  kept = λ lost. lost;
  seeks = record {
    touches = no_call;
    unsought = λ off. (refl, c.none.ensures);
    found = λ whole wanted. absurd (true≢false (sym wanted ∙ sym c.seeks_others.ensures ∙ c.if-not-seeks_others.true));
  };
}

pub returns-in-Ok : goal.returns-in-Ok
returns-in-Ok g c = record {
  screen = record { quiet = refl; terminal = refl; shown = refl };
  remaining = refl;
  unnamed = refl;
  kept = λ lost. lost;
  seeks = record {
    touches = c.others_of.ensures.touches;
    unsought = λ off. absurd (true≢false (sym c.if-not-seeks_others.false ∙ c.seeks_others.ensures ∙ off));
    found = λ whole wanted. c.in-Ok.ensures.others;
  };
}
