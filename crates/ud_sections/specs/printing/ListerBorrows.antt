-- ListerBorrows: a lister once the borrow of its prefix has ended.
use Rattle.std.specs.Prelude.{◌≡◌, Bool}
use Rattle.std.specs.Borrow.{MutBor, Fml}
use Rattle.std.specs.Io.BufRead.{Rests}
use Rattle.ud_sections.specs.contracts.printing.lister.Lister.{the_row}

-- `StaysSame lister`: the borrow leaves the lister as it was.
abbrev pub StaysSame : MutBor Bool → Fml
StaysSame lister = Rests the_row lister (λ new. new ≡ lister.now)
