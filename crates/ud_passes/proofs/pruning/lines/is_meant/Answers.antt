-- By the scan of the line alone.
use Rattle.std.proofs.Common.{◌≡◌, ℕ, List, [], length, arith, not, ◌&&◌, Bool, true, false, sym}
use Rattle.std.proofs.Common.{ap}
use Rattle.ud_model.specs.text.Lines.{Line}
use Rattle.ud_model.specs.text.Scans.{Scan}
use Rattle.ud_model.specs.sections.Directives.{Directive, content_of}
use Rattle.ud_simplified.specs.SimplifiedTexts.{has_directive}
use Rattle.ud_passes.specs.pruning.EditedLines.{is_meant}
use Rattle.ud_passes.proofs.CellLemmas.{if_ok}
use Rattle.ud_passes.proofs.pruning.lines.is_meant.Goals as goal

joined : (d : Directive) (bytes : List ℕ) (k : Line) (s : Scan) → s.joins_after ≡ true → false ≡ is_meant d bytes k s
joined d bytes k s e = ap (λ (b : Bool). not b && has_directive d bytes k (content_of s)) (sym e)

alone : (d : Directive) (bytes : List ℕ) (k : Line) (s : Scan) → s.joins_after ≡ false → has_directive d bytes k (content_of s) ≡ is_meant d bytes k s
alone d bytes k s e = ap (λ (b : Bool). not b && has_directive d bytes k (content_of s)) (sym e)

pub returns-then-scan : goal.returns-then-scan
returns-then-scan c = let scan = c.read_into-scan.ensures.value [] c.bare-scanner.ensures in
    grind (arith, joined, scan)

pub returns : goal.returns
returns c = let scan = c.read_into-scan.ensures.value [] c.bare-scanner.ensures in
    grind (arith, if_ok, alone, scan)

pub is_directive-requires-clause-within : goal.is_directive-requires-clause-within
is_directive-requires-clause-within c = let n : ℕ = length c.read_into-scan.result.masked.now in
    let m = c.read_into-scan.ensures.fits in
    let b = c.requires.fits in (n, omega (arith, m, b), c.directive.ensures.keyword_within)
