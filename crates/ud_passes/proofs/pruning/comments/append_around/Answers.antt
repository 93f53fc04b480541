-- By the scan of the text.
use Rattle.std.proofs.Common.{arith, ◌≡◌, ℕ, List, [], ◌++◌, map, take, drop, sym, ◌∙◌, ap, ap₂}
use Rattle.std.proofs.Common.{append_assoc}
use Rattle.ud_model.specs.text.Lexemes.{block_comment, shown, cells_in}
use Rattle.ud_model.specs.text.Scanning.{scan_after}
use Rattle.ud_model.specs.aids.LineViews.{as_scan}
use Rattle.ud_model.specs.declared.kind.Mode.TheVariants.{C}
use Rattle.ud_simplified.specs.CommentTexts.{text_line}
use Rattle.ud_text.proofs.lemmas.scan.MaskLemmas.{no_newline-take, no_newline-drop}
use Rattle.ud_passes.proofs.CellLemmas.{if_ok}
use Rattle.ud_passes.proofs.CommentLemmas.{shown_open, shown_around}
use Rattle.ud_passes.proofs.pruning.comments.append_around.Goals as goal

pub read_into-scan-requires-clause-one_line : goal.read_into-scan-requires-clause-one_line
read_into-scan-requires-clause-one_line c = grind (arith, no_newline-take, no_newline-drop)

pub returns-then-scan : goal.returns-then-scan
returns-then-scan c = let n : ℕ = c.args.at in
    let m : ℕ = c.args.len in
    let read : as_scan c.read_into-scan.result ≡ scan_after [] C (text_line (take m (drop n c.args.bytes.now))) =
    c.read_into-scan.ensures.value [] c.bare-scanner.ensures ∙ ap (λ (x : List ℕ). scan_after [] C (text_line x)) (c.split_bytes-2.ensures.front ∙ ap (take m) c.split_bytes.ensures.back) in
    if_ok c.append_spaces.result c.append_spaces.ensures (λ _ e. e ∙ ap (λ (x : List ℕ). c.args.shown.now.items ++ x) (sym (shown_open n m c.args.bytes.now (as_scan c.read_into-scan.result) read c.if-scan.true)))

pub returns : goal.returns
returns c = let n : ℕ = c.args.at in
    let m : ℕ = c.args.len in
    let old : List ℕ = c.args.shown.now.items in
    let masked : List ℕ = c.read_into-scan.result.masked.now in
    let front : List ℕ = map shown (cells_in block_comment (take n c.args.bytes.now)) in
    let back : List ℕ = map shown (cells_in block_comment (drop m (drop n c.args.bytes.now))) in
    let read : as_scan c.read_into-scan.result ≡ scan_after [] C (text_line (take m (drop n c.args.bytes.now))) =
    c.read_into-scan.ensures.value [] c.bare-scanner.ensures ∙ ap (λ (x : List ℕ). scan_after [] C (text_line x)) (c.split_bytes-2.ensures.front ∙ ap (take m) c.split_bytes.ensures.back) in
    if_ok c.append_spaces-3.result c.append_spaces-3.ensures (λ _ e. e
    ∙ ap₂ (λ (x y : List ℕ). x ++ y) (c.in_ok-extend_from_slice.ensures.items
    ∙ ap (λ (x : List ℕ). x ++ masked) (c.in_ok-append_spaces.ensures ∙ ap (λ (x : List ℕ). old ++ map shown (cells_in block_comment x)) c.split_bytes.ensures.front))
    (ap (λ (x : List ℕ). map shown (cells_in block_comment x)) (c.split_bytes-2.ensures.back ∙ ap (drop m) c.split_bytes.ensures.back))
    ∙ ap (λ (x : List ℕ). x ++ back) (append_assoc old front masked) ∙ append_assoc old (front ++ masked) back
    ∙ ap (λ (x : List ℕ). old ++ x) (sym (shown_around n m c.args.bytes.now (as_scan c.read_into-scan.result) read c.if-scan.false)))
