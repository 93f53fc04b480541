-- The scan of the output for a line.
use Rattle.std.proofs.Common.{◌≡◌, ℕ, ◌+◌, ◌≤◌, List, [], ◌∷◌, ◌++◌, length, take, drop, Bool, true, false, ◌&&◌, ◌||◌, refl, ◌∙◌, ap, ap₂, append_assoc, arith}
use Rattle.ud_model.specs.text.Bytes.{backslash}
use Rattle.ud_model.specs.text.Lines.{Line}
use Rattle.ud_model.specs.text.Scans.{Scan, plain_scan}
use Rattle.ud_model.specs.text.Splicing.{is_spliced, content, stays_open}
use Rattle.ud_model.specs.text.Lexemes.{LexemeKind, single}
use Rattle.ud_model.specs.text.Scanning.{is_block, comment_at}
use Rattle.ud_model.specs.aids.LexStates.{LexState, kind_in_state, state_after_line}
use Rattle.ud_model.specs.sections.Directives.{Content, Directive, Span, directive, content_of, is_continued_outside_comment, is_outside}
use Rattle.ud_model.specs.sections.Faults.{is_in_block}
use Rattle.ud_model.specs.answer.Printing.{opener_keyword, keyword_in}
use Rattle.ud_model.specs.declared.kind.CommentAt.{CommentAt}
use Rattle.ud_model.specs.declared.verdict.Verdict.TheVariants.{ToIf}
use Rattle.ud_model.proofs.output.ByLength.{each_opener}
use Rattle.ud_model.proofs.output.Each.{Each}
use Rattle.ud_model.proofs.output.Formed.{EndsIn, edited_body}
use Rattle.ud_model.proofs.output.DirectiveFront.{Front, directive_front, StartsDark, are_inert, inert_word}
use Rattle.ud_model.proofs.output.ExchangedScan.{Sane, drop_two, Exchanged, exchanged_scan, cut_scan}
use Rattle.ud_model.proofs.sections.KeywordLies.{keyword_lies}
use Rattle.ud_model.proofs.output.KeywordPlace.{IsInert, length-masked_after}
use Rattle.ud_model.proofs.output.LeftLines.{LeftLine, same_open, if_splice, if_line_content, cut_splice, cut_line_content}
use Rattle.ud_model.proofs.text.ScanLaws.{place_after, white_after, masked_after, scan_from}

-- A line that becomes an `#if` has the scan as before but for its keyword.
pub record SeenAsIf (u : Bool) (s now : Scan) (d : Directive) : Type 0 where
  pub masked_is : now.masked ≡ take d.keyword.at s.masked ++ (opener_keyword u d.keyword.len ++ d.after)
  pub fresh_is : now.fresh ≡ s.fresh
  pub cut_is : is_continued_outside_comment now ≡ is_continued_outside_comment s
  pub joins_is : now.joins_after ≡ s.joins_after
  pub comment_is : now.comment ≡ s.comment

-- A line that ends after its new keyword is scanned up to there, and joins nothing.
pub record SeenCut (s now : Scan) (d : Directive) (word : List ℕ) : Type 0 where
  pub masked_is : now.masked ≡ take d.keyword.at s.masked ++ word
  pub fresh_is : now.fresh ≡ s.fresh
  pub cut_is : is_continued_outside_comment now ≡ false
  pub joins_is : now.joins_after ≡ false
  pub calm : is_in_block now.comment ≡ false

-- Two lines end in the same state, after a text with this state.
pub record NextAlike (w : LexState) (white : Bool) (l k : Line) : Type 0 where
  pub stays_is : stays_open k ≡ stays_open l
  pub place_is : place_after w (content k) ≡ place_after w (content l)
  pub white_is : white_after w white (content k) ≡ white_after w white (content l)

-- 1. In plain mode.

plain_after : (l : Line) (d : Directive) → content_of (plain_scan l) ≡ directive d → drop (d.keyword.at + d.keyword.len) l.body ≡ d.after
plain_after l d e = let p : Front (plain_scan l) d = directive_front (plain_scan l) d e in
    ap (λ (t : List ℕ). drop (d.keyword.at + d.keyword.len) t) p.masked_is
    ∙ drop_two (p.white ++ 35 ∷ p.gap) p.word d.after (d.keyword.at + d.keyword.len) (ap₂ (λ (a b : ℕ). a + b) p.at_is p.len_is)

-- A line that becomes an `#if` is scanned so.
pub plain_if : (u : Bool) (l k : Line) (d : Directive) → content_of (plain_scan l) ≡ directive d → LeftLine u ToIf d.keyword l k → SeenAsIf u (plain_scan l) (plain_scan k) d
unfolding edited_body
plain_if u l k d e h = grind (arith, append_assoc, plain_after)

-- A line that ends after its new keyword is scanned so.
pub plain_cut : (l k : Line) (d : Directive) (word : List ℕ) → k.body ≡ take d.keyword.at l.body ++ word → SeenCut (plain_scan l) (plain_scan k) d word
plain_cut l k d word b = record { masked_is = b; fresh_is = refl; cut_is = refl; joins_is = refl; calm = refl }

-- 2. In C mode, from the state after the lines before.

-- Lines with the same bytes end in the same state.
pub same_next : (w : LexState) (white : Bool) (l k : Line) → k.body ≡ l.body → k.ending ≡ l.ending → NextAlike w white l k
same_next w white l k b e = grind arith

keyword_within : (w : LexState) (white on : Bool) (l : Line) (d : Directive) → content_of (scan_from w white on l) ≡ directive d → d.keyword.at + d.keyword.len ≤ length (content l)
unfolding scan_from
keyword_within w white on l d e = let k : Span = keyword_in (content_of (scan_from w white on l)) in
    let a : k.at + k.len ≤ length (masked_after w [] (content l)) = keyword_lies (scan_from w white on l) in
    let b : length (masked_after w [] (content l)) ≡ length (content l) = length-masked_after (content l) w [] ∙ omega arith in
    let c : k.at + k.len ≡ d.keyword.at + d.keyword.len = ap (λ (t : Content). (keyword_in t).at + (keyword_in t).len) e in
    omega (arith, a, b, c)

-- The scan of a line that becomes an `#if`.
pub record IfScan (u : Bool) (w : LexState) (white on : Bool) (l k : Line) (d : Directive) : Type 0 where
  pub scanned : SeenAsIf u (scan_from w white on l) (scan_from w white on k) d
  pub next : NextAlike w white l k

-- A line that becomes an `#if` is scanned so, and ends in the same state as before.
pub if_scan : (u : Bool) (w : LexState) (white on : Bool) (l k : Line) (d : Directive) → Sane w white → content_of (scan_from w white on l) ≡ directive d → LeftLine u ToIf d.keyword l k →
    IfScan u w white on l k d
unfolding scan_from
if_scan u w white on l k d s e h =
    let within : d.keyword.at + d.keyword.len ≤ length (content l) = keyword_within w white on l d e in
    let x : Exchanged w white on l k d (opener_keyword u d.keyword.len) =
    exchanged_scan w white on l k d (opener_keyword u d.keyword.len) s e (inert_word (opener_keyword u d.keyword.len) (each_opener (λ v. are_inert v ≡ true) refl refl refl refl refl refl u d.keyword.len))
    (each_opener StartsDark refl refl refl refl refl refl u d.keyword.len) (if_line_content u d.keyword l k within h) in
    let p : is_spliced k ≡ is_spliced l = if_splice u d.keyword l k within h in
    let t : stays_open k ≡ stays_open l = same_open l k p h.ending in
    let v : state_after_line (stays_open k) (place_after w (content k)) ≡ state_after_line (stays_open l) (place_after w (content l)) =
    ap₂ (λ (b : Bool) (q : LexState). state_after_line b q) t x.place_is in
    let c : comment_at (is_spliced k) (kind_in_state (state_after_line (stays_open k) (place_after w (content k))))
    ≡ comment_at (is_spliced l) (kind_in_state (state_after_line (stays_open l) (place_after w (content l)))) =
    ap₂ (λ (b : Bool) (q : LexState). comment_at b (kind_in_state q)) p v in
    record {
      scanned = record {
        masked_is = x.masked_is;
        fresh_is = x.fresh_is;
        cut_is = ap₂ (λ (b : Bool) (q : CommentAt). b && is_outside q) p c;
        joins_is = ap₂ (λ (b : Bool) (q : LexState). b || is_block (kind_in_state q)) p v;
        comment_is = c;
      };
      next = record { stays_is = t; place_is = x.place_is; white_is = x.white_is };
    }

-- A line that ends after its new keyword is scanned so.
pub cut_seen : (w : LexState) (white on : Bool) (l k : Line) (d : Directive) (word : List ℕ) → Sane w white → content_of (scan_from w white on l) ≡ directive d →
    Each IsInert word → (EndsIn backslash (take d.keyword.at l.body ++ word) → ⊥) → k.body ≡ take d.keyword.at l.body ++ word →
    SeenCut (scan_from w white on l) (scan_from w white on k) d word
unfolding scan_from
cut_seen w white on l k d word s e i n b =
    let within : d.keyword.at + d.keyword.len ≤ length (content l) = keyword_within w white on l d e in
    let x = cut_scan w white on l k d word s e i (cut_line_content false d.keyword l k within word n b) in
    let p : is_spliced k ≡ false = cut_splice false d.keyword l k within word n b in
    let v : kind_in_state (state_after_line (stays_open k) (place_after w (content k))) ≡ single =
    ap (λ (q : LexState). kind_in_state (state_after_line (stays_open k) q)) x.place_is ∙ (grind arith) in
    record {
      masked_is = x.masked_is;
      fresh_is = x.fresh_is;
      cut_is = ap₂ (λ (t : Bool) (q : LexemeKind). t && is_outside (comment_at t q)) p v;
      joins_is = ap₂ (λ (t : Bool) (q : LexemeKind). t || is_block q) p v;
      calm = ap₂ (λ (t : Bool) (q : LexemeKind). is_in_block (comment_at t q)) p v;
    }
