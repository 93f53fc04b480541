-- Lone lines: a blank line and a `#line`, inserted between logical lines, are scanned by
-- themselves, and end between lines.
use Rattle.std.proofs.Common.{◌≡◌, ◌≢◌, ℕ, ◌+◌, ◌-◌, ◌^◌, ◌%◌, ◌<◌, List, [], ◌∷◌, ◌++◌, length, take, map, Bool, true, false, ◌==◌, if◌then◌else◌, inl, inr, codes, decimal, refl, sym, ◌∙◌, ap, subst, append_assoc, append-nil, length-append, arith}
use Rattle.std.proofs.lemmas.Bool.Decides.{Decides-eqb}
use Rattle.std.proofs.lemmas.Slice.Eq.{ends_is}
use Rattle.std.proofs.lemmas.List.{take_at}
use Rattle.std.proofs.lemmas.Fmt.{decimal_by_steps}
use Rattle.ud_model.specs.text.Bytes.{is_quote, slash, backslash, newline}
use Rattle.ud_model.specs.text.Lines.{NoNewline, IsWhole, Line, line_at}
use Rattle.ud_model.specs.text.Scans.{Reading, plain_scan}
use Rattle.ud_model.specs.text.Splicing.{is_spliced, content, c_run_of}
use Rattle.ud_model.specs.text.Scanning.{scan_after}
use Rattle.ud_model.specs.aids.LexStates.{in_text}
use Rattle.ud_model.specs.sections.Tree.{Item}
use Rattle.ud_model.specs.sections.Items.{reading_of}
use Rattle.ud_model.specs.answer.Printing.{number_line, ending_or_newline}
use Rattle.ud_model.specs.declared.kind.Mode.{Mode}
use Rattle.ud_model.specs.declared.kind.Mode.TheVariants.{C, Plain}
use Rattle.ud_model.proofs.output.Each.{Each, each_both}
use Rattle.ud_model.proofs.output.Formed.{IsEnd, EndsIn, ending_both, ending_feed}
use Rattle.ud_model.proofs.output.LeavesOff.{LeavesOff}
use Rattle.ud_model.proofs.text.LinesLemmas.{no_newline-append}
use Rattle.ud_model.proofs.text.ScanLaws.{place_after, masked_after, scan_from, scan_after_run-from}
use Rattle.std.proofs.lemmas.Grind.{common_steps}

-- A byte that begins nothing and ends nothing.
pub record Quiet (b : ℕ) : Type 0 where
  pub no_slash : (b == slash) ≡ false
  pub no_quote : is_quote b ≡ false
  pub no_backslash : (b == backslash) ≡ false
  pub no_newline : b ≢ newline
  pub no_return : b ≢ 13

decimal_quiet : (n : ℕ) → n < 2 ^ 64 → Each Quiet (decimal n)
decimal_quiet n h = decimal_by_steps (λ k ds. Each Quiet ds) (λ k l. (grind arith, tt))
    (λ k ds l q. each_both Quiet ds ((48 + k % 10) ∷ []) q (grind arith, tt)) n h

word_quiet : Each Quiet (codes "#line ")
word_quiet = grind arith

-- The bytes of a `#line`.
abbrev pub says_number : ℕ → List ℕ
says_number n = codes "#line " ++ decimal n

pub says_quiet : (n : ℕ) → n < 2 ^ 64 → Each Quiet (says_number n)
says_quiet n h = each_both Quiet (codes "#line ") (decimal n) word_quiet (decimal_quiet n h)

-- 1. As lines.

quiet_no_feed : (b : List ℕ) → Each Quiet b → NoNewline b
quiet_no_feed [] q = tt
quiet_no_feed (x ∷ b) q = (q.0.no_newline, quiet_no_feed b q.1)

-- Quiet bytes don't end in this byte, if no quiet byte is so.
ends_quiet : (z : ℕ) → (Quiet z → ⊥) → (b : List ℕ) → Each Quiet b → EndsIn z b → ⊥
unfolding EndsIn
ends_quiet z loud b q (c, e) = go c (subst (Each Quiet) e q)
  where
    go : (c : List ℕ) → Each Quiet (c ++ z ∷ []) → ⊥
    go [] h = loud h.0
    go (x ∷ c) h = go c h.1

-- Quiet bytes and an ending are a line with this body and this ending.
pub quiet_line : (m : ℕ) (b e : List ℕ) → Each Quiet b → IsEnd e → line_at m (b ++ e) ≡ record { body = b; ending = e; number = m }
quiet_line m b e q h =
    grind (arith, common_steps, take_at, length-append, ending_both, ending_feed, ends_quiet)

pub quiet_whole : (b e : List ℕ) → Each Quiet b → IsEnd e → IsWhole (b ++ e)
quiet_whole b e q (inl h) =
    (b ++ 13 ∷ [], no_newline-append b (13 ∷ []) (quiet_no_feed b q) ((λ p. omega arith), tt), ap (λ (t : List ℕ). b ++ t) h ∙ sym (append_assoc b (13 ∷ []) (10 ∷ [])))
quiet_whole b e q (inr h) = (b, quiet_no_feed b q, ap (λ (t : List ℕ). b ++ t) h)

-- 2. Their scans.

pub place_quiet : (b : List ℕ) → Each Quiet b → place_after in_text b ≡ in_text
place_quiet [] q = refl
place_quiet (x ∷ b) q = grind (arith, place_after, place_quiet b q.1)

masked_quiet : (b scanned : List ℕ) → Each Quiet b → masked_after in_text scanned b ≡ scanned ++ b
masked_quiet [] scanned q = sym (append-nil scanned)
masked_quiet (x ∷ b) scanned q = grind (arith, append_assoc, masked_quiet b (scanned ++ x ∷ []) q.1)

-- A line of quiet bytes with an ending.
pub record IsQuiet (l : Line) : Type 0 where
  pub quiet : Each Quiet l.body
  pub end : IsEnd l.ending

spliced_not : (l : Line) → IsQuiet l → is_spliced l ≡ false
unfolding EndsIn
spliced_not l q = grind (arith, common_steps, ends_quiet, ends_is, Decides-eqb)

module _ (l : Line) (q : IsQuiet l) where
  all_content : content l ≡ l.body
  all_content = ap (λ (s : Bool). if s then take (length l.body - 1) l.body else l.body) (spliced_not l q)

  seen_quiet : scan_from in_text true false l ≡ plain_scan l
  unfolding scan_from
  seen_quiet = grind (arith, masked_quiet, spliced_not, all_content, place_quiet)

-- Between logical lines a quiet line is scanned by itself.
pub lone_scan : (zs : List (Item Reading)) (m : Mode) (l : Line) → LeavesOff zs in_text true false → IsQuiet l → scan_after (map reading_of zs) m l ≡ plain_scan l
lone_scan zs Plain l a q = refl
lone_scan zs C l a q = scan_after_run-from (c_run_of (map reading_of zs)) l in_text true false a.reads a.joins_on ∙ seen_quiet l q

-- The bytes of a `#line` are quiet.
pub number_quiet : (m : ℕ) (l : Line) → IsEnd (ending_or_newline l.ending) → l.number < 2 ^ 64 →
    line_at m (number_line l) ≡ record { body = says_number l.number; ending = ending_or_newline l.ending; number = m }
number_quiet m l e h = quiet_line m (says_number l.number) (ending_or_newline l.ending) (says_quiet l.number h) e
