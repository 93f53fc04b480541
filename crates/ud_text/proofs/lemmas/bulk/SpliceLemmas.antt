-- Splices: a line that a backslash at its end joins to the next one, outside comments and literals.
use Rattle.std.proofs.Common.{◌≡◌, ◌≢◌, ℕ, ◌-◌, ◌⊎◌, inl, inr, nat_eq, List, [], ◌∷◌, ◌++◌, length, take, drop, Bool, true, false, not, ◌||◌, refl, sym, ◌∙◌, ap, subst, append_assoc, append-nil, arith, length-append, if◌then◌else◌}
use Rattle.std.proofs.lemmas.Bool.{cases_eq}
use Rattle.std.proofs.Math.Seq.{drop-append_seam, take-append_seam}
use Rattle.ud_model.specs.text.Bytes.{newline, carriage_return, backslash}
use Rattle.ud_model.specs.text.Lines.{NoNewline, ending_of, SplitLines, line_at, numbered_from, whole_lines, split_lines}
use Rattle.ud_model.specs.text.Scans.{Reading}
use Rattle.ud_model.specs.text.Splicing.{is_spliced, is_empty, content, stays_open}
use Rattle.ud_model.specs.text.Scanning.{next_reading, readings_after}
use Rattle.ud_model.specs.aids.LexStates.{LexState, in_text, state_after_line, white_after_line}
use Rattle.ud_model.specs.declared.kind.Mode.TheVariants.{C}
use Rattle.ud_model.proofs.text.LinesLemmas.{no_newline-append, split_lines-prefix}
use Rattle.ud_model.proofs.text.ScanLaws.{place_after, white_after, masked_after}
use Rattle.ud_text.specs.scan.ScannerState.{ScannerRepresents}
use Rattle.ud_text.specs.bulk.BulkScanning.{lines_in_mode, HaveNoDirective, SkipsText}
use Rattle.ud_text.specs.bulk.BulkStates.{line_state, code_state, BulkState, bulk_state_after, Skipped, HasNoStop, can_start, scanner_state_at, AtLine}
use Rattle.ud_text.specs.bulk.BulkLexemes.{IsLineStart, at_start, after_newline, IsSplice, splice_newline, splice_return_feed}
use Rattle.ud_text.proofs.lemmas.scan.ScannerLemmas.{represents_code}
use Rattle.ud_text.proofs.lemmas.bulk.QuietLemmas.{bulk_state_after-append, bulk_state_after-place, bulk_state_after-white, HasNoStop-feed}
use Rattle.ud_text.proofs.lemmas.bulk.QuietLineLemmas.{shown, line_is_text, passed_quiet, Skipped-append}
use Rattle.std.specs.List.{ends_with}

-- the end of two lists joined
end_of : (xs ys : List ℕ) (n : ℕ) → n ≡ length ys → drop (length (xs ++ ys) - n) (xs ++ ys) ≡ ys
end_of xs ys n e = grind (arith, length-append xs ys, drop-append_seam xs ys)

-- the beginning of two lists joined
front_of : (xs ys : List ℕ) (n : ℕ) → n ≡ length ys → take (length (xs ++ ys) - n) (xs ++ ys) ≡ xs
front_of xs ys n e = grind (arith, length-append xs ys, take-append_seam xs ys)

module _ (cont : List ℕ) (n : ℕ) where
  -- `IsJoined l`: a line of this content that ends in a splice
  pub record IsJoined (l : List ℕ) : Type 0 where
    pub spliced : is_spliced (line_at n l) ≡ true
    pub content_is : content (line_at n l) ≡ cont

  with_body : (l e : List ℕ) → ending_of l ≡ e → take (length l - length e) l ≡ cont ++ backslash ∷ [] → not (is_empty e) ≡ true → IsJoined l
  with_body l e f g h = grind (arith, nat_eq, front_of, end_of)

  joined_feed : IsJoined (cont ++ backslash ∷ newline ∷ [])
  joined_feed = with_body (cont ++ backslash ∷ newline ∷ []) (newline ∷ []) ending
      (ap (λ (x : List ℕ). take (length x - 1) x) (sym (append_assoc cont (backslash ∷ []) (newline ∷ []))) ∙ front_of (cont ++ backslash ∷ []) (newline ∷ []) 1 refl) refl
    where
      ending : ending_of (cont ++ backslash ∷ newline ∷ []) ≡ newline ∷ []
      ending = rw (end_of cont (backslash ∷ newline ∷ []) 2 refl)
          (ap (λ (x : List ℕ). if ends_with nat_eq x (newline ∷ []) then newline ∷ [] else []) (sym (append_assoc cont (backslash ∷ []) (newline ∷ [])))
          ∙ rw (end_of (cont ++ backslash ∷ []) (newline ∷ []) 1 refl) refl)

  joined_return : IsJoined (cont ++ backslash ∷ carriage_return ∷ newline ∷ [])
  joined_return = grind (
    arith,
    with_body,
    append_assoc cont (backslash ∷ []) (carriage_return ∷ newline ∷ []),
    front_of (cont ++ backslash ∷ []) (carriage_return ∷ newline ∷ []) 2 refl,
    end_of (cont ++ backslash ∷ []) (carriage_return ∷ newline ∷ []) 2 refl,
  )

  pub joined_by : (s : List ℕ) → IsSplice s → IsJoined (cont ++ s)
  joined_by _ splice_newline = joined_feed
  joined_by _ splice_return_feed = joined_return

-- a splice ends the only line of bytes without a newline
one_line : (cont s : List ℕ) → NoNewline cont → IsSplice s → split_lines (cont ++ s) ≡ record { whole = (cont ++ s) ∷ []; rest = [] }
unfolding split_lines
one_line cont _ none splice_newline =
    subst (λ (x : List ℕ). split_lines x ≡ record { whole = x ∷ []; rest = [] }) (append_assoc cont (backslash ∷ []) (newline ∷ []))
    (split_lines-prefix (cont ++ backslash ∷ []) [] (no_newline-append cont (backslash ∷ []) none ((λ e. cc), tt)))
one_line cont _ none splice_return_feed =
    subst (λ (x : List ℕ). split_lines x ≡ record { whole = x ∷ []; rest = [] }) (append_assoc cont (backslash ∷ carriage_return ∷ []) (newline ∷ []))
    (split_lines-prefix (cont ++ backslash ∷ carriage_return ∷ []) [] (no_newline-append cont (backslash ∷ carriage_return ∷ []) none ((λ e. cc), ((λ e. cc), tt))))

module _ (w : LexState) (white : Bool) (cont : List ℕ) (at : can_start w ≡ true) (none : NoNewline cont) (quiet : HasNoStop (line_state w white) cont)
    (leads : bulk_state_after (line_state w white) cont ≡ code_state false) (s : List ℕ) (splice : IsSplice s) where
  module _ (n : ℕ) (before : List Reading) (carried : ScannerRepresents (scanner_state_at w white) before) where
    joins : IsJoined cont n (cont ++ s)
    joins = joined_by cont n s splice

    open_is : stays_open (line_at n (cont ++ s)) ≡ true
    open_is = ap (λ (t : Bool). t || is_empty (line_at n (cont ++ s)).ending) joins.spliced

    place_is : place_after w (content (line_at n (cont ++ s))) ≡ in_text
    place_is = grind (arith, place_after, joins, bulk_state_after-place)

    white_is : white_after w white (content (line_at n (cont ++ s))) ≡ false
    white_is = grind (arith, white_after, joins, bulk_state_after-white)

    spliced_stands : ScannerRepresents (scanner_state_at in_text false) (before ++ next_reading before C (line_at n (cont ++ s)) ∷ [])
    spliced_stands =
        represents_code (scanner_state_at w white) before (line_at n (cont ++ s)) (masked_after w [] (content (line_at n (cont ++ s))))
        (place_after w (content (line_at n (cont ++ s)))) (white_after w white (content (line_at n (cont ++ s)))) (scanner_state_at in_text false) carried
        (shown w white before (line_at n (cont ++ s)) carried)
        (sym (ap (λ (o : Bool). state_after_line o (place_after w (content (line_at n (cont ++ s))))) open_is ∙ place_is))
        (sym (ap (λ (o : Bool). white_after_line o (place_after w (content (line_at n (cont ++ s)))) (white_after w white (content (line_at n (cont ++ s))))) open_is ∙ white_is))
        (ap (λ (t : Bool). t || false) (sym joins.spliced))

    spliced_texts : HaveNoDirective C before (line_at n (cont ++ s) ∷ [])
    spliced_texts = (
      line_is_text w white before (line_at n (cont ++ s)) carried [] at (subst NoNewline (sym joins.content_is) none) refl tt
          (subst (λ (x : List ℕ). HasNoStop (line_state w white) x) (sym (append-nil (content (line_at n (cont ++ s))) ∙ joins.content_is)) quiet),
      tt,
    )

  -- one line that a splice joins to the next is skipped
  spliced_passes : SkipsText C (scanner_state_at w white) (scanner_state_at in_text false) (cont ++ s)
  spliced_passes =
      let is : whole_lines (cont ++ s) ≡ (cont ++ s) ∷ [] = ap (λ (q : SplitLines). q.whole) (one_line cont s none splice) in
      record {
        represents = λ n before h. subst (λ (ls : List (List ℕ)). ScannerRepresents (scanner_state_at in_text false) (readings_after before (lines_in_mode C n ls))) (sym is) (spliced_stands n before h);
        texts = λ n before h. subst (λ (ls : List (List ℕ)). HaveNoDirective C before (numbered_from n ls)) (sym is) (spliced_texts n before h);
      }

  pub passed_line : Skipped (line_state w white) (cont ++ s) (code_state false)
  passed_line = grind (arith, one_line, spliced_passes)

-- `Cut bytes`: bytes as their whole lines and the last line
record Cut (bytes : List ℕ) : Type 0 where
  pub lines : List ℕ
  pub last : List ℕ
  pub is : bytes ≡ lines ++ last
  pub begins : IsLineStart lines
  pub no_newline : NoNewline last

cut_at_last : (bytes : List ℕ) → Cut bytes
cut_at_last [] = record { lines = []; last = []; is = refl; begins = at_start; no_newline = tt }
cut_at_last (b ∷ bytes) = put_first b bytes (cases_eq b newline) (cut_at_last bytes)
  where
    put_first : (b : ℕ) (bytes : List ℕ) → (b ≡ newline) ⊎ (b ≢ newline) → Cut bytes → Cut (b ∷ bytes)
    put_first b bytes e c = by_begins c.lines c.begins c.is e
      where
        by_begins : (ls : List ℕ) → IsLineStart ls → bytes ≡ ls ++ c.last → (b ≡ newline) ⊎ (b ≢ newline) → Cut (b ∷ bytes)
        by_begins _ at_start i (inl f) = record {
          lines = b ∷ [];
          last = c.last;
          is = ap (λ (x : List ℕ). b ∷ x) i;
          begins = subst (λ (x : ℕ). IsLineStart (x ∷ [])) (sym f) (after_newline []);
          no_newline = c.no_newline;
        }
        by_begins _ at_start i (inr f) = record { lines = []; last = b ∷ c.last; is = ap (λ (x : List ℕ). b ∷ x) i; begins = at_start; no_newline = (f, c.no_newline) }
        by_begins _ (after_newline prefix) i g = record {
          lines = b ∷ (prefix ++ newline ∷ []);
          last = c.last;
          is = ap (λ (x : List ℕ). b ∷ x) i;
          begins = after_newline (b ∷ prefix);
          no_newline = c.no_newline;
        }

quiet_front : (s : BulkState) (p q : List ℕ) → IsLineStart p → HasNoStop s (p ++ q) → HasNoStop s p × HasNoStop (bulk_state_after s p) q
quiet_front s _ q at_start h = (tt, h)
quiet_front s _ q (after_newline prefix) h = HasNoStop-feed s prefix q (subst (λ (x : List ℕ). HasNoStop s x) (append_assoc prefix (newline ∷ []) q) h)

-- lines that are read without a stop, up to a splice on a logical line that isn't white, are
-- skipped with the splice
pub passed_splice : (start : BulkState) (bytes s : List ℕ) → AtLine start → HasNoStop start bytes → bulk_state_after start bytes ≡ code_state false → IsSplice s →
    Skipped start (bytes ++ s) (code_state false)
passed_splice start bytes s at quiet leads splice = let c : Cut bytes = cut_at_last bytes in
    let parts : HasNoStop start c.lines × HasNoStop (bulk_state_after start c.lines) c.last =
    quiet_front start c.lines c.last c.begins (subst (λ (x : List ℕ). HasNoStop start x) c.is quiet) in
    let lines : Skipped start c.lines (bulk_state_after start c.lines) = passed_quiet start c.lines at c.begins parts.0 in
    let now : BulkState = bulk_state_after start c.lines in
    let there : bulk_state_after now c.last ≡ code_state false = sym (bulk_state_after-append start c.lines c.last) ∙ ap (λ (x : List ℕ). bulk_state_after start x) (sym c.is) ∙ leads in
    subst (λ (x : List ℕ). Skipped start x (code_state false)) (sym (append_assoc c.lines c.last s) ∙ ap (λ (x : List ℕ). x ++ s) (sym c.is))
    (Skipped-append c.lines (c.last ++ s) lines
    (subst (λ (t : BulkState). Skipped t (c.last ++ s) (code_state false)) (sym lines.at_line.is)
    (passed_line now.state now.white c.last lines.at_line.starts c.no_newline (subst (λ (t : BulkState). HasNoStop t c.last) lines.at_line.is parts.1)
    (ap (λ (t : BulkState). bulk_state_after t c.last) (sym lines.at_line.is) ∙ there) s splice)))
