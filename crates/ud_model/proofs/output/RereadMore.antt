-- Reading an output again: the facts of the output for lines, and between it and the next line; and
-- the output for lines with one more, if that line is removed, and if it is left.
use Rattle.std.proofs.Common.{◌≡◌, ℕ, List, [], map, Bool, true, false, not, refl, ◌⊎◌, suc, ◌∷◌, ◌++◌, length, sym, ◌∙◌, ap, ap₂, append-nil, arith}
use Rattle.ud_model.specs.text.Lines.{Line, line_at, numbered_from, IsWhole, IsUnterminated}
use Rattle.ud_model.specs.text.Scans.{Reading}
use Rattle.ud_model.specs.text.Splicing.{c_run_of}
use Rattle.ud_model.specs.text.Scanning.{joins}
use Rattle.ud_model.specs.aids.LexStates.{LexState, in_text}
use Rattle.ud_model.specs.sections.Directives.{content_of}
use Rattle.ud_model.specs.sections.Tree.{Item, Tree, nothing, closed, item_with}
use Rattle.ud_model.specs.sections.Pruning.{marks, Mark, is_removed}
use Rattle.ud_model.specs.sections.Items.{Options, reading_of, line_of, item_of, read_after}
use Rattle.ud_model.specs.sections.Faults.{ends_removed, is_cut, ends_in_comment, is_in_block}
use Rattle.ud_model.specs.laws.Pruned.{printed, Edited, kept_line}
use Rattle.ud_model.specs.laws.Rereading.{line_bytes}
use Rattle.ud_model.specs.declared.kind.Mode.{Mode}
use Rattle.ud_model.proofs.output.Each.{Each, each_both}
use Rattle.ud_model.proofs.output.Heeding.{ReadIn, none_read, one_read}
use Rattle.ud_model.proofs.output.JoinedAlike.{ends_kept}
use Rattle.ud_model.proofs.output.LeavesOff.{LeavesOff, nowhere, joins_nothing}
use Rattle.ud_model.proofs.output.SeenLines.{scanned, left_seen, Seen}
use Rattle.std.proofs.lemmas.List.{map-append}
use Rattle.ud_model.specs.declared.verdict.Verdict.TheVariants.{Remove}
use Rattle.ud_model.proofs.sections.Soundness.{reading_of-item_of}
use Rattle.ud_model.proofs.text.LinesLemmas.{text_of-line_at, numbered_from-next}
use Rattle.ud_model.proofs.output.PrintedPruned.{printed-append}
use Rattle.ud_model.proofs.output.LeftItems.{Left}

-- The lines end between lines, and not in a comment.
pub record Rests (ys : List (Item Reading)) : Type 0 where
  pub off : LeavesOff ys in_text true false
  pub calm : ends_in_comment ys ≡ false

-- The state that the lines so far and the output for them carry to the next line, by whether the
-- last line was removed. It is the same for both, and then a last line that joins the next one has
-- stayed; or the last line was removed and joins the next one. If the last line joins nothing or
-- was removed, the output ends between lines.
pub data Carry (removed : Bool) (xs ys : List (Item Reading)) : Type 0 where
  alike : (w : LexState) (white on : Bool) → LeavesOff xs w white on → LeavesOff ys w white on → (on ≡ true → removed ≡ false) →
      (on ≡ false → Rests ys) → Carry removed xs ys
  gone : (w : LexState) (white : Bool) → LeavesOff xs w white true → Rests ys → removed ≡ true → Carry removed xs ys

-- The item has no cut keyword.
abbrev pub IsUncut : Item Reading → Type 0
IsUncut y = is_cut (content_of (reading_of y).scan) ≡ false

-- The output for the lines, read in this mode: none of its lines has a cut keyword, and it ends in
-- a comment only if the lines do.
pub record Again (o : Options) (m : Mode) (xs : List (Item Reading)) (t : Tree Reading) (ys : List (Item Reading)) : Type 0 where
  pub read : ReadIn o m ys
  pub same : map (item_with scanned) ys ≡ map (item_with (left_seen o.settings.unpadded)) (printed xs (marks t))
  pub numbered : map line_of ys ≡ numbered_from 1 (map (λ y. line_bytes (reading_of y)) ys)
  pub uncut : Each IsUncut ys
  pub ends : ends_in_comment xs ≡ false → ends_in_comment ys ≡ false

-- The facts between two lines, the last of which has an ending. Besides those of the output, they
-- are the state that is carried; and a last line that joins the next one is removed exactly if the
-- position after it isn't kept.
pub record Between (o : Options) (m : Mode) (xs : List (Item Reading)) (t : Tree Reading) (ys : List (Item Reading)) : Type 0 where
  pub again : Again o m xs t ys
  pub carry : Carry (ends_removed (marks t)) xs ys
  pub carried : joins (c_run_of (map reading_of xs)) ≡ true → ends_removed (marks t) ≡ not (ends_kept true t)

-- A line that was cut from a text.
abbrev pub IsLine : Line → Type 0
IsLine l = (n : ℕ) × (t : List ℕ) × (l ≡ line_at n t) × (IsWhole t ⊎ IsUnterminated t)

-- Before the first line.
pub start : (o : Options) (m : Mode) → Between o m [] (closed nothing) []
start o m = record {
  again = record { read = none_read; same = refl; numbered = refl; uncut = tt; ends = λ e. refl };
  carry = alike in_text true false (nowhere [] refl) (nowhere [] refl) (λ e. refl) (λ e. record { off = nowhere [] refl; calm = refl });
  carried = λ e. absurd (joins_nothing [] refl e);
}

-- The output for lines with one more.

-- Lines with one more end in a comment if that line does.
pub last_comment : (xs : List (Item Reading)) (x : Item Reading) → ends_in_comment (xs ++ x ∷ []) ≡ is_in_block (reading_of x).scan.comment
last_comment (y ∷ z ∷ xs) x = last_comment (z ∷ xs) x
last_comment _ _ = refl

-- Of marks with one more the last one counts.
pub last_removed : (ms : List Mark) (m : Mark) → ends_removed (ms ++ m ∷ []) ≡ is_removed m.verdict
last_removed (n ∷ k ∷ ms) m = last_removed (k ∷ ms) m
last_removed _ _ = refl

bytes_read : List (Item Reading) → List (List ℕ)
bytes_read ys = map (λ y. line_bytes (reading_of y)) ys

-- The line that this piece is after these.
abbrev pub piece_after_all : List (Item Reading) → List ℕ → Line
piece_after_all ys piece = line_at (suc (length (map (λ (y : Item Reading). line_bytes (reading_of y)) ys))) piece

module _ (o : Options) (m : Mode) (xs : List (Item Reading)) (t u : Tree Reading) (ys : List (Item Reading)) (x : Item Reading) (mark : Mark)
    (more : marks u ≡ marks t ++ mark ∷ []) (long : length xs ≡ length (marks t)) (a : Again o m xs t ys) where
  printed_next : printed (xs ++ x ∷ []) (marks u) ≡ printed xs (marks t) ++ kept_line mark.verdict x
  printed_next = grind (arith, printed-append)

  -- The case of a removed line.
  pub gone_again : mark.verdict ≡ Remove → ends_in_comment ys ≡ false → Again o m (xs ++ x ∷ []) u ys
  gone_again e c = grind (arith, printed_next, append-nil)

  -- The case of a line that is left.
  pub left_again : (r : Reading) (piece : List ℕ) → x ≡ item_of o r → Left o o.settings.unpadded mark.verdict r (read_after ys m (piece_after_all ys piece)) →
      Again o m (xs ++ x ∷ []) u (ys ++ item_of o (read_after ys m (piece_after_all ys piece)) ∷ [])
  unfolding bytes_read
  left_again r piece is h = let q : Reading = read_after ys m (piece_after_all ys piece) in
      let y : Item Reading = item_of o q in
      let q_is : reading_of y ≡ q = reading_of-item_of o q in
      let bytes : bytes_read (ys ++ y ∷ []) ≡ bytes_read ys ++ piece ∷ [] =
      map-append (λ (z : Item Reading). line_bytes (reading_of z)) ys (y ∷ [])
      ∙ ap (λ (p : List ℕ). bytes_read ys ++ p ∷ []) (ap line_bytes q_is ∙ text_of-line_at (suc (length (bytes_read ys))) piece) in
      record {
        read = one_read ys a.read (piece_after_all ys piece);
        same = map-append (item_with scanned) ys (y ∷ [])
            ∙ ap₂ (λ (p s : List (Item Seen)). p ++ s) a.same (h.item ∙ ap (λ (z : Item Reading). map (item_with (left_seen o.settings.unpadded)) (kept_line mark.verdict z)) (sym is))
            ∙ sym (map-append (item_with (left_seen o.settings.unpadded)) (printed xs (marks t)) (kept_line mark.verdict x))
            ∙ sym (ap (λ (zs : List (Item (Edited Reading))). map (item_with (left_seen o.settings.unpadded)) zs) printed_next);
        numbered = map-append line_of ys (y ∷ [])
            ∙ ap₂ (λ (p s : List Line). p ++ s) a.numbered (ap (λ (z : Reading). z.line ∷ []) q_is)
            ∙ sym (ap (λ (ps : List (List ℕ)). numbered_from 1 ps) bytes ∙ numbered_from-next (bytes_read ys) piece []);
        uncut = each_both IsUncut ys (y ∷ []) a.uncut (ap (λ (z : Reading). is_cut (content_of z.scan)) q_is ∙ h.uncut, tt);
        ends = λ e. last_comment ys y ∙ ap (λ (z : Reading). is_in_block z.scan.comment) q_is
            ∙ h.ends (ap (λ (z : Reading). is_in_block z.scan.comment) (sym (ap reading_of is ∙ reading_of-item_of o r)) ∙ sym (last_comment xs x) ∙ e);
      }
