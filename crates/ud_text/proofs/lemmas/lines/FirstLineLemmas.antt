-- First lines: the first line of a text, of any length.
use Rattle.std.proofs.Common.{arith, ◌≡◌, ◌∙◌, ◌++◌, sym, ap, refl, subst, List, ℕ, Bool, true, false, length, take}
use Rattle.std.proofs.lemmas.List.{length-take-le}
use Rattle.ud_model.specs.text.Lines.{Line, line_at, text_of, NoNewline}
use Rattle.ud_model.proofs.text.LinesLemmas.{text_of-line_at}
use Rattle.ud_text.specs.lines.LinesState.{UpToNewline, IsLineOf}
use Rattle.ud_text.proofs.lemmas.lines.NewlineLemmas.{whole_newlineless}
use Rattle.ud_text.proofs.lemmas.scan.MaskLemmas.{no_newline-take}

module _ (text body ending : List ℕ) (used : ℕ) (whole : Bool) (to : UpToNewline text used whole) (is : (n : ℕ) → IsLineOf body ending n (line_at n (take used text))) where
  -- the line has the text's first bytes
  joined : body ++ ending ≡ take used text
  joined = ap text_of (is 1) ∙ text_of-line_at 1 (take used text)

  first_len : length (body ++ ending) ≡ used
  first_len = ap (λ (l : List ℕ). length l) joined ∙ length-take-le used text to.within

  pub first_bytes : UpToNewline text (length (body ++ ending)) whole
  first_bytes = subst (λ (n : ℕ). UpToNewline text n whole) (sym first_len) to

  pub first_value : (n : ℕ) → IsLineOf body ending n (line_at n (take (length (body ++ ending)) text))
  first_value n = is n ∙ ap (λ (k : ℕ). line_at n (take k text)) (sym first_len)

  pub first_no_newline : NoNewline body
  first_no_newline = subst NoNewline (ap (λ (l : Line). l.body) (sym (is 1))) (by_end whole to)
    where
      by_end : (w : Bool) → UpToNewline text used w → NoNewline (line_at 1 (take used text)).body
      by_end true t = whole_newlineless 1 (take used text) (t.line refl)
      by_end false t = grind (arith, no_newline-take)
