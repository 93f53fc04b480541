-- Simplified lines: each line of a simplified text is that of the text, or stands alone and has the
-- residual of its condition.
use Rattle.std.proofs.Common.{◌≡◌, ◌≢◌, ℕ, ◌+◌, ◌-◌, List, [], ◌∷◌, ◌++◌, length, map, take, drop, Bool, true, false, Option, Some, None, if◌then◌else◌, ◌&&◌, bytes_eq, refl, sym, ◌∙◌, ap, ap₂, ◌⊎◌, inl, inr, arith, append_assoc, length-append, take-append-drop}
use Rattle.std.proofs.lemmas.List.{drop-map, drop_at, map-append}
use Rattle.std.specs.Prelude.{nat_eq}
use Rattle.std.specs.List.{ends_with}
use Rattle.std.proofs.lemmas.Slice.Eq.{bytes_eq-Decides}
use Rattle.std.proofs.lemmas.Bool.{and_parts, and_right}
use Rattle.ud_model.specs.text.Bytes.{number_sign, backslash, are_white}
use Rattle.ud_model.specs.text.Lines.{Line, text_of, ending_of}
use Rattle.ud_model.specs.text.Scans.{Scan, Reading, is_spanning}
use Rattle.ud_model.specs.text.Splicing.{is_spliced}
use Rattle.ud_model.specs.text.Lexemes.{LexemeKind, block_comment, Cell, shown, cells_in}
use Rattle.ud_model.specs.text.Scanning.{content_cells, scan_after_run, scan_after}
use Rattle.ud_model.specs.sections.Directives.{Content, cut_keyword, directive, text, Directive, content_of}
use Rattle.ud_model.specs.aids.DirectiveParts.{HasDirective}
use Rattle.ud_model.specs.conditions.Table.{Argument}
use Rattle.ud_model.specs.conditions.Conditions.{Rules}
use Rattle.ud_simplified.specs.ResidualTexts.{simplified_cells}
use Rattle.ud_simplified.specs.CommentTexts.{cells_around, comment_cells, has_lone_comment, text_at, text_len, text_line}
use Rattle.ud_simplified.specs.SimplifiedTexts.{keyword_end, condition_cells, is_closing, text_cells, has_text, has_directive, left_cells_of, left_line, may_change, line_by, simplified_line}
use Rattle.ud_model.specs.declared.kind.Kind.{Kind}
use Rattle.ud_model.specs.declared.kind.Kind.TheVariants.{If, Elif, Else, Endif}
use Rattle.ud_model.specs.declared.kind.Mode.TheVariants.{C}
use Rattle.ud_model.proofs.text.ScanBytes.{masked-content_cells, bytes-content_cells}
use Rattle.ud_model.proofs.sections.SplitLines.{directive_is}

abbrev pub byte_of : Cell → ℕ
byte_of c = c.byte

-- Both are `#if`, or both `#elif`, `#else` or `#endif`.
pub data SameKind : Kind → Kind → Type 0 where
  both_if : SameKind If If
  both_elif : SameKind Elif Elif
  both_else : SameKind Else Else
  both_endif : SameKind Endif Endif

pub option_is : {A : Type 0} (o : Option A) → (o ≡ None) ⊎ ((x : A) × (o ≡ Some x))
option_is None = inl refl
option_is (Some x) = inr (x, refl)

-- The bytes of a comment after a keyword stay.
bytes_in : (k : LexemeKind) (bytes : List ℕ) → map byte_of (cells_in k bytes) ≡ bytes
bytes_in k [] = refl
bytes_in k (b ∷ bytes) = ap (λ (x : List ℕ). b ∷ x) (bytes_in k bytes)

-- A text without an ending has no splice.
unspliced_text : (bytes : List ℕ) → is_spliced (text_line bytes) ≡ false
unspliced_text bytes = and_right (ends_with nat_eq bytes (backslash ∷ [])) false refl

bytes_read : (bytes : List ℕ) → map byte_of (content_cells [] (text_line bytes)) ≡ bytes
bytes_read bytes = bytes-content_cells [] (text_line bytes) ∙ ap (λ (b : Bool). if b then take (length bytes - 1) bytes else bytes) (unspliced_text bytes)

bytes_around : (n m : ℕ) (bytes : List ℕ) → map byte_of (cells_around n m bytes) ≡ bytes
bytes_around n m bytes = by (scan_after_run [] (text_line (take m (drop n bytes)))).joins_after
  where
    rest : List ℕ
    rest = drop n bytes

    front : List Cell
    front = cells_in block_comment (take n bytes)

    text : List Cell
    text = content_cells [] (text_line (take m rest))

    by : (b : Bool) → map byte_of (if b then cells_in block_comment bytes else (front ++ text) ++ cells_in block_comment (drop m rest)) ≡ bytes
    by true = bytes_in block_comment bytes
    by false = map-append byte_of (front ++ text) (cells_in block_comment (drop m rest))
        ∙ ap₂ (λ (x y : List ℕ). x ++ y) (map-append byte_of front text ∙ ap₂ (λ (x y : List ℕ). x ++ y) (bytes_in block_comment (take n bytes)) (bytes_read (take m rest))) (bytes_in block_comment (drop m rest))
        ∙ append_assoc (take n bytes) (take m rest) (drop m rest)
        ∙ ap (λ (x : List ℕ). take n bytes ++ x) (take-append-drop m rest) ∙ take-append-drop n bytes

pub bytes-comment_cells : (bytes : List ℕ) → map byte_of (comment_cells bytes) ≡ bytes
unfolding comment_cells
bytes-comment_cells bytes = by (has_lone_comment bytes)
  where
    by : (b : Bool) → map byte_of (if b then cells_around (text_at bytes) (text_len bytes) bytes else cells_in block_comment bytes) ≡ bytes
    by true = bytes_around (text_at bytes) (text_len bytes) bytes
    by false = bytes_in block_comment bytes

module _ (table : List Argument) (rules : Rules) where
  -- The line `l` with this scan has the directive `d`, and was edited.
  pub record IsEdited (l : Line) (scan : Scan) (d : Directive) : Type 0 where
    pub has : content_of scan ≡ directive d
    pub lone : is_spanning scan ≡ false
    pub some : l.ending ≢ []
    pub ends : ending_of (text_of (left_line table rules l d)) ≡ l.ending
    pub alone : (scan_after_run [] (left_line table rules l d)).joins_after ≡ false
    pub now : Directive
    pub has_now : content_of (scan_after_run [] (left_line table rules l d)) ≡ directive now
    pub kind : SameKind d.kind now.kind
    pub text : has_text (map shown (left_cells_of table rules l d)) (left_line table rules l d) d now ≡ true

  -- The line that a line becomes: itself, or the edited line.
  pub data Becomes (l : Line) (scan : Scan) : Line → Type 0 where
    it_stays : Becomes l scan l
    it_changes : (d : Directive) → IsEdited l scan d → Becomes l scan (left_line table rules l d)

  the_directive : (d : Directive) (bytes : List ℕ) (k : Line) (c : Content) → has_directive d bytes k c ≡ true → (e : Directive) × (c ≡ directive e) × SameKind d.kind e.kind × (has_text bytes k d e ≡ true)
  the_directive d bytes k c e = grind (arith, both_if, both_elif, both_else, both_endif)

  edited : (l : Line) (scan : Scan) (d : Directive) → content_of scan ≡ directive d → may_change table rules scan l d ≡ true → IsEdited l scan d
  edited l scan d h e = grind (arith, and_parts, the_directive, bytes_eq-Decides)

  becomes_by : (l : Line) (scan : Scan) (c : Content) → content_of scan ≡ c → Becomes l scan (line_by table rules scan l c)
  becomes_by l scan cut_keyword e = it_stays
  becomes_by l scan text e = it_stays
  becomes_by l scan (directive d) e = by (may_change table rules scan l d) refl
    where
      by : (b : Bool) → may_change table rules scan l d ≡ b → Becomes l scan (if b then left_line table rules l d else l)
      by true q = it_changes d (edited l scan d e q)
      by false q = it_stays

  pub becomes : (r : Reading) → Becomes r.line r.scan (simplified_line table rules r)
  becomes r = becomes_by r.line r.scan (content_of r.scan) refl

  -- The text after a keyword, by its cells.
  pub after_is : (l : Line) (scan : Scan) (d : Directive) → scan ≡ scan_after [] C l → content_of scan ≡ directive d → map shown (condition_cells l d) ≡ d.after
  after_is l scan d e h = let i : HasDirective scan d = (directive_is scan d).0 h in
      let front : List ℕ = i.parts.white ++ number_sign ∷ (i.parts.gap ++ i.parts.word) in
      let split : scan.masked ≡ front ++ i.parts.rest = simp (append_assoc, i.are.joined) in
      let a = length-append i.parts.white (number_sign ∷ (i.parts.gap ++ i.parts.word)) in
      let b = length-append i.parts.gap i.parts.word in
      let n : keyword_end d ≡ length front = ap₂ (λ (x y : ℕ). x + y) i.at i.len ∙ omega (arith, a, b) in
      sym (drop-map shown (keyword_end d) (content_cells [] l))
      ∙ ap (λ (x : List ℕ). drop (keyword_end d) x) (sym (masked-content_cells [] l) ∙ ap (λ (s : Scan). s.masked) (sym e) ∙ split)
      ∙ drop_at front i.parts.rest (keyword_end d) (sym n) ∙ sym i.after

  -- The text that may be edited is a condition.
  pub condition_text : (l : Line) (d : Directive) → is_closing d.kind ≡ false → text_cells l d ≡ condition_cells l d
  condition_text l d e = ap (λ (b : Bool). if b then comment_cells (drop (keyword_end d) l.body) else condition_cells l d) e

  -- Its bytes are those after the keyword.
  pub text_bytes : (l : Line) (d : Directive) → is_spliced l ≡ false → map byte_of (text_cells l d) ≡ drop (keyword_end d) l.body
  text_bytes l d e = by (is_closing d.kind)
    where
      by : (b : Bool) → map byte_of (if b then comment_cells (drop (keyword_end d) l.body) else condition_cells l d) ≡ drop (keyword_end d) l.body
      by true = bytes-comment_cells (drop (keyword_end d) l.body)
      by false = sym (drop-map byte_of (keyword_end d) (content_cells [] l)) ∙ ap (λ (x : List ℕ). drop (keyword_end d) x)
          (bytes-content_cells [] l ∙ ap (λ (b : Bool). if b then take (length l.body - 1) l.body else l.body) e)

  pub closing_alike : (j k : Kind) → SameKind j k → is_closing k ≡ is_closing j
  closing_alike j k h = grind arith

  -- Beside the comment of an edited `#else` or `#endif` is only white space, and its text is the rest.
  pub comment_left : (l : Line) (scan : Scan) (d : Directive) (i : IsEdited l scan d) → is_closing d.kind ≡ true →
      (are_white d.after ≡ true) × (are_white i.now.after ≡ true) ×
      (map shown (comment_cells (drop (keyword_end i.now) (left_line table rules l d).body)) ≡ map shown (left_cells_of table rules l d))
  comment_left l scan d i e = let k : Line = left_line table rules l d in
      let text : List ℕ = map shown (comment_cells (drop (keyword_end i.now) k.body)) in
      let rest : List ℕ = map shown (left_cells_of table rules l d) in
      let p = and_parts (are_white d.after && are_white i.now.after) (bytes_eq text rest)
      (ap (λ (b : Bool). if b then are_white d.after && are_white i.now.after && bytes_eq text rest else bytes_eq i.now.after rest) (sym e) ∙ i.text) in
      let q = and_parts (are_white d.after) (are_white i.now.after) p.0 in
      (q.0, q.1, (bytes_eq-Decides text rest).0 p.1)

  -- After the keyword of an edited condition comes the rest.
  pub after_left : (l : Line) (scan : Scan) (d : Directive) (i : IsEdited l scan d) → is_closing d.kind ≡ false → i.now.after ≡ map shown (simplified_cells table rules (condition_cells l d))
  after_left l scan d i e = (grind (arith, bytes_eq-Decides, i.text, e)) ∙ ap (λ (cells : List Cell). map shown (simplified_cells table rules cells)) (condition_text l d e)

  -- The text of the edited line is shown as the rest.
  pub text_now : (l : Line) (scan : Scan) (d : Directive) (i : IsEdited l scan d) → map shown (text_cells (left_line table rules l d) i.now) ≡ map shown (left_cells_of table rules l d)
  text_now l scan d i = by (is_closing d.kind) refl
    where
      k : Line
      k = left_line table rules l d

      kind_now : is_closing i.now.kind ≡ is_closing d.kind
      kind_now = closing_alike d.kind i.now.kind i.kind

      by : (b : Bool) → is_closing d.kind ≡ b → map shown (text_cells k i.now) ≡ map shown (left_cells_of table rules l d)
      by true e = ap (λ (b : Bool). map shown (if b then comment_cells (drop (keyword_end i.now) k.body) else condition_cells k i.now)) (kind_now ∙ e) ∙ (comment_left l scan d i e).2
      by false e = ap (map shown) (condition_text k i.now (kind_now ∙ e)) ∙ after_is k (scan_after_run [] k) i.now refl i.has_now ∙ after_left l scan d i e
          ∙ sym (ap (λ (cells : List Cell). map shown (simplified_cells table rules cells)) (condition_text l d e))
