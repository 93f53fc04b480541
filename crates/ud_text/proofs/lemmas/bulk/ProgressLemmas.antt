-- Progress: from what is known up to a position to what is known further on.
use Rattle.std.proofs.Common.{◌≡◌, ℕ, ◌+◌, ◌-◌, ◌<◌, ◌≤◌, List, [], ◌∷◌, ◌++◌, length, take, drop, Bool, true, false, refl, sym, ◌∙◌, ap, subst, append_assoc, append-nil, arith, length-append, rules}
use Rattle.std.proofs.lemmas.List.{take-append-drop, length-take-le}
use Rattle.ud_model.specs.text.Scanning.{is_block}
use Rattle.ud_model.specs.aids.LexStates.{kind_in_state}
use Rattle.ud_text.specs.bulk.BulkStates.{next_bulk_state, BulkState, code_state, NoNewlineInBlock, bulk_state_after, Skipped, HasNoStop, AtLine}
use Rattle.ud_text.proofs.lemmas.bulk.QuietLemmas.{bulk_state_after-append, HasNoStop-append, HasNoStop-feed, NoNewlineInBlock-append, NoNewlineInBlock-rest}
use Rattle.ud_text.proofs.lemmas.bulk.QuietLineLemmas.{passed_none, passed_quiet, Skipped-append}
use Rattle.ud_text.proofs.lemmas.bulk.SpliceLemmas.{passed_splice}
use Rattle.ud_text.proofs.lemmas.bulk.LexemeLemmas.{NoComment-append}
use Rattle.ud_text.specs.bulk.BulkLexemes.{after_newline, at_start, LineLexeme, NoComment, LastLineStarts, CodeLexeme, IsLineStart, IsSplice}
use Rattle.ud_text.specs.bulk.Progress.{ReadTo, ReadOutside}
use Rattle.std.proofs.Math.Seq.{drop-append_seam, take-append_seam}
use Rattle.ud_model.specs.text.Bytes.{newline}

drop_front : (p q : List ℕ) (n : ℕ) → n ≡ length p → drop n (p ++ q) ≡ q
drop_front p q n e = ap (λ (k : ℕ). drop k (p ++ q)) e ∙ drop-append_seam p q

take_front : (p q : List ℕ) (n : ℕ) → n ≡ length p → take n (p ++ q) ≡ p
take_front p q n e = ap (λ (k : ℕ). take k (p ++ q)) e ∙ take-append_seam p q

-- a line begins after bytes that end with a newline, whatever comes before them
pub begins-append : (p q : List ℕ) → IsLineStart (q ++ newline ∷ []) → IsLineStart (p ++ (q ++ newline ∷ []))
begins-append p q h = subst IsLineStart (append_assoc p q (newline ∷ [])) (after_newline (p ++ q))

pub feed_open : (s : BulkState) → is_block (kind_in_state s.state) ≡ false →
    next_bulk_state s newline ≡ code_state true
feed_open s h = grind arith

module _ {start : BulkState} {bytes : List ℕ} {line : ℕ} {kept : BulkState} {at : ℕ} {now : BulkState}
    (r : ReadTo start bytes line kept at now) where
  -- the bytes from the position on
  pub rest_of : drop at bytes ≡ r.rest
  rest_of = ap (λ (l : List ℕ). drop at l) (r.is ∙ sym (append_assoc r.prefix r.mid r.rest))
      ∙ drop_front (r.prefix ++ r.mid) r.rest at (r.at_is ∙ sym (length-append r.prefix r.mid))

  -- the bytes from the beginning of the line up to the position
  pub mid_of : take (at - line) (drop line bytes) ≡ r.mid
  mid_of = grind (arith, drop_front, take_front)

  -- the lines before that beginning are skipped
  pub passed_of : Skipped start (take line bytes) kept
  passed_of = grind (arith, take_front)

  -- further bytes are read
  pub read_on : (k : ℕ) (run : List ℕ) → run ≡ take k (drop at bytes) → k ≤ length (drop at bytes) → HasNoStop now run → NoNewlineInBlock now run →
      (v : BulkState) → bulk_state_after now run ≡ v → ReadTo start bytes line kept (at + k) v
  unfolding rest_of
  read_on k run e h q l v there = record {
    prefix = r.prefix;
    mid = r.mid ++ run;
    rest = drop k (drop at bytes);
    is = grind (arith, rest_of, take-append-drop, append_assoc);
    line_is = r.line_is;
    at_is = grind (arith, length-take-le, length-append);
    passed = r.passed;
    quiet = HasNoStop-append kept r.mid run r.quiet (subst (λ (s : BulkState). HasNoStop s run) (sym r.leads) q);
    no_newline = NoNewlineInBlock-append kept r.mid run r.no_newline (subst (λ (s : BulkState). NoNewlineInBlock s run) (sym r.leads) l);
    leads = bulk_state_after-append kept r.mid run ∙ ap (λ (s : BulkState). bulk_state_after s run) r.leads ∙ there;
  }

  -- what is read, from the beginning of a later line
  pub settled_at : (n : ℕ) (m : List ℕ) → IsLineStart m → m ≡ take n r.mid → n ≤ length r.mid → 0 < n → ReadTo start bytes (line + n) (code_state true) at now
  settled_at n _ at_start e h k = absurd (let f : 0 ≡ n = ap length e ∙ length-take-le n r.mid h in omega arith)
  settled_at n _ (after_newline x) e h k = let y : List ℕ = drop n r.mid in
      let split : r.mid ≡ (x ++ newline ∷ []) ++ y = sym (take-append-drop n r.mid) ∙ ap (λ (l : List ℕ). l ++ drop n r.mid) (sym e) in
      let whole : r.mid ≡ x ++ newline ∷ y = split ∙ append_assoc x (newline ∷ []) y in
      let parts : HasNoStop kept (x ++ newline ∷ []) × HasNoStop (bulk_state_after kept (x ++ newline ∷ [])) y = HasNoStop-feed kept x y (subst (λ (l : List ℕ). HasNoStop kept l) whole r.quiet) in
      let kept_on : NoNewlineInBlock (bulk_state_after kept x) (newline ∷ y) = NoNewlineInBlock-rest kept x (newline ∷ y) (subst (λ (l : List ℕ). NoNewlineInBlock kept l) whole r.no_newline) in
      let there : bulk_state_after kept (x ++ newline ∷ []) ≡ code_state true = bulk_state_after-append kept x (newline ∷ []) ∙ feed_open (bulk_state_after kept x) kept_on.0 in
      record {
        prefix = r.prefix ++ (x ++ newline ∷ []);
        mid = y;
        rest = r.rest;
        is = grind (arith, append_assoc);
        line_is = grind (arith, length-take-le, length-append);
        at_is = grind (arith, length-append);
        passed = Skipped-append r.prefix (x ++ newline ∷ []) r.passed
            (subst (λ (s : BulkState). Skipped kept (x ++ newline ∷ []) s) there (passed_quiet kept (x ++ newline ∷ []) r.passed.at_line (after_newline x) parts.0));
        quiet = subst (λ (t : BulkState). HasNoStop t y) there parts.1;
        no_newline = subst (λ (t : BulkState). NoNewlineInBlock t y) (sym (bulk_state_after-append kept x (newline ∷ [])) ∙ there) kept_on.1;
        leads = ap (λ (t : BulkState). bulk_state_after t y) (sym there) ∙ sym (bulk_state_after-append kept (x ++ newline ∷ []) y) ∙ ap (λ (l : List ℕ). bulk_state_after kept l) (sym split) ∙ r.leads;
      }

  -- what is read, from the beginning of the last line
  pub settled : (n : ℕ) → LastLineStarts (take (at - line) (drop line bytes)) n → 0 < n → ReadTo start bytes (line + n) (code_state true) at now
  unfolding mid_of
  settled n h k = grind (arith, mid_of, settled_at)

  -- a splice on a logical line that isn't white ends a line
  pub read_splice : now ≡ code_state false → (k : ℕ) → k ≤ length (drop at bytes) → IsSplice (take k (drop at bytes)) →
      ReadTo start bytes (at + k) (code_state false) (at + k) (code_state false)
  unfolding rest_of
  read_splice e k h s = let splice : List ℕ = take k (drop at bytes) in
      let ends : at + k ≡ length (r.prefix ++ (r.mid ++ take k (drop at bytes))) =
      grind (arith, length-take-le, length-append) in
      record {
        prefix = r.prefix ++ (r.mid ++ take k (drop at bytes));
        mid = [];
        rest = drop k (drop at bytes);
        is = grind (arith, rest_of, take-append-drop, append_assoc);
        line_is = ends;
        at_is = omega (arith, ends);
        passed = Skipped-append r.prefix (r.mid ++ take k (drop at bytes)) r.passed
            (passed_splice kept r.mid (take k (drop at bytes)) r.passed.at_line r.quiet (r.leads ∙ e) s);
        quiet = tt;
        no_newline = tt;
        leads = refl;
      }

-- nothing is read yet
pub read_none : (start : BulkState) (bytes : List ℕ) → AtLine start → ReadTo start bytes 0 start 0 start
read_none start bytes at = grind (arith, passed_none start)

-- nothing is read yet, outside comments
pub read_start : (bytes : List ℕ) (white : Bool) → ReadOutside (code_state white) bytes 0 (code_state white) 0 white 0
unfolding read_none
read_start bytes white = record {
  now_white = white;
  so_far = read_none (code_state white) bytes (record { is = refl; starts = refl });
  before = [];
  plain = [];
  mid_is = refl;
  base_is = omega arith;
  base_leads = refl;
  no_comment = tt;
}

-- the position itself is a base
pub read_base : {start : BulkState} {bytes : List ℕ} {line : ℕ} {kept : BulkState} {at : ℕ} (begins : Bool) →
    ReadTo start bytes line kept at (code_state begins) → ReadOutside start bytes line kept at begins at
read_base begins r = record {
  now_white = begins;
  so_far = r;
  before = r.mid;
  plain = [];
  mid_is = sym (append-nil r.mid);
  base_is = r.at_is;
  base_leads = r.leads;
  no_comment = tt;
}

module _ {start : BulkState} {bytes : List ℕ} {line : ℕ} {kept : BulkState} {base : ℕ} {begins : Bool} {at : ℕ}
    (r : ReadOutside start bytes line kept base begins at) where
  -- the state to which the bytes after the base lead
  pub plain_leads : bulk_state_after (code_state begins) r.plain ≡ code_state r.now_white
  plain_leads = grind (arith, bulk_state_after-append)

  -- the bytes after the base
  pub plain_of : take (at - base) (drop base bytes) ≡ r.plain
  plain_of = grind (
    arith,
    append_assoc r.before r.plain r.so_far.rest,
    append_assoc r.so_far.prefix r.before (r.plain ++ r.so_far.rest),
    drop_front (r.so_far.prefix ++ r.before) (r.plain ++ r.so_far.rest) base (r.base_is ∙ sym (length-append r.so_far.prefix r.before)),
    take_front,
    length-append r.before r.plain,
  )

  -- further bytes are read outside comments
  pub read_text : (k : ℕ) → k ≤ length (drop at bytes) → CodeLexeme r.now_white (take k (drop at bytes)) → ReadOutside start bytes line kept base begins (at + k)
  unfolding read_on
  read_text k h t = record {
    now_white = t.now_white;
    so_far = read_on r.so_far k (take k (drop at bytes)) refl h t.quiet t.no_newline (code_state t.now_white) t.leads;
    before = r.before;
    plain = r.plain ++ take k (drop at bytes);
    mid_is = ap (λ (l : List ℕ). l ++ take k (drop at bytes)) r.mid_is ∙ append_assoc r.before r.plain (take k (drop at bytes));
    base_is = r.base_is;
    base_leads = r.base_leads;
    no_comment = NoComment-append (code_state begins) r.plain (take k (drop at bytes)) r.no_comment
        (subst (λ (x : BulkState). NoComment x.state (take k (drop at bytes))) (sym plain_leads) t.no_comment);
  }

  -- further bytes are read up to the beginning of a line, with a new base
  pub read_line : (k : ℕ) → k ≤ length (drop at bytes) → LineLexeme r.now_white (take k (drop at bytes)) → ReadOutside start bytes line kept (at + k) true (at + k)
  read_line k h t = search (rules, read_base, read_on)
