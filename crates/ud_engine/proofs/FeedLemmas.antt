-- Feeding: the engine's state after a chunk, step by step.
use Rattle.std.proofs.Common.{◌≡◌, ℕ, ◌<◌, ◌≤◌, Bool, true, false, List, [], ◌++◌, length, take, drop, Option, None, Result, Ok, Err, refl, sym, ◌∙◌, ap, ap₂, subst, append_assoc, append-nil, take_all, take-append-drop, arith}
use Rattle.ud_model.specs.text.Lines.{split_lines}
use Rattle.ud_model.specs.sections.Items.{Options}
use Rattle.ud_model.specs.answer.Printing.{Judged}
use Rattle.ud_model.specs.answer.Outcomes.{lines_so_far}
use Rattle.ud_model.specs.declared.limits.TheConstants.{MAX_LINES}
use Rattle.ud_text.specs.lines.LinesState.{LinesState, untaken}
use Rattle.ud_text.specs.lines.LimitFaults.{limit_of}
use Rattle.ud_sections.specs.sections.SectionFaults.{fault_of}
use Rattle.ud_engine.specs.declared.fault.RunFault.{RunFault}
use Rattle.ud_engine.specs.declared.fault.RunFault.TheVariants.{Text, Section, Read, Write}
use Rattle.ud_engine.specs.Advancing.{EngineAdvances, StepFails, slice_between}
use Rattle.ud_engine.specs.Feeding.{EngineState, EngineRepresentsBuffered, EngineRepresents, Session, IsInSession, Continues, FaultsAfter, PrintsPrefix, FeedFails, Feeds}
use Rattle.ud_engine.specs.FaultEffects.{OutputUnchanged, result_after}
use Rattle.ud_io.specs.Watched.{WatchedState}
use Rattle.ud_io.specs.Streams.{Stream, stream_of, TakesAllBut}
use Rattle.ud_io.proofs.StreamLemmas.{stream_buffered, stream_then, stream_flushed, stream_appends, stream_cut}
use Rattle.ud_engine.proofs.StepLemmas.{between_none, take_more_of}
use Rattle.ud_engine.proofs.LinePartLemmas.{run_reaches, reads_so_far, one_line, few_sections}

-- An empty text has no lines.
pub none_so_far : lines_so_far [] ≡ []
unfolding split_lines
none_so_far = refl

-- An engine that was fed nothing is in a session of no text.
pub in_session : {S : Type 0} (represents : S → List Judged → Type 0) (piece_of : S → List Judged → Judged → List ℕ) (e : EngineState S) {s : Session} → s.text ≡ [] → s.printed ≡ [] →
    EngineRepresents represents piece_of e s.options s.pieces [] [] → IsInSession represents piece_of e s
in_session represents piece_of e h k l = grind arith

pub none_count : (lines : LinesState) → lines ≡ untaken MAX_LINES → lines.before ≤ MAX_LINES
none_count lines is = let z = ap (λ (l : LinesState). l.before) is in omega (arith, z)

pub none_begun : (lines : LinesState) → lines ≡ untaken MAX_LINES →
    0 < length lines.held → lines.before < MAX_LINES
none_begun lines is some = let z = ap (λ (l : LinesState). length l.held) is in omega (arith, z, some)

module _ {S : Type 0} (represents : S → List Judged → Type 0) (piece_of : S → List Judged → Judged → List ℕ) (o : Options) (piece : List Judged → Judged → List ℕ)
    (text printed : List ℕ) where
  -- Before the first byte of a chunk.
  pub feed_begins : (e : EngineState S) (a : Stream) (bytes : List ℕ) → EngineRepresents represents piece_of e o piece text printed →
      EngineAdvances represents piece_of e o piece text printed (take 0 bytes) a a [] (e.buffered ++ slice_between bytes 0 0)
  feed_begins e a bytes h = record {
    more = [];
    taken = subst (λ x. EngineRepresentsBuffered represents piece_of e o piece (text ++ []) x) (sym (append-nil printed))
        (subst (λ x. EngineRepresentsBuffered represents piece_of e o piece x printed) (sym (append-nil text)) h.taken);
    sent = subst (λ x. TakesAllBut a a [] x) (sym (ap₂ (λ x y. x ++ y) h.written (between_none bytes 0))) (stream_buffered a []);
  }

  -- One step more.
  pub feed_goes_on : (e f : EngineState S) (a b c : Stream) (bytes : List ℕ) (at end : ℕ) (left rest : List ℕ) → at ≤ end →
      (h : EngineAdvances represents piece_of e o piece text printed (take at bytes) a b [] left) →
      EngineAdvances represents piece_of f o piece (text ++ take at bytes) (printed ++ h.more) (slice_between bytes at end) b c left rest →
      EngineAdvances represents piece_of f o piece text printed (take end bytes) a c [] rest
  feed_goes_on e f a b c bytes at end left rest later h k =
      grind (arith, append_assoc, take_more_of, stream_then)

  module _ (e : EngineState S) (a b c : Stream) (bytes : List ℕ) (at : ℕ) (left : List ℕ) (h : EngineAdvances represents piece_of e o piece text printed (take at bytes) a b [] left)
      (works : a.failed ≡ false) (sent : TakesAllBut b c left []) where
    whole_text : (text ++ take at bytes) ++ drop at bytes ≡ text ++ bytes
    whole_text = append_assoc text (take at bytes) (drop at bytes) ∙ ap (λ x. text ++ x) (take-append-drop at bytes)

    all_sent : TakesAllBut a c h.more []
    all_sent = stream_flushed a b c h.more left h.sent sent

    -- A write failed.
    cut_short : c.failed ≡ true → FeedFails o piece c.failed a.contents c.contents (text ++ bytes) printed Write
    cut_short f = (
      f,
      (
        h.more,
        subst (λ x. PrintsPrefix o piece x (printed ++ h.more)) whole_text (run_reaches represents piece_of o piece e (text ++ take at bytes) (printed ++ h.more) h.taken (drop at bytes)),
        stream_cut a.failed c.failed a.contents c.contents h.more works f all_sent,
      ),
    )

    -- No write failed, and the next line is faulty.
    stopped : (f : RunFault) → c.failed ≡ false → StepFails o piece ((text ++ take at bytes) ++ drop at bytes) (printed ++ h.more) f →
        FeedFails o piece c.failed a.contents c.contents (text ++ bytes) printed f
    stopped (Text f) w s = (w, (h.more, subst (λ x. FaultsAfter o piece x (printed ++ h.more) (limit_of f)) whole_text s, stream_appends a.failed c.failed a.contents c.contents h.more works w all_sent))
    stopped (Section f) w s = (w, (h.more, subst (λ x. FaultsAfter o piece x (printed ++ h.more) (fault_of f)) whole_text s, stream_appends a.failed c.failed a.contents c.contents h.more works w all_sent))
    stopped Read w s = absurd s
    stopped Write w s = absurd s

    -- The next line is faulty, so feeding the chunk fails.
    pub feed_stops : {T : Type 0} (g : EngineState S) (failed : Bool) → failed ≡ c.failed → (f : RunFault) → (r : Result T RunFault) → r ≡ result_after failed (Err f) →
        StepFails o piece ((text ++ take at bytes) ++ drop at bytes) (printed ++ h.more) f →
        Feeds represents piece_of g (record { options = o; pieces = piece; text = text; printed = printed }) bytes c.failed a.contents c.contents r
    feed_stops g true w f r is s =
        subst (λ x. Feeds represents piece_of g (record { options = o; pieces = piece; text = text; printed = printed }) bytes c.failed a.contents c.contents x) (sym is) (cut_short (sym w))
    feed_stops g false w f r is s =
        subst (λ x. Feeds represents piece_of g (record { options = o; pieces = piece; text = text; printed = printed }) bytes c.failed a.contents c.contents x) (sym is) (stopped f (sym w) s)

    taken_all : length bytes ≤ at → EngineRepresentsBuffered represents piece_of e o piece (text ++ bytes) (printed ++ h.more)
    taken_all end = subst (λ x. EngineRepresentsBuffered represents piece_of e o piece (text ++ x) (printed ++ h.more)) (take_all at bytes end) h.taken

    -- All of the chunk is processed, and all output is written.
    continues : (f : EngineState S) → f ≡ record e { buffered = [] } → e.fault ≡ None → length bytes ≤ at → c.failed ≡ false →
        Continues represents piece_of f o piece (text ++ bytes) printed a.contents c.contents
    continues f is none end w = record {
      more = h.more;
      fed = fed;
      appended = stream_appends a.failed c.failed a.contents c.contents h.more works w all_sent;
      right = reads_so_far represents piece_of o piece f (text ++ bytes) (printed ++ h.more) fed.taken;
      one_line = one_line represents piece_of o piece f (text ++ bytes) (printed ++ h.more) fed.taken;
      few_sections = few_sections represents piece_of o piece f (text ++ bytes) (printed ++ h.more) fed.taken;
    }
      where
        taken : EngineRepresentsBuffered represents piece_of e o piece (text ++ bytes) (printed ++ h.more)
        taken = taken_all end

        fed : EngineRepresents represents piece_of f o piece (text ++ bytes) (printed ++ h.more)
        fed = subst (λ x. EngineRepresents represents piece_of x o piece (text ++ bytes) (printed ++ h.more)) (sym is) (record {
          taken = record {
            items = taken.items;
            tree = taken.tree;
            goes = taken.goes;
            has = taken.has;
            printed_is = taken.printed_is;
            symbols = taken.symbols;
            opened = taken.opened;
            took = taken.took;
            no_fault = taken.no_fault;
            begun = taken.begun;
            count = taken.count;
          };
          works = none;
          written = refl;
        })

    pub feed_ends : {T : Type 0} (f : EngineState S) → f ≡ record e { buffered = [] } → e.fault ≡ None → length bytes ≤ at → (failed : Bool) → failed ≡ c.failed → (v : T) →
        (r : Result T RunFault) → r ≡ result_after failed (Ok v) →
        Feeds represents piece_of f (record { options = o; pieces = piece; text = text; printed = printed }) bytes c.failed a.contents c.contents r
    feed_ends f is none end true w v r e =
        subst (λ x. Feeds represents piece_of f (record { options = o; pieces = piece; text = text; printed = printed }) bytes c.failed a.contents c.contents x) (sym e) (cut_short (sym w))
    feed_ends f is none end false w v r e = grind (arith, continues)

-- After a step that changed no output, the same is appended by what follows.
pub unchanged_sent : {W : Type 0} (contents : W → Option (List ℕ)) (old new last : WatchedState W) (g₀ g₁ pending left : List ℕ) (f : RunFault) → OutputUnchanged old new g₀ g₁ f →
    TakesAllBut (stream_of contents new) (stream_of contents last) (g₁ ++ pending) left → TakesAllBut (stream_of contents old) (stream_of contents last) (g₀ ++ pending) left
unchanged_sent contents old new last g₀ g₁ pending left f h k = grind arith
