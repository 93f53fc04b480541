-- A report writes one message after another.
use Rattle.std.proofs.Common.{◌≡◌, ℕ, List, [], ◌++◌, true, false, refl, sym, ◌∙◌, subst, true≢false, arith}
use Rattle.ud_io.specs.Streams.{Stream, Sends}
use Rattle.ud_io.proofs.StreamLemmas.{sends_none, sends_then}
use Rattle.ud_tree.specs.Reports.{ReportState, counted, KeepsScreen, KeepsFinds, Writes, Tells, TellsOf, Says, ReportsOne, ReportsOf}

-- Nothing was written.
pub writes_kept : {a b : ReportState} → KeepsScreen a b → Writes a b []
writes_kept {a = a} h = record {
  plain = λ p. record { no_terminal = h.terminal ∙ p.no_terminal; unshown = h.shown ∙ p.unshown };
  sent = λ p. subst (λ (s : Stream). Sends a.err s []) (sym h.quiet) (sends_none a.err);
}

-- Bytes were written after others.
pub writes_then : {a b c : ReportState} {x y : List ℕ} → Writes a b x → Writes b c y → Writes a c (x ++ y)
writes_then h k = record { plain = λ p. k.plain (h.plain p); sent = λ p. sends_then (h.sent p) (k.sent (h.plain p)) }

keeps_then : {a b c : ReportState} → KeepsFinds a b → KeepsFinds b c → KeepsFinds a c
keeps_then h k = record { remaining = k.remaining ∙ h.remaining; unnamed = k.unnamed ∙ h.unnamed; lost = k.lost ∙ h.lost }

-- The report didn't change.
pub tells_none : (a : ReportState) → Tells a a []
tells_none a = record { writes = writes_kept (record { quiet = refl; terminal = refl; shown = refl }); keeps = record { remaining = refl; unnamed = refl; lost = refl } }

-- Nothing is known of what a terminal shows.
pub tells_terminal : {a b : ReportState} (x : List ℕ) → a.is_terminal ≡ true → KeepsFinds a b → Tells a b x
tells_terminal x is h = record {
  writes = record { plain = λ p. absurd (true≢false (sym is ∙ p.no_terminal)); sent = λ p. absurd (true≢false (sym is ∙ p.no_terminal)) };
  keeps = h;
}

-- Messages were written after others.
pub tells_then : {a b c : ReportState} {x y : List ℕ} → Tells a b x → Tells b c y → Tells a c (x ++ y)
tells_then h k = record { writes = writes_then h.writes k.writes; keeps = keeps_then h.keeps k.keeps }

-- Equal bytes were written.
pub tells_same : {a b : ReportState} {x y : List ℕ} → x ≡ y → Tells a b x → Tells a b y
tells_same {a = a} {b = b} e h = subst (λ (z : List ℕ). Tells a b z) e h

-- Nothing was written, and no number of files is shown.
pub says_none : (a : ReportState) → a.is_shown ≡ false → Says a a []
says_none a hidden = record { terminal = refl; hidden = hidden; faults = refl; keeps = record { remaining = refl; unnamed = refl; lost = refl }; cleared = a.err; unshown = λ e. refl; sent = sends_none a.err }

-- The number of files was removed.
pub says_cleared : {s : Stream} (a : ReportState) → a.is_shown ≡ true → Says a (record a { err = s; is_shown = false }) []
says_cleared {s = s} a is =
    record {
      terminal = refl;
      hidden = refl;
      faults = refl;
      keeps = record { remaining = refl; unnamed = refl; lost = refl };
      cleared = s;
      unshown = λ e. absurd (true≢false (sym is ∙ e));
      sent = sends_none s;
    }

-- Bytes were written after others.
pub says_then : {a b c : ReportState} {x y : List ℕ} → Says a b x → Says b c y → Says a c (x ++ y)
says_then {c = c} {y = y} h k = record {
  terminal = k.terminal ∙ h.terminal;
  hidden = k.hidden;
  faults = k.faults ∙ h.faults;
  keeps = keeps_then h.keeps k.keeps;
  cleared = h.cleared;
  unshown = h.unshown;
  sent = sends_then h.sent (subst (λ (s : Stream). Sends s c.err y) (k.unshown h.hidden) k.sent);
}

-- Bytes were written, once the number of files was removed.
pub says_sent : {a b : ReportState} {s : Stream} {x : List ℕ} → Says a b [] → Sends b.err s x → Says a (record b { err = s }) x
says_sent {b = b} h k = says_then h (record { terminal = refl; hidden = h.hidden; faults = refl; keeps = record { remaining = refl; unnamed = refl; lost = refl }; cleared = b.err; unshown = λ e. refl; sent = k })

-- Equal bytes were written.
pub says_same : {a b : ReportState} {x y : List ℕ} → x ≡ y → Says a b x → Says a b y
says_same {a = a} {b = b} e h = subst (λ (z : List ℕ). Says a b z) e h

-- `Says` implies `Tells`, whether a terminal showed the number of files or not.
pub says_tells : {a b : ReportState} {x : List ℕ} → Says a b x → Tells a b x
says_tells {b = b} {x = x} h = record {
  writes = record {
    plain = λ p. record { no_terminal = h.terminal ∙ p.no_terminal; unshown = h.hidden };
    sent = λ p. subst (λ (s : Stream). Sends s b.err x) (h.unshown p.unshown) h.sent;
  };
  keeps = h.keeps;
}

-- A message was written after its fault was counted.
pub tells_counted : {a b : ReportState} {x : List ℕ} → Tells (counted a) b x → Tells a b x
tells_counted h = record {
  writes = record {
    plain = λ p. h.writes.plain (record { no_terminal = p.no_terminal; unshown = p.unshown });
    sent = λ p. h.writes.sent (record { no_terminal = p.no_terminal; unshown = p.unshown });
  };
  keeps = record { remaining = h.keeps.remaining; unnamed = h.keeps.unnamed; lost = h.keeps.lost };
}

-- So it was written and counted.
pub reports_counted : {a b : ReportState} {x : List ℕ} → Says (counted a) b x → ReportsOne x a b
reports_counted h = record { tells = tells_counted (says_tells h); counted = λ small. omega (arith, h.faults); some = omega (arith, h.faults) }

-- An equal message was written and counted.
pub reports_same : {a b : ReportState} {x y : List ℕ} → x ≡ y → ReportsOne x a b → ReportsOne y a b
reports_same {a = a} {b = b} e h = subst (λ (z : List ℕ). ReportsOne z a b) e h

-- More is known of the message.
pub reports_weaker : {P Q : List ℕ → Type 0} {a b : ReportState} → ((m : List ℕ) → P m → Q m) → ReportsOf P a b → ReportsOf Q a b
reports_weaker f h = record { message = h.message; is_of = f h.message h.is_of; reports = h.reports }

-- The message was written.
pub reports_tells : {P : List ℕ → Type 0} {a b : ReportState} → ReportsOf P a b → TellsOf P a b
reports_tells h = record { message = h.message; is_of = h.is_of; tells = h.reports.tells }
