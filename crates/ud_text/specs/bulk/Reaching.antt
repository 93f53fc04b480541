-- Reaching: what the fast path of a skip knows.
--
-- Unlike a `Progress`, a `Reach` names no line: some line begins at or before its base.
use Rattle.std.specs.Prelude.{◌≡◌, ◌≤◌, ℕ, List, length, Bool, true, Option, IfSome}
use Rattle.ud_text.specs.bulk.BulkStates.{BulkState}
use Rattle.ud_text.specs.bulk.Progress.{ReadOutside}
use Rattle.ud_text.specs.declared.bulk.fast_path.Reach.{Reach}

-- `Reached start bytes p`: the bytes before `p.at` are read, `p.at` lies outside comments and
-- literals, and no comment begins from `p.base` on. If `p.at_line_start`, a line begins at
-- `p.base`, and `p.begins` is whether its logical line is white there.
pub record Reached (start : BulkState) (bytes : List ℕ) (p : Reach) : Type 0 where
  pub line : ℕ
  pub kept : BulkState
  pub begins : Bool
  pub read : ReadOutside start bytes line kept p.base begins p.at
  pub at_line_start : p.at_line_start ≡ true → (line ≡ p.base) × (begins ≡ p.begins)

-- `InReach p bytes`: the positions of `p` are in order, and lie within `bytes`.
abbrev pub InReach : Reach → List ℕ → Type 0
InReach p bytes = (p.base ≤ p.at) × (p.at ≤ length bytes)

-- `GoesOn bytes p result`: a step from `p` reads on to the result, or stops.
abbrev pub GoesOn : List ℕ → Reach → Option Reach → Type 0
GoesOn bytes p result =
    (start : BulkState) → Reached start bytes p → IfSome result (λ q. Reached start bytes q)
