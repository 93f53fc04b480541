-- Rows and the entries that they give names.
use Rattle.std.proofs.Common.{◌≡◌, ◌<◌, ◌≤◌, ◌+◌, ℕ, zero, suc, List, [], ◌∷◌, ◌++◌, length, get_or, Bool, true, false, Option, Some, bytes_eq, refl, subst, arith, if◌then◌else◌}
use Rattle.std.proofs.Math.ListN.{set}
use Rattle.std.specs.List.{insert}
use Rattle.std.proofs.lemmas.Slice.Eq.{bytes_eq-Decides}
use Rattle.ud_model.specs.conditions.Table.{Argument, Entry, entry_from}
use Rattle.ud_cond.specs.symbols.SymbolTable.{TableRepresents, SetsEntry, name_at, no_row}

-- no row from position `i` on is that of the name
abbrev pub NoneFrom : List Argument → ℕ → List ℕ → Type 0
NoneFrom rows i name = (k : ℕ) → i ≤ k → k < length rows → bytes_eq (name_at rows k) name ≡ false

-- row `i` is the last one of the name
pub record IsLastRow (rows : List Argument) (i : ℕ) (name : List ℕ) : Type 0 where
  pub within : i < length rows
  pub named : name_at rows i ≡ name
  pub last : NoneFrom rows (i + 1) name

-- one more call, after the others
pub entry_from-push : (e : Option Entry) (rows : List Argument) (a : Argument) (name : List ℕ) →
    entry_from e (rows ++ a ∷ []) name ≡ (if bytes_eq a.name name then Some a.entry else entry_from e rows name)
entry_from-push e [] a name = refl
entry_from-push e (r ∷ rows) a name = entry_from-push (if bytes_eq r.name name then Some r.entry else e) rows a name

-- a table that sets the entry of a call represents the calls with this one after them
pub represents-changes : (old new calls : List Argument) (a : Argument) → SetsEntry old new a → TableRepresents old calls → TableRepresents new (calls ++ a ∷ [])
represents-changes old new calls a change represents name = grind (arith, entry_from-push)

-- rows of other names give a name no entry
pub entry_from-none : (e : Option Entry) (rows : List Argument) (name : List ℕ) → NoneFrom rows 0 name → entry_from e rows name ≡ e
entry_from-none e [] name none = refl
entry_from-none e (r ∷ rows) name none =
    rw (none 0 (omega arith) (omega arith)) (entry_from-none e rows name (λ k low high. none (suc k) (omega arith) (omega arith)))

-- the last row of a name has its entry
pub entry_from-last : (e : Option Entry) (rows : List Argument) (i : ℕ) (name : List ℕ) → IsLastRow rows i name → entry_from e rows name ≡ Some (get_or rows i no_row).entry
entry_from-last e [] i name last = absurd (let w : i < 0 = last.within in omega arith)
entry_from-last e (r ∷ rows) zero name last =
    let same : bytes_eq r.name name ≡ true = (bytes_eq-Decides r.name name).1 last.named in
    rw same (entry_from-none (Some r.entry) rows name (λ k low high. last.last (suc k) (omega arith) (omega arith)))
entry_from-last e (r ∷ rows) (suc i) name last =
    entry_from-last (if bytes_eq r.name name then Some r.entry else e) rows i name
    (record { within = let w : suc i < length (r ∷ rows) = last.within in omega arith; named = last.named; last = λ k low high. last.last (suc k) (omega arith) (omega arith) })

-- the last row of a name is changed; `e` is the entry before the rows
pub entry_from-set : (e : Option Entry) (rows : List Argument) (i : ℕ) (a : Argument) → IsLastRow rows i a.name →
    (name : List ℕ) →
    entry_from e (set rows i a) name ≡ (if bytes_eq a.name name then Some a.entry else entry_from e rows name)
entry_from-set e [] i a last name = absurd (let w : i < 0 = last.within in omega arith)
entry_from-set e (r ∷ rows) zero a last name =
    let none : bytes_eq a.name name ≡ true → NoneFrom rows 0 name =
    λ t k low high. subst (λ n. bytes_eq (name_at rows k) n ≡ false) ((bytes_eq-Decides a.name name).0 t) (last.last (suc k) (omega arith) (omega arith)) in
    rw last.named (grind (arith, entry_from-none, none))
entry_from-set e (r ∷ rows) (suc i) a last name =
    entry_from-set (if bytes_eq r.name name then Some r.entry else e) rows i a
    (record { within = let w : suc i < length (r ∷ rows) = last.within in omega arith; named = last.named; last = λ k low high. last.last (suc k) (omega arith) (omega arith) }) name

-- a change of the last row of a name sets the entry of the name
pub changes-set : (rows old : List Argument) (i : ℕ) (row a : Argument) → rows ≡ old → row ≡ a → IsLastRow rows i a.name → SetsEntry old (set rows i row) a
changes-set rows old i row a view same last name = grind (arith, set, entry_from-set)

-- a row is inserted as the first one, and no other row has its name
added_front : (t : Bool) (e : Option Entry) (new : Entry) (rows : List Argument) (name : List ℕ) →
    (t ≡ true → NoneFrom rows 0 name) →
    entry_from (if t then Some new else e) rows name ≡ (if t then Some new else entry_from e rows name)
added_front t e new rows name none = grind (arith, entry_from-none)

-- a row is inserted, and no row from there on has its name; `e` is the entry before the rows
pub entry_from-insert : (e : Option Entry) (rows : List Argument) (i : ℕ) (a : Argument) → i ≤ length rows →
    NoneFrom rows i a.name → (name : List ℕ) →
    entry_from e (insert rows i a) name ≡ (if bytes_eq a.name name then Some a.entry else entry_from e rows name)
entry_from-insert e rows zero a within none name =
    added_front (bytes_eq a.name name) e a.entry rows name (λ t k low high. subst (λ n. bytes_eq (name_at rows k) n ≡ false) ((bytes_eq-Decides a.name name).0 t) (none k low high))
entry_from-insert e [] (suc i) a within none name = absurd (omega arith)
entry_from-insert e (r ∷ rows) (suc i) a within none name =
    entry_from-insert (if bytes_eq r.name name then Some r.entry else e) rows i a (omega arith) (λ k low high. none (suc k) (omega arith) (omega arith)) name
