-- Plans with more options and operands.
use Rattle.std.proofs.Common.{◌≡◌, ◌∙◌, ap, sym, subst, refl, ℕ, List, [], ◌∷◌, ◌++◌, Bool, true, false, if◌then◌else◌, Option, Some, None, is_some, append-nil, append_assoc, bytes_eq, option_map, IsSome, arith}
use Rattle.std.proofs.lemmas.List.Elements.{filter_map-append}
use Rattle.std.specs.List.{filter_map}
use Rattle.ud_cond.specs.symbols.SymbolTable.{TableRepresents}
use Rattle.std.proofs.lemmas.Slice.Eq.{bytes_eq-Decides}
use Rattle.ud_model.specs.conditions.Table.{Argument, Entry, entry_from}
use Rattle.ud_model.specs.declared.settings.Settings.{Settings}
use Rattle.ud_model.specs.declared.settings.ExitMode.{ExitMode}
use Rattle.ud_model.specs.declared.settings.ExitMode.TheVariants.{Zero}
use Rattle.ud_model.specs.answer.CommandLine.{ParsedArg, flag, option, operand, first_fault, settings_in, argument_in, operand_in, operand_index, parse_exit_mode, mode_from}
use Rattle.ud_args.specs.SymbolStorage.{StoresSymbol}
use Rattle.ud_args.specs.ParsedSettings.{with_flag, SetsSymbol, IsSetting, IsUsageOf}
use Rattle.ud_args.specs.declared.options.Setting.{Setting}
use Rattle.ud_args.specs.declared.usage.Usage.{Usage}
use Rattle.ud_args.specs.declared.usage.Usage.TheVariants.{OutOfMemory}
use Rattle.ud_args.specs.Plans.{PlanState, PlanRepresents}
use Rattle.ud_args.proofs.ParsedArgLemmas.{first_fault-append, first_fault-prefix, operand_in-append, settings_in-flag_last, settings_in-last}

-- a plan with one more option or operand, if no operand came before
represents_last : (old new : PlanState) (gs : List ParsedArg) (g : ParsedArg) → PlanRepresents old gs → old.operand ≡ None → first_fault (g ∷ []) ≡ None
    → new.settings ≡ settings_in (gs ++ g ∷ []) → TableRepresents new.symbols (filter_map argument_in gs ++ filter_map argument_in (g ∷ []))
    → new.operand ≡ operand_index (operand_in (g ∷ [])) → PlanRepresents new (gs ++ g ∷ [])
represents_last old new gs g p free right said represents index =
    grind (arith, first_fault-append, filter_map-append, operand_in-append)

-- an option or operand without a symbol keeps the table
represents_same : (old new : PlanState) (gs : List ParsedArg) (g : ParsedArg) → PlanRepresents old gs → old.operand ≡ None → first_fault (g ∷ []) ≡ None
    → filter_map argument_in (g ∷ []) ≡ [] → new.settings ≡ settings_in (gs ++ g ∷ []) → new.symbols ≡ old.symbols
    → new.operand ≡ operand_index (operand_in (g ∷ [])) → PlanRepresents new (gs ++ g ∷ [])
represents_same old new gs g p free right none said same index =
    let represents : TableRepresents new.symbols (filter_map argument_in gs ++ filter_map argument_in (g ∷ [])) = rw (none, append-nil, same) p.represents in
    represents_last old new gs g p free right said represents index

-- a flag changes the settings
pub represents_flag : (old new : PlanState) (gs : List ParsedArg) (c : ℕ) → PlanRepresents old gs → old.operand ≡ None
    → new.settings ≡ with_flag old.settings c → new.symbols ≡ old.symbols → new.operand ≡ old.operand → PlanRepresents new (gs ++ flag c ∷ [])
represents_flag old new gs c p free said same index =
    let settings = said ∙ ap (λ (s : Settings). with_flag s c) p.said ∙ sym (settings_in-flag_last gs c) in
    represents_same old new gs (flag c) p free refl refl settings same (index ∙ free)

-- an exit mode replaces the one before
pub represents_mode : (old new : PlanState) (gs : List ParsedArg) (word : ℕ) (argument : List ℕ) (mode : ExitMode) → PlanRepresents old gs → old.operand ≡ None → parse_exit_mode argument ≡ Some mode
    → new.settings ≡ record (old.settings) { exit_mode = mode } → new.symbols ≡ old.symbols → new.operand ≡ old.operand
    → PlanRepresents new (gs ++ option 120 word argument ∷ [])
represents_mode old new gs word argument mode p free e said same index =
    let right : first_fault (option 120 word argument ∷ []) ≡ None = rw e refl in
    let last : mode_from (mode_from Zero gs) (option 120 word argument ∷ []) ≡ mode = rw e refl in
    let settings : new.settings ≡ settings_in (gs ++ option 120 word argument ∷ []) =
    said ∙ (grind arith)
    ∙ sym (settings_in-last gs (option 120 word argument) mode (λ ls. refl) last) in
    represents_same old new gs (option 120 word argument) p free right refl settings same (index ∙ free)

-- a symbol is added as the last one of the table
pub represents_symbol : (old new : PlanState) (gs : List ParsedArg) (g : ParsedArg) (a : Argument) → PlanRepresents old gs → old.operand ≡ None → SetsSymbol g a
    → new.settings ≡ old.settings → TableRepresents new.symbols (filter_map argument_in gs ++ a ∷ []) → new.operand ≡ old.operand
    → PlanRepresents new (gs ++ g ∷ [])
represents_symbol old new gs g a p free s said represents index =
    let right : first_fault (option s.letter s.word s.argument ∷ []) ≡ None = rw (s.other, s.sets) refl in
    let last : mode_from (mode_from Zero gs) (option s.letter s.word s.argument ∷ []) ≡ mode_from Zero gs = rw s.other refl in
    let settings : new.settings ≡ settings_in (gs ++ option s.letter s.word s.argument ∷ []) =
    said ∙ p.said ∙ sym (settings_in-last gs (option s.letter s.word s.argument) (mode_from Zero gs) (λ ls. refl) last) in
    let table : TableRepresents new.symbols (filter_map argument_in gs ++ filter_map argument_in (option s.letter s.word s.argument ∷ [])) = rw s.sets represents in
    rw s.is (represents_last old new gs (option s.letter s.word s.argument) p free right settings table (index ∙ free))

-- an operand sets the index
pub represents_operand : (old new : PlanState) (gs : List ParsedArg) (n : ℕ) (name : List ℕ) → PlanRepresents old gs → old.operand ≡ None
    → new.settings ≡ old.settings → new.symbols ≡ old.symbols → new.operand ≡ Some n → PlanRepresents new (gs ++ operand n name ∷ [])
represents_operand old new gs n name p free said same index =
    let settings : new.settings ≡ settings_in (gs ++ operand n name ∷ []) =
    said ∙ p.said ∙ sym (settings_in-last gs (operand n name) (mode_from Zero gs) (λ ls. refl) refl) in
    represents_same old new gs (operand n name) p free refl refl settings same index

-- an option or operand with a setting has no fault
pub first_fault-said : (g : ParsedArg) (s : Setting) → IsSetting g s → first_fault (g ∷ []) ≡ None
first_fault-said g s h = grind arith

-- an option stays `Some` or `None` if its value is mapped
pub is_some-turned : {A B : Type 0} (f : A → B) (o : Option A) → is_some (option_map f o) ≡ is_some o
is_some-turned f o = grind arith

-- an option with a symbol, between those before it and those after it
record SymbolIn (gs : List ParsedArg) : Type 0 where
  before : List ParsedArg
  symbol : ParsedArg
  more : List ParsedArg
  is : gs ≡ before ++ symbol ∷ more
  sets : IsSome (argument_in symbol)

symbol_by : (g : ParsedArg) (gs : List ParsedArg) (o : Option Argument) → argument_in g ≡ o → ((filter_map argument_in gs ≡ [] → ⊥) → SymbolIn gs)
    → (filter_map argument_in (g ∷ gs) ≡ [] → ⊥) → SymbolIn (g ∷ gs)
symbol_by g gs (Some a) e further some = record { before = []; symbol = g; more = gs; is = refl; sets = subst IsSome (sym e) refl }
symbol_by g gs None e further some = let later : SymbolIn gs = further (λ none. some (rw e none)) in
    record { before = g ∷ later.before; symbol = later.symbol; more = later.more; is = ap (λ (hs : List ParsedArg). g ∷ hs) later.is; sets = later.sets }

-- options that give symbols have one that does
symbol_in : (gs : List ParsedArg) → (filter_map argument_in gs ≡ [] → ⊥) → SymbolIn gs
symbol_in [] some = absurd (some refl)
symbol_in (g ∷ gs) some = symbol_by g gs (argument_in g) refl (λ later. symbol_in gs later) some

-- a table with a row has an entry
entry_by : (e f : Entry) (rows : List Argument) (n : List ℕ) → ((d : Entry) → entry_from (Some d) rows n ≡ None → ⊥) → (b : Bool) → entry_from (if b then Some e else Some f) rows n ≡ None → ⊥
entry_by e f rows n further true h = further e h
entry_by e f rows n further false h = further f h

some_entry : (e : Entry) (rows : List Argument) (n : List ℕ) → entry_from (Some e) rows n ≡ None → ⊥
some_entry e [] n h = cc
some_entry e (a ∷ rows) n h = entry_by a.entry e rows n (λ d k. some_entry d rows n k) (bytes_eq a.name n) h

represents_none : (rows : List Argument) → TableRepresents rows [] → (rows ≡ [] → ⊥) → ⊥
represents_none [] h some = some refl
represents_none (a ∷ rows) h some =
    let same : bytes_eq a.name a.name ≡ true = (bytes_eq-Decides a.name a.name).1 refl in
    some_entry a.entry rows a.name (ap (λ (b : Bool). entry_from (if b then Some a.entry else None) rows a.name) (sym same) ∙ h a.name)

-- a failed allocation for the table, which has a symbol then, is one that `plan` may return
pub IsUsageOf-table : (plan : PlanState) (gs : List ParsedArg) (u : Usage) → PlanRepresents plan gs → u ≡ OutOfMemory → (plan.symbols ≡ [] → ⊥) → IsUsageOf gs u
IsUsageOf-table plan gs u p out some =
    let one = symbol_in gs (λ none. represents_none plan.symbols (subst (TableRepresents plan.symbols) none p.represents) some) in
    let whole = one.is ∙ sym (append_assoc one.before (one.symbol ∷ []) one.more) in
    let puts : StoresSymbol gs = grind (arith, first_fault-prefix) in
    rw out puts
