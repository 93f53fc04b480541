-- Unmatched: the arguments of `-g` that matched nothing.
--
--   Applies kind text below  a rule applies to what is at a path
--   Applied scope calls text   a walk met something to which a rule applies
--   NeverApplied scope calls text   it met nothing of this kind
--   Parts yes no texts others   each argument is one or the other, and which are the others
--   UnmatchedIn scope old new texts   the arguments of which a walk met nothing
--   quoted text              an argument in the quotes of a shell
--   rule_line rule           no name matched this argument
--   rule_lines args rules    these lines, unless quiet
--   LeavesRules args old new told rules   the arguments that the last lines have
--
--   is_marked marks i        the rule `i` is marked
--   MarksRules kind below texts marks marks'   the rules that apply to something were marked
--   MarksCalls scope calls marks marks'   those that apply to something which these calls met
--   MarksNode scope path kind marks marks'   those that apply to what is at a path
--   MarksWalk scope old new marks marks'   those that apply to something which a walk met
--   unmarked_in texts marks  the arguments that aren't marked
--
-- `calls` are the calls of a walk, and `old` and `new` the calls before and after, the newest
-- first.
--
-- Example: under `-g '!thrid'` there is the line `unifdef-tree: -g '!thrid' matched nothing`.
use Rattle.std.specs.Prelude.{◌≡◌, ◌⊎◌, ℕ, ◌<◌, ◌^◌, List, [], ◌∷◌, ◌++◌, length, map, codes}
use Rattle.std.specs.Prelude.{slice_index_or, Bool, true, false, ◌==◌, if◌then◌else◌}
use Rattle.std.specs.List.{Contains, flat_map}
use Rattle.ud_replace.specs.declared.node.Lookup.TheVariants.{Present}
use Rattle.ud_replace.specs.declared.node.Node.{Node}
use Rattle.ud_replace.specs.declared.node.NodeKind.{NodeKind}
use Rattle.ud_replace.specs.declared.node.NodeKind.TheVariants.{Directory}
use Rattle.ud_replace.specs.Calls.{Call, walked, WalkCall, met}
use Rattle.ud_tree.specs.declared.arguments.Arguments.{Arguments}
use Rattle.ud_tree.specs.declared.patterns.Effect.TheVariants.{Leave}
use Rattle.ud_tree.specs.Choices.{Fits, FitsFile, effect_of, rule_of}
use Rattle.ud_tree.specs.Scopes.{IsBelow, Scope, scope_in}
use Rattle.ud_tree.specs.Summaries.{line_of}

-- `Applies kind text below`: the rule of the argument leaves out the directory. Or it matches what
-- is no directory, as it does a file.
abbrev pub Applies : NodeKind → List ℕ → List ℕ → Type 0
Applies Directory text below = (effect_of text ≡ Leave) × Fits (rule_of text) below
Applies _ text below = FitsFile (rule_of text) below

-- `Applied scope calls text`: one of `calls` met something to which the rule of the argument
-- applies, by its path below one of the command line.
pub record Applied (scope : Scope) (calls : List WalkCall) (text : List ℕ) : Type 0 where
  pub path : List ℕ
  pub node : Node
  pub below : List ℕ
  pub seen : Contains calls (met path (Present node))
  pub is_below : IsBelow scope.paths path below
  pub applies : Applies node.kind text below

-- `NeverApplied scope calls text`: whatever `calls` met is at a path of the command line, or the
-- rule of the argument doesn't apply to it, by its path below one.
abbrev pub NeverApplied : Scope → List WalkCall → List ℕ → Type 0
NeverApplied scope calls text = (path : List ℕ) (node : Node) →
    Contains calls (met path (Present node)) → Contains scope.paths path ⊎
    ((below : List ℕ) × IsBelow scope.paths path below × ¬ (Applies node.kind text below))

-- `Parts yes no texts others`: of each of `texts`, either `yes` holds, or `no` holds and it is one
-- of `others`, which are in the same order.
pub data Parts (yes no : List ℕ → Type 0) : List (List ℕ) → List (List ℕ) → Type 0 where
  parts_end : Parts yes no [] []
  one_yes : {texts others : List (List ℕ)} (text : List ℕ) → yes text →
      Parts yes no texts others → Parts yes no (text ∷ texts) others
  one_no : {texts others : List (List ℕ)} (text : List ℕ) → no text →
      Parts yes no texts others → Parts yes no (text ∷ texts) (text ∷ others)

-- `UnmatchedIn scope old new texts`: since `old`, only calls of a walk were made, and `texts` are
-- the arguments that apply to nothing of what they met.
pub record UnmatchedIn (scope : Scope) (old new : List Call) (texts : List (List ℕ)) :
    Type 0 where
  pub calls : List WalkCall
  pub are : new ≡ map walked calls ++ old
  pub parts : Parts (Applied scope calls) (NeverApplied scope calls) scope.patterns texts

-- `quoted text`: the argument between quotes, as a shell reads it.
abbrev pub quoted : List ℕ → List ℕ
quoted text =
    codes "'" ++ flat_map (λ b. if b == 39 then codes "'\\''" else b ∷ []) text ++ codes "'"

-- `rule_line rule`: the line of a quoted argument that matched nothing.
abbrev pub rule_line : List ℕ → List ℕ
rule_line rule = line_of (codes "-g " ++ rule ++ codes " matched nothing")

-- `rule_lines args rules`: the lines of these quoted arguments; nothing if the run is quiet.
abbrev pub rule_lines : Arguments → List (List ℕ) → List ℕ
rule_lines args rules = if args.quiet then [] else flat_map rule_line rules

-- `LeavesRules args old new told rules`: `rules` are the arguments, quoted, that apply to nothing
-- which the walk from `old` to `new` met. There are none if it has `told` faults, if a machine can
-- count these, or if the paths come from the input.
pub record LeavesRules (args : Arguments) (old new : List Call) (told : ℕ)
    (rules : List (List ℕ)) : Type 0 where
  pub faulty : 0 < told → told < 2 ^ 64 → rules ≡ []
  pub input : args.from_input ≡ true → rules ≡ []
  pub each : told ≡ 0 → args.from_input ≡ false → (texts : List (List ℕ)) ×
      UnmatchedIn (scope_in args) old new texts × (rules ≡ map quoted texts)

-- `is_marked marks i`: the rule with the index `i` is marked, or there is none.
abbrev pub is_marked : List Bool → ℕ → Bool
is_marked marks i = slice_index_or marks i true

-- `rule_at texts i`: the argument with the index `i`.
abbrev pub rule_at : List (List ℕ) → ℕ → List ℕ
rule_at texts i = slice_index_or texts i []

-- `MarksRules kind below texts marks marks'`: the rules were marked that apply to what is at this
-- path, and no other one.
pub record MarksRules (kind : NodeKind) (below : List ℕ) (texts : List (List ℕ))
    (marks marks' : List Bool) : Type 0 where
  pub count : length marks' ≡ length marks
  pub kept : (i : ℕ) → is_marked marks i ≡ true → is_marked marks' i ≡ true
  pub marked : (i : ℕ) → is_marked marks' i ≡ true →
      (is_marked marks i ≡ true) ⊎ Applies kind (rule_at texts i) below
  pub unmarked : (i : ℕ) → i < length texts → is_marked marks' i ≡ false →
      ¬ (Applies kind (rule_at texts i) below)

-- `MarksCalls scope calls marks marks'`: the rules were marked that apply to something which
-- `calls` met, and no other one.
pub record MarksCalls (scope : Scope) (calls : List WalkCall) (marks marks' : List Bool) :
    Type 0 where
  pub count : length marks' ≡ length marks
  pub kept : (i : ℕ) → is_marked marks i ≡ true → is_marked marks' i ≡ true
  pub marked : (i : ℕ) → is_marked marks' i ≡ true →
      (is_marked marks i ≡ true) ⊎ Applied scope calls (rule_at scope.patterns i)
  pub unmarked : (i : ℕ) → i < length scope.patterns → is_marked marks' i ≡ false →
      NeverApplied scope calls (rule_at scope.patterns i)

-- `MarksNode scope path kind marks marks'`: the rules were marked that apply to what is at the
-- path, below one of the command line.
pub record MarksNode (scope : Scope) (path : List ℕ) (kind : NodeKind)
    (marks marks' : List Bool) : Type 0 where
  pub below : List ℕ
  pub is_below : IsBelow scope.paths path below
  pub rules : MarksRules kind below scope.patterns marks marks'

-- `MarksWalk scope old new marks marks'`: since `old`, only calls of a walk were made, and the
-- rules were marked that apply to something which they met.
pub record MarksWalk (scope : Scope) (old new : List Call) (marks marks' : List Bool) :
    Type 0 where
  pub calls : List WalkCall
  pub are : new ≡ map walked calls ++ old
  pub rules : MarksCalls scope calls marks marks'

-- `unmarked_in texts marks`: the arguments whose rules aren't marked.
abbrev pub unmarked_in : List (List ℕ) → List Bool → List (List ℕ)
unmarked_in [] marks = []
unmarked_in (text ∷ texts) [] = []
unmarked_in (text ∷ texts) (mark ∷ marks) =
    if mark then unmarked_in texts marks else text ∷ unmarked_in texts marks
