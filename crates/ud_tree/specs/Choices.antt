-- Choices: which names a walk over directories takes.
--
--   is_fresh name            a name like those of new files
--   IsVersioned name         a directory with this name belongs to version control or quilt
--   effect_of text, after_sign text   the effect and the pattern of an argument of `-g`
--   without_slash pattern    a pattern without the slash at its end
--   rule_of text             the rule that an argument of `-g` gives
--   subject pattern below    what a pattern is matched with
--   Fits rule below          a file or a directory matches the pattern of a rule
--   FitsFile rule below      a file matches a rule
--   Decides below texts effect   the effect of the last rule that matches
--   usual_patterns           the patterns of a run in which no rule takes their place
--   MatchesOne patterns name   one of some patterns matches the name
--   IsUsual texts name       a usual one does, and no rule takes their place
--   Chooses texts below chosen   whether a file is chosen
--   LeavesDirectory texts below   a rule leaves out a directory
--   LeavesOut texts below name   a directory is left out
--
-- `below` is the path below the path that the command line names. `texts` are the arguments of
-- `-g`.
--
-- Example: under `-g '+*.def' -g '!old/'`, the files `a.c` and `x.def` are chosen, and the
-- directory `lib/old` is left out.
use Rattle.std.specs.Prelude.{◌≡◌, ◌⊎◌, ℕ, ◌-◌, List, [], ◌∷◌, ◌++◌, length, take, Bool, true}
use Rattle.std.specs.Prelude.{false, ◌==◌, ◌||◌, Option, Some, None, codes, nat_eq, if◌then◌else◌}
use Rattle.std.specs.List.{Contains, ends_with, list_any, starts_with}
use Rattle.ud_tree.specs.Patterns.{Matches}
use Rattle.ud_tree.specs.Paths.{last_name}
use Rattle.ud_tree.specs.declared.patterns.Effect.{Effect}
use Rattle.ud_tree.specs.declared.patterns.Effect.TheVariants.{Only, Also, Leave}
use Rattle.ud_tree.specs.declared.patterns.Rule.{Rule as CodeRule}

-- `is_fresh name`: the name begins like those of new files.
abbrev pub is_fresh : List ℕ → Bool
is_fresh name = starts_with nat_eq name (codes ".unifdef-tree.")

-- `IsVersioned name`: a directory of this name belongs to version control or quilt. It has earlier
-- texts of files, and is left out.
abbrev pub IsVersioned : List ℕ → Type 0
IsVersioned name = (name ≡ codes ".git") ⊎ (name ≡ codes ".hg") ⊎ (name ≡ codes ".svn")
    ⊎ (name ≡ codes ".bzr") ⊎ (name ≡ codes "CVS") ⊎ (name ≡ codes ".pc")

-- `Rule`: a pattern, its effect on the files that match it, and whether it is one of directories
-- alone.
pub record Rule : Type 0 where
  pub effect : Effect
  pub directories : Bool
  pub pattern : List ℕ

-- `as_rule rule`: the code's rule, as one of the definitions.
abbrev pub as_rule : CodeRule → Rule
as_rule rule = record {
  effect = rule.effect;
  directories = rule.directories;
  pattern = rule.pattern.now;
}

-- `effect_of text`: the effect of the rule that an argument of `-g` gives. After `!`, the pattern
-- leaves files out; after `+`, it chooses them, too. Else it chooses them in place of the usual
-- patterns.
abbrev pub effect_of : List ℕ → Effect
effect_of [] = Only
effect_of (b ∷ rest) = if b == 33 then Leave else if b == 43 then Also else Only

-- `after_sign text`: the argument without its `!` or `+`.
abbrev pub after_sign : List ℕ → List ℕ
after_sign [] = []
after_sign (b ∷ rest) = if b == 33 || b == 43 then rest else b ∷ rest

-- `ends_in_slash pattern`: the pattern ends in a slash.
abbrev pub ends_in_slash : List ℕ → Bool
ends_in_slash pattern = ends_with nat_eq pattern (codes "/")

-- `without_slash pattern`: the pattern without the slash at its end, if it has one.
abbrev pub without_slash : List ℕ → List ℕ
without_slash pattern =
    if ends_in_slash pattern then take (length pattern - 1) pattern else pattern

-- `rule_of text`: the rule that an argument of `-g` gives. One that ends in a slash is one of
-- directories alone.
abbrev pub rule_of : List ℕ → Rule
rule_of text = record {
  effect = effect_of text;
  directories = ends_in_slash (after_sign text);
  pattern = without_slash (after_sign text);
}

-- `takes_place effect`: a rule with this effect takes the place of the usual patterns.
abbrev pub takes_place : Effect → Bool
takes_place Only = true
takes_place Also = false
takes_place Leave = false

-- `is_only text`: the rule of an argument takes their place.
abbrev pub is_only : List ℕ → Bool
is_only text = takes_place (effect_of text)

-- `chosen_by effect`: a rule with this effect chooses files.
abbrev pub chosen_by : Effect → Bool
chosen_by Only = true
chosen_by Also = true
chosen_by Leave = false

-- `is_path pattern`: the pattern has a slash.
abbrev pub is_path : List ℕ → Bool
is_path pattern = list_any (λ byte. nat_eq byte 47) pattern

-- `subject pattern below`: what the pattern is matched with: the path if it has a slash, else the
-- last name of the path.
abbrev pub subject : List ℕ → List ℕ → List ℕ
subject pattern below = if is_path pattern then below else last_name below

-- `Fits rule below`: the file or the directory matches the pattern of the rule.
abbrev pub Fits : Rule → List ℕ → Type 0
Fits rule below = Matches rule.pattern (subject rule.pattern below)

-- `FitsFile rule below`: the file matches the pattern of the rule, which isn't one of directories
-- alone.
abbrev pub FitsFile : Rule → List ℕ → Type 0
FitsFile rule below = (rule.directories ≡ false) × Fits rule below

-- `Decides below texts effect`: the last of the rules that the file matches has this effect; None
-- if it matches none.
pub data Decides (below : List ℕ) : List (List ℕ) → Option Effect → Type 0 where
  undecided : Decides below [] None
  last_fits : {texts : List (List ℕ)} {effect : Option Effect} (text : List ℕ) →
      Decides below texts effect → FitsFile (rule_of text) below →
      Decides below (texts ++ text ∷ []) (Some (rule_of text).effect)
  last_differs : {texts : List (List ℕ)} {effect : Option Effect} (text : List ℕ) →
      Decides below texts effect → ¬ (FitsFile (rule_of text) below) →
      Decides below (texts ++ text ∷ []) effect

-- `usual_patterns`: the patterns of sources and headers of C, C++, Objective-C and the like, and of
-- the files that `configure` makes them from.
abbrev pub usual_patterns : List (List ℕ)
usual_patterns = codes "*.[chCH]" ∷ codes "*.[Sylm]" ∷ codes "*.cc" ∷ codes "*.hh" ∷ codes "*.cpp" ∷
    codes "*.hpp" ∷ codes "*.cxx" ∷ codes "*.hxx" ∷ codes "*.c++" ∷ codes "*.h++" ∷ codes "*.ipp" ∷
    codes "*.tpp" ∷ codes "*.tcc" ∷ codes "*.inl" ∷ codes "*.mm" ∷ codes "*.xs" ∷ codes "*.pgc" ∷
    codes "*.[ch].in" ∷ codes "*.cc.in" ∷ codes "*.hh.in" ∷ codes "*.cpp.in" ∷ codes "*.hpp.in" ∷ []

-- `MatchesOne patterns name`: one of the patterns matches the name.
abbrev pub MatchesOne : List (List ℕ) → List ℕ → Type 0
MatchesOne patterns name = (pattern : List ℕ) × Contains patterns pattern × Matches pattern name

-- `IsUsual texts name`: a usual pattern matches the name, and no rule takes their place.
abbrev pub IsUsual : List (List ℕ) → List ℕ → Type 0
IsUsual texts name = (list_any is_only texts ≡ false) × MatchesOne usual_patterns name

-- `Chooses texts below chosen`: a new file of a run isn't chosen. Else the last rule that matches
-- decides. If none does, the usual patterns do, unless a rule takes their place: then the file
-- isn't chosen.
pub data Chooses (texts : List (List ℕ)) (below : List ℕ) : Bool → Type 0 where
  is_new : is_fresh (last_name below) ≡ true → Chooses texts below false
  decided : (effect : Effect) → is_fresh (last_name below) ≡ false →
      Decides below texts (Some effect) → Chooses texts below (chosen_by effect)
  usual : is_fresh (last_name below) ≡ false → Decides below texts None →
      IsUsual texts (last_name below) → Chooses texts below true
  unusual : Decides below texts None → ¬ (IsUsual texts (last_name below)) →
      Chooses texts below false

-- `LeavesDirectory texts below`: a rule leaves out what matches it, and the directory does.
pub record LeavesDirectory (texts : List (List ℕ)) (below : List ℕ) : Type 0 where
  pub text : List ℕ
  pub given : Contains texts text
  pub leaves : (rule_of text).effect ≡ Leave
  pub fits : Fits (rule_of text) below

-- `LeavesOut texts below name`: the directory with this name has earlier texts, or a rule leaves it
-- out.
abbrev pub LeavesOut : List (List ℕ) → List ℕ → List ℕ → Type 0
LeavesOut texts below name = IsVersioned name ⊎ LeavesDirectory texts below
