-- Others: the files of other names than those of a run, and which of them name a symbol.
--
--   wants_others args        the run tells of them
--   any_name patterns        the rules that choose files of all names
--   others_scope args        the paths of a run, and these rules
--   is_among files f         a list has a file with the path of `f`
--   seeks_others args failed   it looks for them
--   without_mark text        a text without its byte order mark
--   names_symbol table text   a condition of the text names a symbol
--   kind_of table text sample   what a file is, of which this text was read
--   Look, is_named table l, is_left table l   what was read of a file, and what that shows
--   calls_of looks old       the calls after these files were read
--   LooksAt args path old new answer   a file was read
--   WalksOthers args old new all   a walk found the files of all names
--   AreFound table looks others   which of these files name a symbol, and how many weren't searched
--   ReadsOthers args files all old new others   the files of other names were read
--   AddsOther args files f old new others others'   one file more was read
--   AreOthers args files old new others   a walk found them, and they were read
--   SeeksOthers args failed files old new is_lost others   so they were, if the run looks for them
--   FindsOthers args failed files old new before after others   the same, and nothing was written
--   others_list files        what is listed of them
--
-- `old` and `new` are the calls before and after, the newest first.
use Rattle.std.specs.Prelude.{◌≡◌, ℕ, ◌<◌, ◌^◌, List, [], ◌∷◌, ◌++◌, length, drop, filter, map}
use Rattle.std.specs.Prelude.{Bool, true, false, not, ◌&&◌, ◌==◌, codes, bytes_eq, count_by}
use Rattle.std.specs.Prelude.{nat_eq, if◌then◌else◌}
use Rattle.std.specs.Prelude.{string_bytes, Result, IfOk}
use Rattle.std.specs.List.{flat_map, list_any, starts_with}
use Rattle.std.specs.declared.alloc.AllocError.{AllocError}
use Rattle.ud_model.specs.conditions.Table.{Argument}
use Rattle.ud_model.specs.declared.kind.Mode.TheVariants.{Plain}
use Rattle.ud_cond.specs.symbols.SymbolTable.{TableRepresents}
use Rattle.ud_passes.specs.remaining.RemainingLists.{remaining_count}
use Rattle.ud_replace.specs.declared.node.Sample.{Sample}
use Rattle.ud_replace.specs.declared.node.Sample.TheVariants.{Whole, Binary}
use Rattle.ud_replace.specs.Calls.{Call, sampled}
use Rattle.ud_replace.specs.Moments.{EachCall}
use Rattle.ud_tree.specs.declared.arguments.Arguments.{Arguments}
use Rattle.ud_tree.specs.declared.other_files.OtherKind.{OtherKind}
use Rattle.ud_tree.specs.declared.other_files.OtherKind.TheVariants.{Named, Silent, Unsearched}
use Rattle.ud_tree.specs.declared.other_files.Others.{Others}
use Rattle.ud_tree.specs.declared.walk.Found.{Found}
use Rattle.ud_tree.specs.Covering.{CoversPaths, StandsIn}
use Rattle.ud_tree.specs.Scopes.{Scope}
use Rattle.ud_tree.specs.Reports.{ReportState, KeepsScreen}
use Rattle.ud_tree.specs.TreeMoments.{TouchesNothing}
use Rattle.ud_tree.specs.Walks.{IsWalk}
use Rattle.ud_tree.specs.WalkMessages.{WalkTells}

-- `wants_others args`: what remains of the symbols is listed, and the run isn't quiet. Its paths
-- come from the command line.
abbrev pub wants_others : Arguments → Bool
wants_others args =
    args.has_symbols && args.list_remaining && not args.quiet && not args.from_input

-- `seeks_others args failed`: the run looks for them: it tells of them, and its output hasn't
-- `failed`.
abbrev pub seeks_others : Arguments → Bool → Bool
seeks_others args failed = wants_others args && not failed

-- `any_name patterns`: the rules that choose files of all names but those that `patterns` leaves
-- out.
abbrev pub any_name : List (List ℕ) → List (List ℕ)
any_name patterns = codes "*" ∷ patterns

-- `others_scope args`: the paths of the arguments, and these rules.
abbrev pub others_scope : Arguments → Scope
others_scope args = record {
  paths = map string_bytes args.paths.items;
  patterns = any_name (map string_bytes args.patterns.items);
}

-- `is_among files f`: one of `files` has the path of `f`.
abbrev pub is_among : List Found → Found → Bool
is_among files f = list_any (λ g. bytes_eq (string_bytes g.path) (string_bytes f.path)) files

-- `without_mark text`: `text` without the byte order mark of UTF-8 that it may begin with.
abbrev pub without_mark : List ℕ → List ℕ
without_mark text =
    if starts_with nat_eq text (239 ∷ 187 ∷ 191 ∷ []) then drop 3 text else text

-- `names_symbol table text`: a condition of the text names a symbol. Comments and strings of C mean
-- nothing there, and neither does a byte order mark.
abbrev pub names_symbol : List Argument → List ℕ → Bool
names_symbol table text = not (remaining_count table Plain (without_mark text) == 0)

-- `kind_of table text sample`: what a file is of which `text` was read. A whole text names a symbol
-- or not, and a file that isn't text names none. Any other file wasn't searched.
abbrev pub kind_of : List Argument → List ℕ → Sample → OtherKind
kind_of table text Whole = if names_symbol table text then Named else Silent
kind_of table text Binary = Silent
kind_of table text sample = Unsearched

-- `Look`: a file, what was read of it, and what the answer says of that.
pub record Look : Type 0 where
  pub file : Found
  pub text : List ℕ
  pub answer : Sample

-- `names kind`: a file of this kind names a symbol.
abbrev pub names : OtherKind → Bool
names Named = true
names kind = false

-- `is_unsearched kind`: a file of this kind wasn't searched.
abbrev pub is_unsearched : OtherKind → Bool
is_unsearched Unsearched = true
is_unsearched kind = false

module _ (table : List Argument) where
  -- `is_named l`: the file that was read names a symbol.
  abbrev pub is_named : Look → Bool
  is_named l = names (kind_of table l.text l.answer)

  -- `is_left l`: the file wasn't searched.
  abbrev pub is_left : Look → Bool
  is_left l = is_unsearched (kind_of table l.text l.answer)

-- `calls_of looks old`: the calls after `old`, once these files were read in turn.
abbrev pub calls_of : List Look → List Call → List Call
calls_of [] old = old
calls_of (l ∷ looks) old =
    calls_of looks (sampled (string_bytes l.file.path) l.text l.answer ∷ old)

-- `LooksAt args path old new result`: the file was read, and the result says, unless memory ran
-- out, what it is.
pub record LooksAt (args : Arguments) (path : List ℕ) (old new : List Call)
    (result : Result OtherKind AllocError) : Type 0 where
  pub text : List ℕ
  pub answer : Sample
  pub call : new ≡ sampled path text answer ∷ old
  pub tells : IfOk result (λ kind. (table : List Argument) →
      TableRepresents args.plan.run.symbols table → kind ≡ kind_of table text answer)

-- `WalksOthers args old new all`: a walk from the paths of the command line found the files `all`,
-- and missed none but those that a rule leaves out.
pub record WalksOthers (args : Arguments) (old new : List Call) (all : List Found) : Type 0 where
  pub messages : List (List ℕ)
  pub walk : WalkTells old new messages
  pub is_walk : IsWalk old new all
  pub covers : CoversPaths (others_scope args) old new StandsIn all (0 < length messages)

-- `AreFound table looks others`: `others` are the files that name a symbol among those that were
-- read, and the number of those that weren't searched, if a machine can count these.
pub record AreFound (table : List Argument) (looks : List Look) (others : Others) : Type 0 where
  pub named : others.named.items ≡ map (λ l. l.file) (filter (is_named table) looks)
  pub unsearched : count_by (is_left table) looks < 2 ^ 64 →
      others.unsearched ≡ count_by (is_left table) looks

-- `ReadsOthers args files all old new others`: the files of `all` that aren't among `files` were
-- read in turn, and `others` are what was found among them.
pub record ReadsOthers (args : Arguments) (files all : List Found) (old new : List Call)
    (others : Others) : Type 0 where
  pub looks : List Look
  pub files_are : map (λ l. l.file) looks ≡ filter (λ f. not (is_among files f)) all
  pub calls_are : new ≡ calls_of looks old
  pub others_are : (table : List Argument) → TableRepresents args.plan.run.symbols table →
      AreFound table looks others

-- `other_line f`: the line of a file of another name that names a symbol.
abbrev pub other_line : Found → List ℕ
other_line f = string_bytes f.path ++ codes ": is not processed, and names a symbol\n"

-- `others_list files`: the lines of such files.
abbrev pub others_list : List Found → List ℕ
others_list files = flat_map other_line files

-- `AddsOther args files f old new others others'`: whatever files came before, `f` was read in its
-- turn, unless it is among `files`.
abbrev pub AddsOther : Arguments → List Found → Found → List Call → List Call → Others → Others →
    Type 0
AddsOther args files f old new others others' = (all : List Found) (start : List Call) →
    ReadsOthers args files all start old others →
    ReadsOthers args files (all ++ f ∷ []) start new others'

-- `AreNone others`: there are none.
pub record AreNone (others : Others) : Type 0 where
  pub named : others.named.items ≡ []
  pub unsearched : others.unsearched ≡ 0

-- `AreOthers args files old new others`: a walk found the files of all names, and those that aren't
-- among `files` were read. Or a path of the command line can't be taken any more, and there are
-- none.
pub data AreOthers (args : Arguments) (files : List Found) (old new : List Call)
    (others : Others) : Type 0 where
  no_path : (messages : List (List ℕ)) → WalkTells old new messages → 0 < length messages →
      AreNone others → AreOthers args files old new others
  were_read : (mid : List Call) (all : List Found) → WalksOthers args old mid all →
      ReadsOthers args files all mid new others → AreOthers args files old new others

-- `SeeksOthers args failed files old new is_lost others`: no call touches a file. `others` are the
-- files of other names that name a symbol, and the number of those that weren't searched, unless
-- some were lost for lack of memory. If the run doesn't tell of them, or its output had `failed`
-- before, no call was made.
pub record SeeksOthers (args : Arguments) (failed : Bool) (files : List Found)
    (old new : List Call) (is_lost : Bool) (others : Others) : Type 0 where
  pub touches : EachCall TouchesNothing old new
  pub unsought : seeks_others args failed ≡ false → (new ≡ old) × AreNone others
  pub found : is_lost ≡ false → seeks_others args failed ≡ true →
      AreOthers args files old new others

-- `FindsOthers args failed files old new before after others`: the same, by what the report
-- records. Nothing else was added to that.
pub record FindsOthers (args : Arguments) (failed : Bool) (files : List Found)
    (old new : List Call) (before after : ReportState) (others : Others) : Type 0 where
  pub screen : KeepsScreen before after
  pub remaining : after.remaining ≡ before.remaining
  pub unnamed : after.unnamed ≡ before.unnamed
  pub kept : before.lacks_memory ≡ true → after.lacks_memory ≡ true
  pub seeks : SeeksOthers args failed files old new after.lacks_memory others
