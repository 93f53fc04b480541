-- UnlistedLines: what the code knows of a text up to some line.
use Rattle.std.specs.Prelude.{◌≡◌, ℕ, ◌+◌, List, [], ◌++◌, length, true, if◌then◌else◌}
use Rattle.std.specs.List.{filter}
use Rattle.ud_model.specs.text.Scans.{Reading}
use Rattle.ud_passes.specs.Walks.{Walked}
use Rattle.ud_passes.specs.folding.LogicalLines.{plain_lines}
use Rattle.ud_passes.specs.names.UnlistedConditions.{is_unlisted_line, breaks, listed_from}
use Rattle.ud_passes.specs.declared.names.texts.File.{File}
use Rattle.ud_passes.specs.declared.names.texts.Found.{Found}
use Rattle.ud_passes.specs.declared.walk.Walk.{Walk}

-- `listed_text file rs`: the list of the lines among `rs` whose condition can't be listed in full.
-- If the file isn't to be listed, there is none.
abbrev pub listed_text : File → List Reading → List ℕ
listed_text file rs = if file.lists then listed_from file.name.now file.folded 1 rs else []

-- `Listed file text start found walk out`: the conditions before the walk's place were counted.
-- Their list was appended to `start`, if it is asked for.
pub record Listed (file : File) (text start : List ℕ) (found : Found) (walk : Walk)
    (out : List ℕ) : Type 0 where
  pub read : List Reading
  pub walked : Walked file.mode text read walk.rest.now walk.scanner
  pub count_is : found.count ≡ length (filter is_unlisted_line read)
  pub number_is : file.lists ≡ true → found.number ≡ 1 + breaks file.folded (plain_lines read)
  pub list_is : out ≡ start ++ listed_text file read
