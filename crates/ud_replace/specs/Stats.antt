-- Stats: comparisons of the facts about a file.
use Rattle.std.specs.Prelude.{Bool, ◌&&◌, ◌==◌}
use Rattle.ud_replace.specs.declared.node.FileId.{FileId}
use Rattle.ud_replace.specs.declared.stat.FileStat.{FileStat}

-- `is_of id s`: `s` are the facts about the file `id`, by its device and number.
abbrev pub is_of : FileId → FileStat → Bool
is_of id s = s.version.device == id.device && s.version.inode == id.inode

-- `has_facts_of stat seen`: `seen` has the same mode, owner, group and number of links as `stat`.
abbrev pub has_facts_of : FileStat → FileStat → Bool
has_facts_of stat seen = seen.mode == stat.mode && seen.owner == stat.owner &&
    seen.group == stat.group && seen.links == stat.links
