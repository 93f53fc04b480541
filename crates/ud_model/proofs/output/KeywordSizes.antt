-- The lengths of keywords, and their positions in a line.
use Rattle.std.proofs.Common.{◌≡◌, ℕ, ◌+◌, ◌≤◌, length, Bool, if◌then◌else◌, refl, arith, rules}
use Rattle.ud_model.specs.text.Scans.{Scan, Reading}
use Rattle.ud_model.specs.sections.Directives.{Content, cut_keyword, directive, content_of, skip_white_and_hash, has_split_keyword, content_after_hash, role_of}
use Rattle.ud_model.specs.sections.Tree.{Item, elif_line, else_line, endif_line}
use Rattle.ud_model.specs.sections.Items.{Options, item_by, item_of}
use Rattle.ud_model.specs.answer.Printing.{keyword_in}
use Rattle.ud_model.proofs.sections.KeywordLies.{keyword_lies}
use Rattle.ud_model.specs.declared.kind.Role.{Role}
use Rattle.ud_model.specs.declared.kind.Role.TheVariants.{IfGroup, ElifGroup, ElseGroup, EndifLine}

-- The least length of a keyword with this role, if it may be edited.
abbrev pub least : Role → ℕ
least IfGroup = 2
least EndifLine = 5
least _ = 4

-- In this content the keyword is at least as long as its kind demands.
abbrev pub HasSize : Content → Type 0
HasSize (directive d) = least (role_of d.kind) ≤ d.keyword.len
HasSize _ = Unit {0}

size_unless_cut : (scan : Scan) (cut : Bool) → HasSize (if cut then cut_keyword else content_after_hash scan (skip_white_and_hash scan.masked))
size_unless_cut scan cut = search rules

-- A directive's keyword is at least as long as its kind demands.
pub content_size : (scan : Scan) → HasSize (content_of scan)
content_size scan = size_unless_cut scan (has_split_keyword scan (skip_white_and_hash scan.masked))

-- The keyword of this line has so many bytes at least, and lies in the body.
pub record HasWord (r : Reading) (n : ℕ) : Type 0 where
  pub size : n ≤ (keyword_in (content_of r.scan)).len
  pub within : (keyword_in (content_of r.scan)).at + (keyword_in (content_of r.scan)).len ≤ length r.line.body

-- The keywords of a directive that may be edited lie in its body.
abbrev pub HasKeyword : Item Reading → Type 0
HasKeyword (elif_line o) = HasWord o.line (least ElifGroup)
HasKeyword (else_line r) = HasWord r (least ElseGroup)
HasKeyword (endif_line r) = HasWord r (least EndifLine)
HasKeyword _ = Unit {0}

by_content : (o : Options) (r : Reading) (c : Content) → content_of r.scan ≡ c → HasSize c → length r.scan.masked ≤ length r.line.body → HasKeyword (item_by o r c)
by_content o r c e s h = grind (arith, keyword_lies)

-- The keyword of an item lies in its line, if the masked line isn't longer.
pub has_keyword : (o : Options) (r : Reading) → length r.scan.masked ≤ length r.line.body → HasKeyword (item_of o r)
has_keyword o r h = by_content o r (content_of r.scan) refl (content_size r.scan) h
