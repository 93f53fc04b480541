use Rattle.std.proofs.Common.{◌≡◌, ◌∙◌, ◌++◌, List, ℕ, ap, subst, string_bytes}
use Rattle.ud_tree.specs.Meeting.{Enters, directory_of, within}
use Rattle.ud_tree.proofs.disk.directories.Directories.place.Goals as goal

pub returns-clause-place : goal.returns-clause-place
returns-clause-place g c =
    let at : c.in_ok-text_of-2.field-0.now ≡ directory_of c.args.name.now =
    c.in_ok-text_of-2.ensures ∙ c.directory-directory.ensures in
    within (string_bytes c.in_ok-path.path)
    (subst (λ (f : List ℕ). Enters g.S.Looks.looking f (string_bytes c.in_ok-path.path)) at
    c.in_ok-path.ensures.enters)
    (c.in_ok-push_str.ensures.bytes ∙
    ap (λ (l : List ℕ). string_bytes c.in_ok-path.path ++ l) (c.in_ok-last.ensures ∙ c.last_name-last.ensures))
