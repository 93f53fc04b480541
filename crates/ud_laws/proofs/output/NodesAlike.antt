-- Nodes of the same shape, whose text lines and openers go together one for one.
use Rattle.ud_model.specs.sections.Tree.{Opener, Nodes, Groups, Elifs, nothing, text, section, conditional, otherwise, first, elif}

module _ {L M : Type 0} (T : L → M → Type 0) (O : Opener L → Opener M → Type 0) where
  mutual
    pub data NodesAlike : Nodes L → Nodes M → Type 0 where
      nothing_alike : NodesAlike nothing nothing
      text_alike : {ns : Nodes L} {us : Nodes M} {l : L} {m : M} → NodesAlike ns us → T l m → NodesAlike (text ns l) (text us m)
      section_alike : {ns : Nodes L} {us : Nodes M} {gs : Groups L} {hs : Groups M} {l : L} {m : M} → NodesAlike ns us → GroupsAlike gs hs → NodesAlike (section ns gs l) (section us hs m)

    pub data GroupsAlike : Groups L → Groups M → Type 0 where
      conditional_alike : {es : Elifs L} {fs : Elifs M} → ElifsAlike es fs → GroupsAlike (conditional es) (conditional fs)
      otherwise_alike : {es : Elifs L} {fs : Elifs M} {l : L} {m : M} {ns : Nodes L} {us : Nodes M} → ElifsAlike es fs → NodesAlike ns us → GroupsAlike (otherwise es l ns) (otherwise fs m us)

    pub data ElifsAlike : Elifs L → Elifs M → Type 0 where
      first_alike : {o : Opener L} {k : Opener M} {ns : Nodes L} {us : Nodes M} → O o k → NodesAlike ns us → ElifsAlike (first o ns) (first k us)
      elif_alike : {es : Elifs L} {fs : Elifs M} {o : Opener L} {k : Opener M} {ns : Nodes L} {us : Nodes M} → ElifsAlike es fs → O o k → NodesAlike ns us → ElifsAlike (elif es o ns) (elif fs k us)

module _ {L M : Type 0} {T V : L → M → Type 0} {O Q : Opener L → Opener M → Type 0} (texts : (l : L) (m : M) → T l m → V l m) (openers : (o : Opener L) (k : Opener M) → O o k → Q o k) where
  mutual
    -- Lines that go together otherwise.
    pub alike_by : {ns : Nodes L} {us : Nodes M} → NodesAlike T O ns us → NodesAlike V Q ns us
    alike_by nothing_alike = nothing_alike
    alike_by (text_alike {l = l} {m = m} a b) = text_alike (alike_by a) (texts l m b)
    alike_by (section_alike a b) = section_alike (alike_by a) (groups_by b)

    groups_by : {gs : Groups L} {hs : Groups M} → GroupsAlike T O gs hs → GroupsAlike V Q gs hs
    groups_by (conditional_alike a) = conditional_alike (elifs_by a)
    groups_by (otherwise_alike a b) = otherwise_alike (elifs_by a) (alike_by b)

    elifs_by : {es : Elifs L} {fs : Elifs M} → ElifsAlike T O es fs → ElifsAlike V Q es fs
    elifs_by (first_alike {o = o} {k = k} a b) = first_alike (openers o k a) (alike_by b)
    elifs_by (elif_alike {o = o} {k = k} c a b) = elif_alike (elifs_by c) (openers o k a) (alike_by b)

module _ {L : Type 0} {T : L → L → Type 0} {O : Opener L → Opener L → Type 0} (texts : (l : L) → T l l) (openers : (o : Opener L) → O o o) where
  mutual
    -- Nodes are like themselves.
    pub same_nodes : (ns : Nodes L) → NodesAlike T O ns ns
    same_nodes nothing = nothing_alike
    same_nodes (text ns l) = text_alike (same_nodes ns) (texts l)
    same_nodes (section ns gs e) = section_alike (same_nodes ns) (same_groups gs)

    same_groups : (gs : Groups L) → GroupsAlike T O gs gs
    same_groups (conditional es) = conditional_alike (same_elifs es)
    same_groups (otherwise es l ns) = otherwise_alike (same_elifs es) (same_nodes ns)

    same_elifs : (es : Elifs L) → ElifsAlike T O es es
    same_elifs (first o ns) = first_alike (openers o) (same_nodes ns)
    same_elifs (elif es o ns) = elif_alike (same_elifs es) (openers o) (same_nodes ns)
