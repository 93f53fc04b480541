-- A preprocessor with one choice at most ends in one state at most.
use Rattle.std.proofs.Common.{◌≡◌, true, false, refl, sym, subst, arith}
use Rattle.ud_model.specs.sections.Tree.{Nodes, Groups, Elifs}
use Rattle.ud_laws.specs.output.Processing.{Preprocessor, Processes, no_nodes, takes_line, includes_file, selects_group, ProcessesOne, no_group, true_group, true_before_else, else_group, ProcessesTrue, first_true, true_before, elif_true, NoneTrue, first_false, elif_false, HasOneChoice}

module _ {S F L : Type 0} (p : Preprocessor S F L) (files : F → Nodes L) (one : HasOneChoice p) where
  differ : true ≡ false → ⊥
  differ e = cc

  nodes_at : (ns : Nodes L) (s t u : S) → s ≡ t → Processes p files ns t u → Processes p files ns s u
  nodes_at ns s t u e g = subst (λ (x : S). Processes p files ns x u) (sym e) g

  one_at : (gs : Groups L) (s t u : S) → s ≡ t → ProcessesOne p files gs t u → ProcessesOne p files gs s u
  one_at gs s t u e g = subst (λ (x : S). ProcessesOne p files gs x u) (sym e) g

  file_at : (f g : F) (s t u : S) → f ≡ g → s ≡ t → Processes p files (files g) t u → Processes p files (files f) s u
  file_at f g s t u e d h = nodes_at (files f) s t u d (subst (λ (x : F). Processes p files (files x) t u) (sym e) h)

  takes_at : (l : L) (s t u : S) → s ≡ t → p.takes t l u → p.takes s l u
  takes_at l s t u e h = subst (λ (x : S). p.takes x l u) (sym e) h

  enters_at : (l : L) (f : F) (s t u : S) → s ≡ t → p.enters t l f u → p.enters s l f u
  enters_at l f s t u e h = subst (λ (x : S). p.enters x l f u) (sym e) h

  leaves_at : (s t u : S) → s ≡ t → p.leaves t u → p.leaves s u
  leaves_at s t u e h = subst (λ (x : S). p.leaves x u) (sym e) h

  none_once : {es : Elifs L} {s t u : S} → NoneTrue p es s t → NoneTrue p es s u → t ≡ u
  none_once (first_false {o = o} {s = s} {t = t} d) (first_false {t = u} e) = (one.one_truth s o false false t u d e).1
  none_once (elif_false h d) (elif_false k e) = grind (arith, none_once h k)

  true_or_none : {es : Elifs L} {s t u : S} → ProcessesTrue p files es s t → NoneTrue p es s u → ⊥
  true_or_none (first_true {o = o} {s = s} {t = t} d g) (first_false {t = u} e) = differ (one.one_truth s o true false t u d e).0
  true_or_none (true_before h) (elif_false k e) = true_or_none h k
  true_or_none (elif_true h d g) (elif_false k e) = grind (arith, differ, none_once)

  mutual
    -- The nodes lead to one state at most.
    pub once : {ns : Nodes L} {s t u : S} → Processes p files ns s t → Processes p files ns s u → t ≡ u
    once no_nodes no_nodes = refl
    once (takes_line {l = l} {t = t} {u = v} g h) (takes_line {t = u} {u = w} k i) = one.one_step t l v w h (takes_at l t u w (once g k) i)
    once (takes_line {l = l} {t = t} {u = v} g h) (includes_file {f = f} {t = u} {u = w} k i j m) = absurd (one.one_kind t l f v w h (enters_at l f t u w (once g k) i))
    once (includes_file {l = l} {f = f} {t = t} {u = v} g h i j) (takes_line {t = u} {u = w} k m) = absurd (one.one_kind u l f w v m (enters_at l f u t v (sym (once g k)) h))
    once (includes_file {l = l} {f = f} {t = t} {u = a} {v = b} {x = c} g h i j) (includes_file {f = e} {t = u} {u = x} {v = y} {x = z} k m n q) =
        let d : (f ≡ e) × (a ≡ x) = one.one_file t l f e a x h (enters_at l e t u x (once g k) m) in
        one.one_return b c z j (leaves_at b y z (once i (file_at f e a x y d.0 d.1 n)) q)
    once (selects_group {gs = gs} {t = t} g h) (selects_group {t = u} {u = w} k i) = one_once h (one_at gs t u w (once g k) i)

    one_once : {gs : Groups L} {s t u : S} → ProcessesOne p files gs s t → ProcessesOne p files gs s u → t ≡ u
    one_once (no_group h) (no_group k) = none_once h k
    one_once (no_group h) (true_group k) = absurd (true_or_none k h)
    one_once (true_group h) (no_group k) = absurd (true_or_none h k)
    one_once (true_group h) (true_group k) = true_once h k
    one_once (true_before_else h) (true_before_else k) = true_once h k
    one_once (true_before_else h) (else_group k g) = absurd (true_or_none h k)
    one_once (else_group h g) (true_before_else k) = absurd (true_or_none k h)
    one_once (else_group {ns = ns} {t = t} h g) (else_group {t = u} {u = w} k i) = once g (nodes_at ns t u w (none_once h k) i)

    true_once : {es : Elifs L} {s t u : S} → ProcessesTrue p files es s t → ProcessesTrue p files es s u → t ≡ u
    true_once (first_true {o = o} {ns = ns} {s = s} {t = t} d g) (first_true {t = u} {u = w} e k) = once g (nodes_at ns t u w (one.one_truth s o true true t u d e).1 k)
    true_once (true_before h) (true_before k) = true_once h k
    true_once (true_before h) (elif_true k e i) = absurd (true_or_none h k)
    true_once (elif_true h d g) (true_before k) = absurd (true_or_none k h)
    true_once (elif_true {o = o} {ns = ns} {t = t} {u = v} h d g) (elif_true {u = w} {v = x} k e i) =
        once g (nodes_at ns v w x (one.one_truth t o true true v w d (subst (λ (x : S). p.decides x o true w) (sym (none_once h k)) e)).1 i)
