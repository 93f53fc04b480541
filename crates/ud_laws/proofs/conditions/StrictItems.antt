-- Under `-K` a line is the same item, but its condition may be unknown.
use Rattle.std.proofs.Common.{◌≡◌, ℕ, List, Bool, true, refl, arith}
use Rattle.ud_model.specs.text.Scans.{Reading}
use Rattle.ud_model.specs.conditions.Table.{Argument}
use Rattle.ud_model.specs.conditions.Expressions.{Expression}
use Rattle.ud_model.specs.conditions.Conditions.{Decision, tree_cond, expression_cond}
use Rattle.ud_model.specs.sections.Tree.{Item, Opener, text_line, if_line, elif_line, else_line, endif_line}
use Rattle.ud_model.specs.sections.Items.{Options, item_of}
use Rattle.ud_laws.specs.output.StrictLines.{under_strict}
use Rattle.ud_model.specs.declared.cond.Cond.{Cond}
use Rattle.ud_model.specs.declared.cond.Cond.TheVariants.{Unknown}
use Rattle.ud_laws.proofs.conditions.StrictLess.{cond_keeps}

-- The conditions are the same, or the first one is unknown.
pub data Looser : Cond → Cond → Type 0 where
  alike : {c : Cond} → Looser c c
  unknown : {d : Cond} → Looser Unknown d

-- The decisions differ in such conditions at most.
record LooserDecision (d e : Decision) : Type 0 where
  pub cond : Looser d.cond e.cond
  pub ignoring : e.ignoring ≡ d.ignoring

same_decision : (d : Decision) → LooserDecision d d
same_decision d = record { cond = alike; ignoring = refl }

module _ (table : List Argument) (k : Bool) where
  tree_loose : (s : Bool) (e : Expression) → Looser (tree_cond e table (record { constants = k; strict = true })) (tree_cond e table (record { constants = k; strict = s }))
  tree_loose s e = grind (arith, unknown, alike, cond_keeps)

  expression_loose : (s : Bool) (after : List ℕ) →
      Looser (expression_cond after table (record { constants = k; strict = true }))
      (expression_cond after table (record { constants = k; strict = s }))
  unfolding expression_cond
  expression_loose s after = grind (arith, alike, tree_loose)

-- The openers differ in such conditions at most.
pub record LooserOpener (o p : Opener Reading) : Type 0 where
  pub line : p.line ≡ o.line
  pub cond : Looser o.cond p.cond
  pub ignoring : p.ignoring ≡ o.ignoring

-- The items differ in such conditions at most.
pub data LooserItem : Item Reading → Item Reading → Type 0 where
  a_text : {r : Reading} → LooserItem (text_line r) (text_line r)
  an_if : {o p : Opener Reading} → LooserOpener o p → LooserItem (if_line o) (if_line p)
  an_elif : {o p : Opener Reading} → LooserOpener o p → LooserItem (elif_line o) (elif_line p)
  an_else : {r : Reading} → LooserItem (else_line r) (else_line r)
  an_endif : {r : Reading} → LooserItem (endif_line r) (endif_line r)

-- Under `-K` a line is the same item, but for an unknown condition.
pub item_loose : (o : Options) (r : Reading) → LooserItem (item_of (under_strict o) r) (item_of o r)
item_loose o r =
    grind (arith, an_if, an_elif, an_else, an_endif, expression_loose, alike, same_decision, a_text)
