-- Gone symbols: names that no condition of a text has any longer.
-- C11 6.10.1p4.
--
-- A condition that continues on the next line, or isn't understood, has no names here: C may find
-- it true or false.
--
-- Example: VMS is gone from `#if X`, `a`, `#endif`, but not under `-DX=VMS`.
use Rattle.std.specs.Prelude.{◌≡◌, ℕ, List}
use Rattle.std.specs.List.{Contains, flat_map}
use Rattle.ud_model.specs.text.Scans.{Reading}
use Rattle.ud_model.specs.conditions.Names.{names_in_tree}
use Rattle.ud_model.specs.conditions.Table.{Argument}
use Rattle.ud_model.specs.sections.Tree.{Nodes, closed}
use Rattle.ud_model.specs.sections.Items.{Options}
use Rattle.ud_model.specs.laws.Worlds.{World, openers}
use Rattle.ud_model.specs.laws.Rereading.{IsTreeOf, selected_bytes}
use Rattle.ud_laws.specs.output.CSelection.{IsCWorld, IsCPair}
use Rattle.ud_model.specs.laws.WrittenConditions.{condition_in}
use Rattle.ud_laws.specs.output.ListedNames.{IsNoValue, DifferAtMostAt}

-- `names_in_conditions ns`: the names in the conditions of the nodes, in order and with repeats.
abbrev pub names_in_conditions : Nodes Reading → List (List ℕ)
names_in_conditions ns = flat_map (λ r. names_in_tree (condition_in r)) (openers ns)

-- `IsGone table name ns`: no condition of the nodes has the name, and no symbol has it as its
-- value.
pub record IsGone (table : List Argument) (name : List ℕ) (ns : Nodes Reading) : Type 0 where
  pub unnamed : Contains (names_in_conditions ns) name → ⊥
  pub no_value : IsNoValue table name

-- `SelectsWithout o name u input output`: if `name` is gone from the output, and the table `u`
-- differs from the options' table there at most, C may decide the output by `u` as it may decide
-- the input by the options. It then selects the same lines from both texts, byte by byte.
abbrev pub SelectsWithout : Options → List ℕ → List Argument → List ℕ → List ℕ → Type 0
SelectsWithout o name u input output = (ns us : Nodes Reading) → IsTreeOf o input (closed ns) →
    IsTreeOf o output (closed us) → IsGone o.table name us → DifferAtMostAt name o.table u →
    (w v : World Reading) → IsCPair o w ns v us →
    IsCWorld u v us × (selected_bytes v us ≡ selected_bytes w ns)
