use Rattle.std.proofs.Common.{◌∙◌, arith, refl, sym, true≢false}
use Rattle.std.proofs.lemmas.Result.{on_ok_weaker}
use Rattle.ud_tree.specs.WalkSteps.{scope_of}
use Rattle.ud_tree.proofs.LookLemmas.{left_out, node_directory, node_file, node_left}
use Rattle.ud_tree.proofs.ScopeLemmas.{below_first}
use Rattle.ud_tree.proofs.walk.Walk.add_node.Goals as goal

pub add_file-requires : goal.add_file-requires
add_file-requires c = below_first c.below-below.ensures c.as_bytes.ensures.value c.requires

pub returns-in-File : goal.returns-in-File
returns-in-File c = on_ok_weaker c.add_file.result
    (node_file c.args.self.now c.args.node refl (record {
      below = c.below-below.result.now;
      is_below = below_first c.below-below.ensures c.as_bytes.ensures.value c.requires;
      rules = c.mark.ensures;
    }) c.in-File.is) c.add_file.ensures

pub returns-in-Directory : goal.returns-in-Directory
returns-in-Directory c =
    let is_below = below_first c.below-below.ensures c.as_bytes.ensures.value c.requires in
    on_ok_weaker c.add_directory.result (node_directory c.args.self.now c.args.node refl (record {
      below = c.below-below.result.now;
      is_below = is_below;
      rules = c.mark.ensures;
    }) c.in-Directory.is (
      c.below-below.result.now,
      is_below,
      λ left. true≢false (sym (c.skips.ensures.1 left) ∙ c.if-not-skips.true),
    ))
    c.add_directory.ensures

pub returns-in-Directory-2 : goal.returns-in-Directory-2
returns-in-Directory-2 c =
    let is_below = below_first c.below-below.ensures c.as_bytes.ensures.value c.requires in
    node_left c.args.self.now c.args.node refl (record {
      below = c.below-below.result.now;
      is_below = is_below;
      rules = c.mark.ensures;
    }) (left_out (scope_of c.args.self.now) c.args.path.now c.args.name.now c.args.node.kind
    (λ file. grind arith)
    (λ is. (c.below-below.result.now, is_below, c.skips.ensures.0 c.if-not-skips.false))) refl

pub returns-in-Directory-2-2 : goal.returns-in-Directory-2-2
returns-in-Directory-2-2 c =
    let is_below = below_first c.below-below.ensures c.as_bytes.ensures.value c.requires in
    node_left c.args.self.now c.args.node refl (record {
      below = c.below-below.result.now;
      is_below = is_below;
      rules = c.mark.ensures;
    }) (left_out (scope_of c.args.self.now) c.args.path.now c.args.name.now c.args.node.kind
    (λ file. grind arith) (λ is. absurd (grind arith))) refl
