use Rattle.std.proofs.Common.{map, option_map, ap, ◌∙◌}
use Rattle.sd_work.specs.Leaf.{doing}
use Rattle.sd_graph.specs.TreeFold.{graph_tree}
use Rattle.sd_graph.specs.Context.{link_elements}
use Rattle.sd_mem.specs.machine.Stack.{reference_of}
use Rattle.sd_scope.specs.scope.Standing.{context_of}
use Rattle.sd_leaves.proofs.leaves_lemmas.CellLists.{copied_to}
use Rattle.sd_leaves.proofs.moves.doing.Doing.copy.Goals as goal

pub returns : goal.returns
returns c =
    let context = context_of (graph_tree c.args.graph.now) c.args.base.now c.args.scope.now in
    ap doing (c.in_ok-transfers.ensures
    ∙ copied_to c.as_slice.result.now c.as_slice-2.result.now (link_elements context c.args.from.now) (link_elements context c.args.to.now)
    (ap (map (option_map reference_of)) c.as_slice.ensures.value ∙ c.in_ok-sources.ensures) (ap (map (option_map reference_of)) c.as_slice-2.ensures.value ∙ c.in_ok-targets.ensures))
