use Rattle.std.proofs.Common.{◌≡◌, map, drop, Some}
use Rattle.sd_graph.specs.TreeFold.{graph_tree, item_trees}
use Rattle.sd_scope.specs.scope.Standing.{context_of}
use Rattle.sd_left.specs.sparse.Terms.{task_left}
use Rattle.sd_fire.specs.sparse.Tasklets.{are_tasks}
use Rattle.sd_fire.proofs.begin_lemmas.Parts.{AreBegunSoFar}
use Rattle.sd_fire.proofs.sparse.begin.begin_tasks.Given as goal

abbrev pub invariant-loop-item : goal.invariant-loop-item
invariant-loop-item l = record {
  tasks : are_tasks (item_trees (drop l.item-index l.items)) ≡ are_tasks (item_trees l.items);
  begun : AreBegunSoFar (item_trees l.items) (context_of (graph_tree l.graph) l.base l.scope) (map (λ instance. task_left (Some instance)) l.begun.items) (item_trees (drop l.item-index l.items));
}
