use Rattle.std.proofs.Common.{◌≡◌, drop}
use Rattle.sd_graph.specs.TreeFold.{item_trees}
use Rattle.sd_fire.specs.sparse.Tasklets.{are_tasks}
use Rattle.sd_fire.proofs.sparse.begin.are_tasks.Given as goal

abbrev pub invariant-loop-item : goal.invariant-loop-item
invariant-loop-item l = are_tasks (item_trees (drop l.item-index l.items)) ≡ are_tasks (item_trees l.items)
