use Rattle.std.proofs.Common.{◌≡◌, ◌++◌, drop}
use Rattle.sd_graph.specs.TreeFold.{item_trees}
use Rattle.sd_print.specs.graphs.StateText.{item_params}
use Rattle.sd_print.proofs.graphs.order.+params.Given as goal

-- those so far, with those that are left
abbrev pub invariant-push_item_params-loop-item : goal.invariant-push_item_params-loop-item
invariant-push_item_params-loop-item l = l.found.items ++ item_params (item_trees (drop l.item-index l.items)) ≡ l.initial.found.items ++ item_params (item_trees l.items)
