use Rattle.std.proofs.Common.{◌≡◌, ◌++◌, drop}
use Rattle.sd_graph.specs.TreeFold.{item_trees}
use Rattle.sd_mapx.specs.FreshNames.{params_among}
use Rattle.sd_mapx.proofs.fresh.+params.Given as goal

-- those so far, with those of the items that are left
abbrev pub invariant-push_params_among-loop-item : goal.invariant-push_params_among-loop-item
invariant-push_params_among-loop-item l = l.variables.items ++ params_among (item_trees (drop l.item-index l.items)) ≡ l.initial.variables.items ++ params_among (item_trees l.items)
