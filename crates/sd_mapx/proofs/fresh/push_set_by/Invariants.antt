use Rattle.std.proofs.Common.{◌≡◌, ◌++◌, drop, map}
use Rattle.sd_graph.specs.TreeFold.{exit_tree}
use Rattle.sd_mapx.specs.FreshNames.{set_by}
use Rattle.sd_mapx.proofs.fresh.push_set_by.Given as goal

-- those so far, with those of the transitions that are left
abbrev pub invariant-loop-exit : goal.invariant-loop-exit
invariant-loop-exit l = l.variables.items ++ set_by (map exit_tree (drop l.exit-index l.exits)) ≡ l.initial.variables.items ++ set_by (map exit_tree l.exits)
