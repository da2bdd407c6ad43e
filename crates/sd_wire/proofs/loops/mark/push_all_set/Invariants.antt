use Rattle.std.proofs.Common.{◌≡◌, ◌++◌, drop, map}
use Rattle.std.specs.List.{flat_map}
use Rattle.sd_graph.specs.TreeFold.{exit_tree}
use Rattle.sd_wire.specs.loops.Marks.{variables_set}
use Rattle.sd_wire.proofs.loops.mark.push_all_set.Given as goal

-- those so far, with those of the transitions left
abbrev pub invariant-loop-exit : goal.invariant-loop-exit
invariant-loop-exit l = l.found.items ++ flat_map (variables_set l.begin) (map exit_tree (drop l.exit-index l.exits)) ≡ l.initial.found.items ++ flat_map (variables_set l.begin) (map exit_tree l.exits)
