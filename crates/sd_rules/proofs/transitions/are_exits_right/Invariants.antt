use Rattle.std.proofs.Common.{◌≡◌, drop, map}
use Rattle.std.specs.List.{list_all}
use Rattle.sd_graph.specs.TreeFold.{exit_tree, state_trees}
use Rattle.sd_validity.specs.rules.Transitions as transitions
use Rattle.sd_rules.proofs.transitions.are_exits_right.Given as goal

-- those left lead where they may where all do
abbrev pub invariant-loop-exit : goal.invariant-loop-exit
invariant-loop-exit l = list_all (transitions.is_exit_right (state_trees l.states) l.state) (map exit_tree (drop l.exit-index l.exits)) ≡ list_all (transitions.is_exit_right (state_trees l.states) l.state) (map exit_tree l.exits)
