use Rattle.std.proofs.Common.{◌≡◌, drop}
use Rattle.std.specs.List.{list_all}
use Rattle.sd_graph.specs.TreeFold.{exit_tree, state_trees}
use Rattle.sd_validity.specs.rules.Transitions as transitions
use Rattle.sd_rules.proofs.transitions.sets_loop_variables.Given as goal

-- those left are variables of loops where all are
abbrev pub invariant-loop-variable : goal.invariant-loop-variable
invariant-loop-variable l = list_all (transitions.sets_loop_variable (state_trees l.states) l.state (exit_tree l.exit)) (drop l.variable-index l.variable-items) ≡ list_all (transitions.sets_loop_variable (state_trees l.states) l.state (exit_tree l.exit)) l.variable-items
