use Rattle.std.proofs.Common.{◌≡◌, ℕ, ◌++◌}
use Rattle.std.specs.List.{filter}
use Rattle.sd_graph.specs.LoopScope.{numbers_below, is_in_force}
use Rattle.sd_graph.specs.TreeFold.{state_trees}
use Rattle.sd_wire.specs.loops.Spans.{variables_in}
use Rattle.sd_wire.proofs.loops.span.push_spans.Given as goal

-- those of the variables so far
abbrev pub invariant-loop-variable : goal.invariant-loop-variable
invariant-loop-variable l = (state : ℕ) → variables_in l.spans.items state ≡ variables_in l.initial.spans.items state ++ filter (is_in_force (state_trees l.states) state l.begin) (numbers_below l.variable)
