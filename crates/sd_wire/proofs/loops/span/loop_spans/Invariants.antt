use Rattle.std.proofs.Common.{◌≡◌, ℕ}
use Rattle.std.specs.List.{filter, flat_map}
use Rattle.sd_graph.specs.LoopScope.{numbers_below, is_in_force}
use Rattle.sd_graph.specs.TreeFold.{state_trees}
use Rattle.sd_wire.specs.loops.Spans.{variables_in}
use Rattle.sd_wire.proofs.loops.span.loop_spans.Given as goal

-- those of the begins so far
abbrev pub invariant-loop-begin : goal.invariant-loop-begin
invariant-loop-begin l = (state : ℕ) → variables_in l.spans.items state ≡ flat_map (λ begin. filter (is_in_force (state_trees l.states) state begin) (numbers_below l.variables)) (numbers_below l.begin)
