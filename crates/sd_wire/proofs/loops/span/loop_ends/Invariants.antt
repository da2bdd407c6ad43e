use Rattle.std.proofs.Common.{◌≡◌, ℕ}
use Rattle.std.specs.List.{list_any}
use Rattle.sd_graph.specs.LoopScope.{numbers_below}
use Rattle.sd_graph.specs.TreeFold.{state_trees}
use Rattle.sd_wire.specs.loops.Spans.{leads_to_end, is_before_end}
use Rattle.sd_wire.proofs.loops.span.loop_ends.Given as goal

-- those among the states so far
abbrev pub invariant-loop-number : goal.invariant-loop-number
invariant-loop-number l = (state : ℕ) → list_any (leads_to_end state) l.ends.items ≡ list_any (is_before_end (state_trees l.states) l.begin l.variable state) (numbers_below l.number)
