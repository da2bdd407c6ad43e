use Rattle.std.proofs.Common.{◌≡◌, ◌++◌, drop, Ok}
use Rattle.sd_graph.specs.TaskletMeaning as meaning
use Rattle.sd_graph.specs.TreeFold.{value_trees}
use Rattle.sd_tasklet.specs.tasklet.Given.{given, told_inputs}
use Rattle.sd_tasklet.proofs.tasklet.value.+values.Given as goal

-- the values so far, and then those of the expressions that are left
abbrev pub invariant-values_of-loop-value : goal.invariant-values_of-loop-value
invariant-values_of-loop-value l = (meant : meaning.Inputs) → told_inputs (given l.inputs) ≡ told_inputs meant →
    meaning.values_of meant l.locals (value_trees l.values)
    ≡ meaning.and_then (meaning.values_of meant l.locals (value_trees (drop l.value-index l.values))) (λ rest. Ok (l.found.items ++ rest))
