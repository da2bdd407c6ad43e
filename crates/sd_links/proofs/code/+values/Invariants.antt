use Rattle.std.proofs.Common.{◌≡◌, drop}
use Rattle.sd_graph.specs.TreeFold.{tasklet_tree, value_trees}
use Rattle.sd_validity.specs.rules.CodeNames as names
use Rattle.sd_links.proofs.code.+values.Given as goal

-- those left are known where all are
abbrev pub invariant-are_values_known-loop-value : goal.invariant-are_values_known-loop-value
invariant-are_values_known-loop-value l =
    names.are_values_known (tasklet_tree l.code) l.locals (value_trees (drop l.value-index l.all)) ≡ names.are_values_known (tasklet_tree l.code) l.locals (value_trees l.all)
