use Rattle.std.proofs.Common.{◌≡◌, drop}
use Rattle.sd_graph.specs.TreeFold.{act_trees, tasklet_tree}
use Rattle.sd_validity.specs.rules.CodeNames as names
use Rattle.sd_links.proofs.code.+acts.Given as goal

-- those left are known, with the locals in force so far, where all are
abbrev pub invariant-are_acts_known-loop-act : goal.invariant-are_acts_known-loop-act
invariant-are_acts_known-loop-act l =
    names.are_acts_known (tasklet_tree l.code) l.in_force.items (act_trees (drop l.act-index l.acts)) ≡ names.are_acts_known (tasklet_tree l.code) l.locals (act_trees l.acts)
