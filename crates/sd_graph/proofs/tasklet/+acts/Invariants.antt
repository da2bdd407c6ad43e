use Rattle.std.proofs.Common.{◌≡◌, take, map}
use Rattle.sd_graph.specs.TreeFold.{act_tree}
use Rattle.sd_graph.proofs.tasklet.+acts.Given as goal

-- the statements so far
abbrev pub invariant-copied_acts-loop-act : goal.invariant-copied_acts-loop-act
invariant-copied_acts-loop-act l = map act_tree l.copy.items ≡ map act_tree (take l.act-index l.acts)
