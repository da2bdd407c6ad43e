use Rattle.std.proofs.Common.{◌≡◌, take, map}
use Rattle.sd_graph.specs.TreeFold.{act_tree}
use Rattle.sd_tasklet.specs.literals.Literals.{lifted_act}
use Rattle.sd_tasklet.proofs.literals.lifting.+acts.Given as goal

-- the statements so far
abbrev pub invariant-acts-loop-one : goal.invariant-acts-loop-one
invariant-acts-loop-one l = map act_tree l.lifted.items ≡ map (lifted_act l.numbers l.own) (map act_tree (take l.one-index l.all))
