use Rattle.std.proofs.Common.{◌≡◌, take, map}
use Rattle.sd_graph.specs.TreeFold.{act_tree}
use Rattle.sd_valid.specs.BoundCode.{bound_act}
use Rattle.sd_valid.proofs.code.+acts.Given as goal

-- the statements so far with the sizes
abbrev pub invariant-acts-loop-one : goal.invariant-acts-loop-one
invariant-acts-loop-one l = map act_tree l.bound.items ≡ map (bound_act l.sizes l.variables) (map act_tree (take l.one-index l.all))
