use Rattle.std.proofs.Common.{◌≡◌, map, take}
use Rattle.sd_graph.specs.TaskletMeaning.{Inputs}
use Rattle.sd_graph.specs.Unfold.{does_hold}
use Rattle.sd_tasklet.specs.tasklet.Kept.{told}
use Rattle.sd_leaves.proofs.leaves.exit.last_holds.Given as goal

-- it is so of the effects so far
abbrev pub invariant-loop-effect : goal.invariant-loop-effect
invariant-loop-effect l = (inputs : Inputs) → l.held ≡ does_hold (map (told inputs) (take l.effect-index l.effects))
