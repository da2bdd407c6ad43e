use Rattle.std.proofs.Common.{◌≡◌, [], drop}
use Rattle.sd_cut.specs.Cutting.{all_begun}
use Rattle.sd_cut.proofs.opening.all_left.Given as goal

-- what is begun with the windows that are left, behind what is there
abbrev pub invariant-loop-number : goal.invariant-loop-number
invariant-loop-number l =
    all_begun l.memory l.number (drop l.number l.windows) l.arrays l.streams l.left ≡ all_begun l.memory 0 l.windows l.arrays l.streams (record { shapes = []; contents = [] })
