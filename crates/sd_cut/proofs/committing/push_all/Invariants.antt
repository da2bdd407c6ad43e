use Rattle.std.proofs.Common.{◌≡◌, take}
use Rattle.sd_cut.specs.Elements.{all_changed}
use Rattle.sd_cut.specs.Streams.{all_pushes}
use Rattle.sd_cut.proofs.committing.push_all.Given as goal

-- those of the streams so far were pushed
abbrev pub invariant-loop-number : goal.invariant-loop-number
invariant-loop-number l = l.memory ≡ all_changed (all_pushes 0 l.left (take l.number l.streams)) l.initial.memory
