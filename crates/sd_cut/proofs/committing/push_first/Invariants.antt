use Rattle.std.proofs.Common.{◌≡◌, map, take}
use Rattle.sd_work.specs.Memory.{waiting}
use Rattle.sd_work.specs.Change.{push}
use Rattle.sd_mem.specs.mem.Shaped.{alone}
use Rattle.sd_cut.specs.Elements.{all_changed}
use Rattle.sd_cut.proofs.committing.push_first.Given as goal

-- the values so far were pushed
abbrev pub invariant-loop-position : goal.invariant-loop-position
invariant-loop-position l = l.memory ≡ all_changed (map (push 0 l.container) (take l.position (waiting 0 l.container (alone l.left)))) l.initial.memory
