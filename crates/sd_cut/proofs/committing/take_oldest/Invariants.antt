use Rattle.std.proofs.Common.{◌≡◌, ◌-◌, replicate}
use Rattle.sd_work.specs.Change.{take}
use Rattle.sd_cut.specs.Elements.{all_changed}
use Rattle.sd_cut.proofs.committing.take_oldest.Given as goal

-- those that are left are taken from the memory now
abbrev pub invariant-loop : goal.invariant-loop
invariant-loop l = all_changed (replicate (l.count - l.counter) (take 0 l.container 0)) l.memory ≡ all_changed (replicate l.count (take 0 l.container 0)) l.initial.memory
