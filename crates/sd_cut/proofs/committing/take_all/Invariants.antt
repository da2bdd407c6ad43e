use Rattle.std.proofs.Common.{◌≡◌, drop}
use Rattle.sd_cut.specs.Elements.{all_changed}
use Rattle.sd_cut.specs.Streams.{all_takes}
use Rattle.sd_cut.proofs.committing.take_all.Given as goal

-- the takes that are left make of the memory now what all make of the first one
abbrev pub invariant-loop-number : goal.invariant-loop-number
invariant-loop-number l = all_changed (all_takes l.number (drop l.number l.streams)) l.memory ≡ all_changed (all_takes 0 l.streams) l.initial.memory
