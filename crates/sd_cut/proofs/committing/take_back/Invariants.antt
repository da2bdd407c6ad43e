use Rattle.std.proofs.Common.{◌≡◌, ◌-◌}
use Rattle.sd_cut.specs.Undo.{taken_back}
use Rattle.sd_cut.proofs.committing.take_back.Given as goal

-- those that are left are taken back from the memory now
abbrev pub invariant-loop : goal.invariant-loop
invariant-loop l = taken_back l.container (l.count - l.counter) l.memory ≡ taken_back l.container l.count l.initial.memory
