use Rattle.std.proofs.Common.{◌≡◌, drop}
use Rattle.sd_cut.specs.Elements.{all_changed, effects_from}
use Rattle.sd_cut.proofs.effects.perform_each.Given as goal

-- the effects that are left make of the memory now what all make of the first one
abbrev pub invariant-loop-number : goal.invariant-loop-number
invariant-loop-number l =
    all_changed (effects_from l.container l.number l.left (drop l.number l.cuts)) l.memory ≡ all_changed (effects_from l.container 0 l.left l.cuts) l.initial.memory
