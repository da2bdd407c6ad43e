use Rattle.std.proofs.Common.{◌≡◌, drop}
use Rattle.sd_cut.specs.Elements.{all_changed, all_effects}
use Rattle.sd_cut.proofs.effects.perform_all.Given as goal

-- the effects that are left make of the memory now what all make of the first one
abbrev pub invariant-loop-container : goal.invariant-loop-container
invariant-loop-container l =
    all_changed (all_effects l.container l.left (drop l.container l.arrays)) l.memory ≡ all_changed (all_effects 0 l.left l.arrays) l.initial.memory
