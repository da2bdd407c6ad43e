use Rattle.std.proofs.Common.{◌≡◌, take}
use Rattle.sd_subset.specs.boxes.Box as definition
use Rattle.sd_subset.proofs.boxes.replacing.replaced.Given as goal

-- the dimensions so far, with the parameters replaced
abbrev pub invariant-loop-one : goal.invariant-loop-one
invariant-loop-one l = l.all.items ≡ definition.replaced l.parameters (take l.one-index l.bounds)
