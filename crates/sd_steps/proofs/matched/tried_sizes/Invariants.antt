use Rattle.std.proofs.Common.{◌≡◌, map, take}
use Rattle.sd_steps.proofs.matched.tried_sizes.Given as goal

-- a size for each parameter so far
abbrev pub invariant-loop : goal.invariant-loop
invariant-loop l = l.sizes ≡ map (λ param. 2) (take l.index l.items)
