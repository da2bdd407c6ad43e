use Rattle.std.proofs.Common.{◌≡◌, map, take}
use Rattle.sd_race.proofs.checking.placed.in_order.Given as goal

-- the accesses so far
abbrev pub invariant-loop-access : goal.invariant-loop-access
invariant-loop-access l = map (λ one. one.access.now) l.all.items ≡ take l.access-index l.accesses
