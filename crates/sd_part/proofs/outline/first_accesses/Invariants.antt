use Rattle.std.proofs.Common.{◌≡◌, take}
use Rattle.sd_part.proofs.outline.first_accesses.Given as goal

-- those so far
abbrev pub invariant-loop-access : goal.invariant-loop-access
invariant-loop-access l = l.copy.items ≡ take l.access-index l.access-items
