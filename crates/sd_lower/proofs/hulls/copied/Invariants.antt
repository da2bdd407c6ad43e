use Rattle.std.proofs.Common.{◌≡◌, take}
use Rattle.sd_lower.proofs.hulls.copied.Given as goal

-- those so far
abbrev pub invariant-loop-one : goal.invariant-loop-one
invariant-loop-one l = l.copy.items ≡ take l.one-index l.hulls
