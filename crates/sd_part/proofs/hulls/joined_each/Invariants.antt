use Rattle.std.proofs.Common.{◌≡◌, ◌++◌, drop}
use Rattle.sd_part.specs.Hulls.{joined_each}
use Rattle.sd_part.proofs.hulls.joined_each.Given as goal

-- those so far, and those left
abbrev pub invariant-loop-one : goal.invariant-loop-one
invariant-loop-one l = l.all.items ++ joined_each (drop l.one-index l.ones) l.left ≡ joined_each l.ones l.others
