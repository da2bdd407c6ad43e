use Rattle.std.proofs.Common.{◌≡◌, ◌++◌, take}
use Rattle.sd_prop.proofs.collecting.depth_first.push_copies.Given as goal

-- those so far
abbrev pub invariant-loop-variable : goal.invariant-loop-variable
invariant-loop-variable l = l.copies.items ≡ l.initial.copies.items ++ take l.variable-index l.params
