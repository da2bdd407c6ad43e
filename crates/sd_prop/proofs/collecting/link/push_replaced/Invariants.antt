use Rattle.std.proofs.Common.{◌≡◌, ◌++◌, take, map}
use Rattle.sd_prop.specs.propagation.Accesses.{access_replaced}
use Rattle.sd_prop.proofs.collecting.link.push_replaced.Given as goal

-- those so far
abbrev pub invariant-loop-access : goal.invariant-loop-access
invariant-loop-access l = l.found.items ≡ l.initial.found.items ++ map (access_replaced l.parameters) (take l.access-index l.inner)
