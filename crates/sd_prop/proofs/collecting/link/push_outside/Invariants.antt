use Rattle.std.proofs.Common.{◌≡◌, ◌++◌, take}
use Rattle.sd_prop.specs.propagation.Accesses.{outside_accesses}
use Rattle.sd_prop.proofs.collecting.link.push_outside.Given as goal

-- those so far
abbrev pub invariant-loop-access : goal.invariant-loop-access
invariant-loop-access l = l.found.items ≡ l.initial.found.items ++ outside_accesses l.own (take l.access-index l.inner)
