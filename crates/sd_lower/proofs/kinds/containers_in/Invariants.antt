use Rattle.std.proofs.Common.{◌≡◌, drop}
use Rattle.std.specs.List.{fold}
use Rattle.sd_lower.specs.Kinds.{with_container, containers_in}
use Rattle.sd_lower.proofs.kinds.containers_in.Given as goal

-- those so far, and then those that are left
abbrev pub invariant-loop-access : goal.invariant-loop-access
invariant-loop-access l = fold with_container l.known.items (drop l.access-index l.accesses) ≡ containers_in l.accesses
