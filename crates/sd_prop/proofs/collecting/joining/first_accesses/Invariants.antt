use Rattle.std.proofs.Common.{◌≡◌, drop}
use Rattle.std.specs.List.{fold}
use Rattle.sd_prop.specs.propagation.Joined.{with_access, first_accesses}
use Rattle.sd_prop.proofs.collecting.joining.first_accesses.Given as goal

-- those so far, and then those that are left
abbrev pub invariant-loop-access : goal.invariant-loop-access
invariant-loop-access l = fold with_access l.known.items (drop l.access-index l.accesses) ≡ first_accesses l.accesses
