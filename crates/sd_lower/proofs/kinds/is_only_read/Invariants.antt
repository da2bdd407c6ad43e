use Rattle.std.proofs.Common.{◌≡◌, drop}
use Rattle.sd_lower.specs.Kinds.{is_only_read}
use Rattle.sd_lower.proofs.kinds.is_only_read.Given as goal

-- those that are left decide
abbrev pub invariant-loop-access : goal.invariant-loop-access
invariant-loop-access l = is_only_read l.accesses l.container ≡ is_only_read (drop l.access-index l.accesses) l.container
