use Rattle.std.proofs.Common.{◌≡◌, drop}
use Rattle.std.specs.List.{list_any}
use Rattle.sd_prop.specs.propagation.Joined.{is_like}
use Rattle.sd_prop.proofs.collecting.joining.has_like.Given as goal

-- one of those that are left is, if any
abbrev pub invariant-loop-other : goal.invariant-loop-other
invariant-loop-other l = list_any (is_like l.access) l.known ≡ list_any (is_like l.access) (drop l.other-index l.known)
