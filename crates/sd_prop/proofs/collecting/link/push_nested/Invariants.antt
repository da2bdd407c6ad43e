use Rattle.std.proofs.Common.{◌≡◌, ◌++◌, drop}
use Rattle.sd_prop.specs.propagation.Accesses.{nested_accesses}
use Rattle.sd_prop.proofs.collecting.link.push_nested.Given as goal

-- those so far, with those that are left
abbrev pub invariant-loop-link : goal.invariant-loop-link
invariant-loop-link l = l.found.items ++ nested_accesses l.node l.inner l.number (drop l.link-index l.links) ≡ l.initial.found.items ++ nested_accesses l.node l.inner 0 l.links
