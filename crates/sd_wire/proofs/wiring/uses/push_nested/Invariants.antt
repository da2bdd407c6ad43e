use Rattle.std.proofs.Common.{◌≡◌, ◌++◌, drop}
use Rattle.sd_graph.specs.Wiring.{nested_uses}
use Rattle.sd_wire.proofs.wiring.uses.push_nested.Given as goal

-- those so far, with those that are left
abbrev pub invariant-loop-link : goal.invariant-loop-link
invariant-loop-link l = l.uses.items ++ nested_uses l.inner l.number (drop l.link-index l.links) ≡ l.initial.uses.items ++ nested_uses l.inner 0 l.links
