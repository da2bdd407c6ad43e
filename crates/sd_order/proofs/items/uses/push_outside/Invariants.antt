use Rattle.std.proofs.Common.{◌≡◌, ◌++◌, take}
use Rattle.sd_graph.specs.Wiring.{outside}
use Rattle.sd_order.proofs.items.uses.push_outside.Given as goal

-- those so far
abbrev pub invariant-loop-use_ : goal.invariant-loop-use_
invariant-loop-use_ l = l.uses.items ≡ l.initial.uses.items ++ outside l.private (take l.use_-index l.inner)
