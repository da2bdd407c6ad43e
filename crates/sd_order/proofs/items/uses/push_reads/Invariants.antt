use Rattle.std.proofs.Common.{◌≡◌, ◌++◌, take, map}
use Rattle.sd_graph.specs.Mode.{Read}
use Rattle.sd_graph.specs.Wiring.{use_of}
use Rattle.sd_order.proofs.items.uses.push_reads.Given as goal

-- those so far
abbrev pub invariant-loop-link : goal.invariant-loop-link
invariant-loop-link l = l.uses.items ≡ l.initial.uses.items ++ map (use_of Read) (take l.link-index l.links)
