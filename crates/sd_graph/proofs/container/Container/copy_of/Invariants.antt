use Rattle.std.proofs.Common.{◌≡◌, take}
use Rattle.sd_graph.proofs.container.Container.copy_of.Given as goal

-- the extents so far
abbrev pub invariant-loop-extent : goal.invariant-loop-extent
invariant-loop-extent l = l.extents.items ≡ take l.extent-index l.self.extents
