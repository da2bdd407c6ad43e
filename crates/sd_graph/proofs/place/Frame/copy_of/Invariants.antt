use Rattle.std.proofs.Common.{◌≡◌, take}
use Rattle.sd_graph.proofs.place.Frame.copy_of.Given as goal

-- the values so far
abbrev pub invariant-loop-name : goal.invariant-loop-name
invariant-loop-name l = l.values.items ≡ take l.name-index l.self.values
