use Rattle.std.proofs.Common.{◌≡◌, take}
use Rattle.sd_graph.proofs.place.Place.copy_of.Given as goal

-- the frames so far
abbrev pub invariant-loop-frame : goal.invariant-loop-frame
invariant-loop-frame l = l.frames.items ≡ take l.frame-index l.self.frames
