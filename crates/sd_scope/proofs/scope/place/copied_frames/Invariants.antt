use Rattle.std.proofs.Common.{◌≡◌, take}
use Rattle.sd_scope.proofs.scope.place.copied_frames.Given as goal

abbrev pub invariant-loop-frame : goal.invariant-loop-frame
invariant-loop-frame l = l.copy.items ≡ take l.frame-index l.frames
