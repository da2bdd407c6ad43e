use Rattle.std.proofs.Common.{◌≡◌, map, take}
use Rattle.sd_mem.specs.mem.Holding.{shape_held, contents_held}
use Rattle.sd_mem.proofs.mem.memory.are_same.Given as goal

-- those so far hold the same
abbrev pub invariant-loop-i : goal.invariant-loop-i
invariant-loop-i l = record {
  shapes : map shape_held (take l.i l.a) ≡ map shape_held (take l.i l.b);
  contents : map contents_held (take l.i l.a) ≡ map contents_held (take l.i l.b);
}
