use Rattle.std.proofs.Common.{map, drop}
use Rattle.sd_work.specs.Memory.{Memory}
use Rattle.sd_tcode.specs.tcode.Held.{output_of}
use Rattle.sd_leaves.proofs.leaves_lemmas.Doing.{IsLeft}
use Rattle.sd_row.specs.row.Row.{write_on}
use Rattle.sd_row.specs.row.Point.{IsBare, IsOver}
use Rattle.sd_row.proofs.row.point.write_outputs.Given as goal

-- what is left comes to what all comes to
abbrev pub invariant-loop-write : goal.invariant-loop-write
invariant-loop-write l = record {
  left : IsLeft (map (write_on (output_of l.frame) l.k) l.writes) l.fn.machine (map (write_on (output_of l.frame) l.k) (drop l.write-index l.writes)) l.machine;
  own : (own : Memory) → IsBare own → IsOver own l.fn.machine → IsOver own l.machine;
}
