use Rattle.std.proofs.Common.{◌≡◌, ◌+◌, ◌<◌, ℕ, map, take}
use Rattle.sd_tcode.specs.columns.Columns.{registers_of, AreKept}
use Rattle.sd_row.specs.row.Point.{seen_on}
use Rattle.sd_row.proofs.row.block.gather_reads.Given as goal

-- what is read so far
abbrev pub invariant-loop-number : goal.invariant-loop-number
invariant-loop-number l = record {
  kept : AreKept l.fn.columns l.columns;
  read : (run : ℕ) → run < l.count → take l.number (registers_of l.columns run) ≡ map (seen_on (l.from + run) l.machine.memories) (take l.number l.reads);
}
