use Rattle.std.proofs.Common.{◌≡◌}
use Rattle.sd_row.specs.row.Block.{after_points, column_value}
use Rattle.sd_row.proofs.row.writing.write_each.Given as goal

-- the points so far
abbrev pub invariant-loop-run : goal.invariant-loop-run
invariant-loop-run l = record {
  memories : l.machine.memories ≡ after_points (column_value l.first l.columns) l.writes l.from l.run l.fn.machine.memories;
  turns : l.machine.turns ≡ l.fn.machine.turns;
}
