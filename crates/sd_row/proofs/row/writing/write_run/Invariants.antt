use Rattle.std.proofs.Common.{◌≡◌, drop}
use Rattle.sd_row.specs.row.Block.{after_writes, column_value}
use Rattle.sd_row.proofs.row.writing.write_run.Given as goal

-- what is left makes of the memories what all makes of the first ones
abbrev pub invariant-loop-write : goal.invariant-loop-write
invariant-loop-write l = record {
  left : after_writes (column_value l.first l.columns l.run) l.k l.writes l.fn.machine.memories ≡ after_writes (column_value l.first l.columns l.run) l.k (drop l.write-index l.writes) l.machine.memories;
  turns : l.machine.turns ≡ l.fn.machine.turns;
}
