use Rattle.std.proofs.Common.{◌≡◌, [], ◌∷◌, None}
use Rattle.sd_work.specs.Change.{apply, write}
use Rattle.sd_row.specs.row.Row.{reference_on}
use Rattle.sd_row.specs.row.Block.{after_points, column_value}
use Rattle.sd_row.proofs.row.writing.write_one.Given as goal

-- what is held makes of the memories what the points so far make
abbrev pub invariant-loop-run : goal.invariant-loop-run
invariant-loop-run l =
    apply (write (reference_on l.write.to l.from) None l.held) l.machine.memories ≡ after_points (column_value l.first l.columns) (l.write ∷ []) l.from l.run l.machine.memories
