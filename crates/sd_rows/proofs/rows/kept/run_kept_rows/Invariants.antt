use Rattle.std.proofs.Common.{length}
use Rattle.sd_scope.specs.scope.Standing.{IsInside}
use Rattle.sd_row.proofs.row_lemmas.Comes.{IsLeft}
use Rattle.sd_row.specs.instance.Fit.{IsRunner}
use Rattle.sd_rows.specs.rows.Map.{tree_of, context_at, coming_of}
use Rattle.sd_rows.proofs.rows_lemmas.RowsOfMap.{rows_coming}
use Rattle.sd_rows.proofs.rows.kept.run_kept_rows.Given as goal

-- what the rows that are left come to, the map comes to
abbrev pub invariant-loop-alloc : goal.invariant-loop-alloc
invariant-loop-alloc l = record {
  left : IsLeft (coming_of l.task l.fn.machine) l.fn.machine
      (λ most beside. rows_coming (tree_of l.task) l.task.ins.now l.task.outs.now l.task.line l.task.params.now l.task.private.now (context_at l.task) l.steps l.rows.left l.machine most) l.machine;
  runner : IsRunner (tree_of l.task) l.task.ins.now l.task.outs.now l.runner.code l.runner.frame;
  first : IsInside l.task.private.now l.task.scope.now l.first;
  last : IsInside l.task.private.now l.task.scope.now l.last;
}

abbrev pub decreases-loop-alloc : goal.decreases-loop-alloc
decreases-loop-alloc l = length l.rows.left
