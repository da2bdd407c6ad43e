use Rattle.std.proofs.Common.{◌≡◌, length}
use Rattle.sd_scope.specs.scope.Standing.{IsInside}
use Rattle.sd_row.proofs.row_lemmas.Comes.{IsLeft}
use Rattle.sd_rows.specs.rows.Band.{IsBand}
use Rattle.sd_rows.specs.rows.Code.{IsInstance, AreColumnsOf}
use Rattle.sd_rows.specs.rows.Map.{tree_of, context_at, coming_of, own_memory}
use Rattle.sd_rows.proofs.rows_lemmas.RowsOfMap.{rows_coming}
use Rattle.sd_rows.proofs.rows.rows.run_all.Given as goal

-- what the rows that are left come to, the map comes to
abbrev pub invariant-loop-alloc : goal.invariant-loop-alloc
invariant-loop-alloc l = record {
  left : IsLeft (coming_of l.task l.fn.machine) l.fn.machine
      (λ most beside. rows_coming (tree_of l.task) l.task.ins.now l.task.outs.now l.task.line l.task.params.now l.task.private.now (context_at l.task) l.steps l.rows.left l.machine most) l.machine;
  instance : IsInstance (tree_of l.task) l.task.ins.now l.task.outs.now l.instance.code l.instance.frame;
  columns : AreColumnsOf l.instance.code l.instance.columns;
  first : IsInside l.task.private.now l.task.scope.now l.first;
  last : IsInside l.task.private.now l.task.scope.now l.last;
  band : IsBand l.task l.steps l.instance.code l.band;
  own : l.own.contents ≡ own_memory l.task;
}

abbrev pub decreases-loop-alloc : goal.decreases-loop-alloc
decreases-loop-alloc l = length l.rows.left
