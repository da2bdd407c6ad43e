use Rattle.std.proofs.Common.{◌-◌}
use Rattle.sd_scope.specs.scope.Standing.{IsInside}
use Rattle.sd_row.specs.row.Setting.{row_coming}
use Rattle.sd_row.proofs.row_lemmas.Comes.{IsLeft}
use Rattle.sd_rows.specs.rows.Map.{row_at}
use Rattle.sd_rows.proofs.rows.pointwise.run_points.Given as goal

-- what the points that are left come to, the row comes to
abbrev pub invariant-loop-k : goal.invariant-loop-k
invariant-loop-k l = record {
  left : IsLeft (row_coming (row_at l.task l.row l.steps) 0 l.steps.count l.fn.machine) l.fn.machine
      (λ most beside. row_coming (row_at l.task l.row l.steps) l.k (l.steps.count - l.k) l.machine most) l.machine;
  inside : IsInside l.task.private.now l.task.scope.now l.inner;
}
