use Rattle.std.proofs.Common.{◌≡◌, ◌-◌, length}
use Rattle.sd_tcode.specs.tcode.Held.{IsReady, given}
use Rattle.sd_row.specs.row.Point.{IsOver, below}
use Rattle.sd_row.specs.row.Setting.{row_coming}
use Rattle.sd_row.proofs.row_lemmas.Comes.{IsLeft}
use Rattle.sd_row.specs.instance.Known.{HasRoom}
use Rattle.sd_rows.specs.rows.Map.{row_at}
use Rattle.sd_rows.proofs.rows.kept.run_instances.Given as goal

-- what the points that are left come to, the row comes to
abbrev pub invariant-loop-k : goal.invariant-loop-k
invariant-loop-k l = record {
  left : IsLeft (row_coming (row_at l.task l.row l.steps) 0 l.steps.count (below l.fn.machine)) (below l.fn.machine)
      (λ most beside. row_coming (row_at l.task l.row l.steps) l.k (l.steps.count - l.k) (below l.machine) most) (below l.machine);
  over : IsOver (row_at l.task l.row l.steps).own l.machine;
  code : l.runner.code ≡ l.fn.runner.code;
  ready : IsReady l.runner.code l.runner.frame;
  room : HasRoom (length l.accesses.reads.items) (length l.accesses.variables.items) (given l.runner.frame);
  extents : (given l.runner.frame).extents ≡ (given l.fn.runner.frame).extents;
}
