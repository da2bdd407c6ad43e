use Rattle.std.proofs.Common.{◌-◌}
use Rattle.sd_tcode.specs.tcode.Held.{IsReady, given}
use Rattle.sd_tcode.specs.columns.Columns.{AreKept}
use Rattle.sd_row.specs.row.Point.{HasScalars, IsOver, below}
use Rattle.sd_row.specs.row.Setting.{Setting, IsSetting, row_coming}
use Rattle.sd_row.proofs.row_lemmas.Comes.{IsLeft}
use Rattle.sd_row.proofs.row.row_run.run_row.Given as goal

-- what the points that are left come to, the row comes to
abbrev pub invariant-loop-from : goal.invariant-loop-from
invariant-loop-from l = record {
  left : (setting : Setting) → IsSetting l.row l.code l.count setting → IsOver setting.own l.fn.machine →
      IsLeft (row_coming setting 0 l.count (below l.fn.machine)) (below l.fn.machine) (λ most beside. row_coming setting l.from (l.count - l.from) (below l.machine) most) (below l.machine);
  over : (setting : Setting) → IsSetting l.row l.code l.count setting → IsOver setting.own l.fn.machine → IsOver setting.own l.machine;
  ready : IsReady l.code l.frame;
  scalars : HasScalars l.row l.code.layout.connectors (given l.frame);
  columns : AreKept l.fn.columns l.columns;
}

abbrev pub decreases-loop-from : goal.decreases-loop-from
decreases-loop-from l = l.count - l.from
