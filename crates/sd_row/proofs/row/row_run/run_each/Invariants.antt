use Rattle.std.proofs.Common.{◌-◌}
use Rattle.sd_tcode.specs.tcode.Held.{IsReady, given}
use Rattle.sd_row.specs.row.Point.{HasScalars, IsOver, below}
use Rattle.sd_row.specs.row.Setting.{Setting, IsSetting, row_coming}
use Rattle.sd_row.proofs.row_lemmas.Comes.{IsLeft}
use Rattle.sd_row.proofs.row.row_run.run_each.Given as goal

-- what the points that are left come to, the row comes to
abbrev pub invariant-loop-k : goal.invariant-loop-k
invariant-loop-k l = record {
  left : (setting : Setting) → IsSetting l.row l.code l.until setting → IsOver setting.own l.fn.machine →
      IsLeft (row_coming setting l.from (l.until - l.from) (below l.fn.machine)) (below l.fn.machine) (λ most beside. row_coming setting l.k (l.until - l.k) (below l.machine) most) (below l.machine);
  over : (setting : Setting) → IsSetting l.row l.code l.until setting → IsOver setting.own l.fn.machine → IsOver setting.own l.machine;
  ready : IsReady l.code l.frame;
  scalars : HasScalars l.row l.code.layout.connectors (given l.frame);
}
