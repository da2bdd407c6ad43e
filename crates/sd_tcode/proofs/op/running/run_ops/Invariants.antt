use Rattle.std.proofs.Common.{◌≡◌, ◌≤◌, ◌+◌, ◌-◌, length, take, drop}
use Rattle.sd_tcode.specs.op.Machine.{after_all, state_only}
use Rattle.sd_tcode.specs.op.Within.{most_kept}
use Rattle.sd_tcode.proofs.op.running.run_ops.Given as goal

abbrev pub ghost-step : goal.ghost-step
ghost-step g a = g.room

-- what is left does to the state what all do to the first one
abbrev pub invariant-loop-at : goal.invariant-loop-at
invariant-loop-at g l = record {
  many : length l.registers ≡ length l.fn.registers;
  given : take g.room.given l.registers ≡ take g.room.given l.fn.registers;
  slots : l.log.1 ≡ l.fn.log.1;
  kept : length l.log.0 + most_kept (drop l.at l.ops) ≤ length l.fn.log.0 + most_kept l.ops;
  left : state_only (after_all (g.S.Source.connectors l.source) 0 l.ops (record { registers = l.fn.registers; effects = l.fn.log.0 })) ≡ state_only (after_all (g.S.Source.connectors l.source) 0 (drop l.at l.ops) (record { registers = l.registers; effects = l.log.0 }));
}

abbrev pub decreases-loop-at : goal.decreases-loop-at
decreases-loop-at g l = length l.ops - l.at
