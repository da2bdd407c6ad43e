use Rattle.std.proofs.Common.{◌≡◌, ◌<◌, ℕ, List, drop}
use Rattle.sd_tcode.specs.op.Machine.{Held, after_all}
use Rattle.sd_tcode.specs.columns.Columns.{state_of, AreKept}
use Rattle.sd_tcode.proofs.columns.columns.Columns.steps.Given as goal

abbrev pub ghost-step : goal.ghost-step
ghost-step g a = g.room

-- what is left does to each run what all do to the first one
abbrev pub invariant-loop-op : goal.invariant-loop-op
invariant-loop-op g l = record {
  kept : AreKept l.fn.self l.self;
  left : (arrays : List Held) (run : ℕ) → run < l.count → after_all arrays 0 l.ops (state_of l.fn.self run) ≡ after_all arrays 0 (drop l.op-index l.ops) (state_of l.self run);
}
