use Rattle.std.proofs.Common.{◌≤◌, take}
use Rattle.sd_io.specs.Sink.{Appends}
use Rattle.sd_report.specs.write.RunText.{steps_told, steps_text}
use Rattle.sd_report.proofs.write.runs.write_steps.Given as goal

-- the lines so far are written
abbrev pub invariant-loop-step : goal.invariant-loop-step
invariant-loop-step g l = record {
  written : Appends (g.K.Sink.taken l.fn.out) (g.K.Sink.taken l.out) (steps_text (steps_told (take l.step-index l.steps)));
  faults : g.K.Sink.faults l.fn.out ≤ g.K.Sink.faults l.out;
}
