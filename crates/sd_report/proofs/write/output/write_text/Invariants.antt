use Rattle.std.proofs.Common.{◌≡◌, ℕ, ◌≤◌, List, ◌++◌, length}
use Rattle.sd_io.specs.Sink.{Appends}
use Rattle.sd_report.proofs.write.output.write_text.Given as goal

-- what is written so far, and what is left, make the text
abbrev pub invariant-loop-rest : goal.invariant-loop-rest
invariant-loop-rest g l = record {
  written : (front : List ℕ) × (l.text ≡ front ++ l.rest) × Appends (g.K.Sink.taken l.fn.out) (g.K.Sink.taken l.out) front;
  faults : g.K.Sink.faults l.fn.out ≤ g.K.Sink.faults l.out;
}

abbrev pub decreases-loop-rest : goal.decreases-loop-rest
decreases-loop-rest g l = length l.rest
