use Rattle.std.proofs.Common.{◌≤◌}
use Rattle.std.specs.List.{flat_map, range_with_len}
use Rattle.sd_io.specs.Sink.{Appends}
use Rattle.sd_graph.specs.TreeFold.{graph_tree}
use Rattle.sd_json.specs.AnswerText.{container_line}
use Rattle.sd_report.proofs.write.arrays.write_arrays.Given as goal

-- the lines so far are written
abbrev pub invariant-loop-argument : goal.invariant-loop-argument
invariant-loop-argument g l = record {
  written : Appends (g.K.Sink.taken l.fn.out) (g.K.Sink.taken l.out) (flat_map (container_line (graph_tree l.bound.graph) l.memory) (range_with_len 0 l.argument));
  faults : g.K.Sink.faults l.fn.out ≤ g.K.Sink.faults l.out;
}
