use Rattle.std.proofs.Common.{map}
use Rattle.sd_work.specs.Step.{opening}
use Rattle.sd_graph.specs.TreeFold.{graph_tree}
use Rattle.sd_graph.specs.Unfold.{run_of}
use Rattle.sd_core.specs.Kept.{machine_of}
use Rattle.sd_core.proofs.Reached.{pair_of, IsReached, IsTold}
use Rattle.sd_core.proofs.run.run_traced.Given as goal

abbrev pub invariant-loop-count : goal.invariant-loop-count
invariant-loop-count l = record {
  reached : IsReached l.fn.picks l.count (opening (run_of (graph_tree l.fn.bound.graph) l.fn.memory.contents) l.fn.turns) (machine_of l.machine);
  told : IsTold l.fn.picks l.count (opening (run_of (graph_tree l.fn.bound.graph) l.fn.memory.contents) l.fn.turns) (machine_of l.machine) (map pair_of l.trace.items);
}
