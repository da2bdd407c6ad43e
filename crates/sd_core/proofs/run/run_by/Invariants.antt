use Rattle.sd_work.specs.Step.{opening}
use Rattle.sd_graph.specs.TreeFold.{graph_tree}
use Rattle.sd_graph.specs.Unfold.{run_of}
use Rattle.sd_core.specs.Kept.{machine_of}
use Rattle.sd_core.proofs.Reached.{IsReached}
use Rattle.sd_core.proofs.run.run_by.Given as goal

abbrev pub invariant-loop-number : goal.invariant-loop-number
invariant-loop-number l = IsReached l.fn.picks l.number (opening (run_of (graph_tree l.fn.bound.graph) l.fn.memory.contents) l.fn.turns) (machine_of l.machine)
