use Rattle.std.proofs.Common.{subst, sym}
use Rattle.sd_work.specs.Step.{Outcome, Done}
use Rattle.sd_work.specs.Run.{Left, Sequential}
use Rattle.sd_graph.specs.declared.place.Place.{Place}
use Rattle.sd_graph.specs.TreeFold.{graph_tree}
use Rattle.sd_graph.specs.Unfold.{run_of}
use Rattle.sd_mem.specs.declared.machine.end.End.{End}
use Rattle.sd_seq.proofs.WholeRuns.{left_end, run_ends}
use Rattle.sd_seq.proofs.sequential.run_seq.Goals as goal

pub returns-in-Finished : goal.returns-in-Finished
returns-in-Finished c =
    subst (λ (left : Left). Sequential (run_of (graph_tree c.args.bound.now.graph) c.args.memory.contents) c.args.turns (done left))
    (λ i. record { memory = sym c.into_memory.ensures i; turns = sym c.turns-left.ensures i })
    (subst (λ (end : End). Sequential (run_of (graph_tree c.args.bound.now.graph) c.args.memory.contents) c.args.turns (left_end end c.run_graph.new.machine)) c.in-Finished.is
    (run_ends (graph_tree c.args.bound.now.graph) c.outermost-base.result c.args.memory.contents c.args.turns c.in_ok-machine.machine c.run_graph.new.machine c.in_ok-run_graph.field-0
    c.requires.upwards c.outermost-base.ensures.ways c.outermost-base.ensures.around c.in_ok-machine.ensures.memories c.in_ok-machine.ensures.turns c.in_ok-run_graph.ensures))
  where
    done : Left → Outcome Place Left
    done left = Done left

pub returns-in-Fault : goal.returns-in-Fault
returns-in-Fault c =
    subst (λ (end : End). Sequential (run_of (graph_tree c.args.bound.now.graph) c.args.memory.contents) c.args.turns (left_end end c.run_graph.new.machine)) c.in-Fault.is
    (run_ends (graph_tree c.args.bound.now.graph) c.outermost-base.result c.args.memory.contents c.args.turns c.in_ok-machine.machine c.run_graph.new.machine c.in_ok-run_graph.field-0
    c.requires.upwards c.outermost-base.ensures.ways c.outermost-base.ensures.around c.in_ok-machine.ensures.memories c.in_ok-machine.ensures.turns c.in_ok-run_graph.ensures)

pub returns : goal.returns
returns c =
    subst (λ (end : End). Sequential (run_of (graph_tree c.args.bound.now.graph) c.args.memory.contents) c.args.turns (left_end end c.run_graph.new.machine)) c.in-OutOfTurns.is
    (run_ends (graph_tree c.args.bound.now.graph) c.outermost-base.result c.args.memory.contents c.args.turns c.in_ok-machine.machine c.run_graph.new.machine c.in_ok-run_graph.field-0
    c.requires.upwards c.outermost-base.ensures.ways c.outermost-base.ensures.around c.in_ok-machine.ensures.memories c.in_ok-machine.ensures.turns c.in_ok-run_graph.ensures)
