use Rattle.sd_graph.specs.TreeFold.{graph_tree}
use Rattle.sd_graph.specs.TreeParts.{containers_of}
use Rattle.sd_scope.specs.scope.Standing.{context_of, opening_reach}
use Rattle.sd_leaves.proofs.transition_lemmas.Ways.{no_way, faulted, by_way}
use Rattle.sd_leaves.proofs.transition.onward.go_on_from.Goals as goal

pub returns-in-Nowhere : goal.returns-in-Nowhere
returns-in-Nowhere c =
    no_way (graph_tree c.args.graph.now) c.args.here.now c.args.state (opening_reach (containers_of (graph_tree c.args.graph.now)) c.args.base.now) c.args.base.now.around c.args.values.now
    (context_of (graph_tree c.args.graph.now) c.args.base.now c.in_ok-scope.scope) (c.in_ok-scope.ensures (graph_tree c.args.graph.now) c.args.base.now)
    c.requires.here c.as_slice-exits.result.now c.as_slice-exits.ensures.value c.args.machine.now.memories c.in_ok-next_exit.field-0 c.in_ok-next_exit.ensures c.in-Nowhere.is

pub returns-in-Fault : goal.returns-in-Fault
returns-in-Fault c =
    faulted (graph_tree c.args.graph.now) c.args.here.now c.args.state (opening_reach (containers_of (graph_tree c.args.graph.now)) c.args.base.now) c.args.base.now.around c.args.values.now
    (context_of (graph_tree c.args.graph.now) c.args.base.now c.in_ok-scope.scope) (c.in_ok-scope.ensures (graph_tree c.args.graph.now) c.args.base.now)
    c.requires.here c.as_slice-exits.result.now c.as_slice-exits.ensures.value c.args.machine.now.memories c.in_ok-next_exit.field-0 c.in_ok-next_exit.ensures c.in-Fault.place c.in-Fault.kind c.in-Fault.is

pub returns : goal.returns
returns c =
    by_way (graph_tree c.args.graph.now) c.args.here.now c.args.state (opening_reach (containers_of (graph_tree c.args.graph.now)) c.args.base.now) c.args.base.now.around c.args.values.now
    (context_of (graph_tree c.args.graph.now) c.args.base.now c.in_ok-scope.scope) (c.in_ok-scope.ensures (graph_tree c.args.graph.now) c.args.base.now)
    c.requires.here c.as_slice-exits.result.now c.as_slice-exits.ensures.value c.args.machine.now.memories c.in_ok-next_exit.field-0 c.in_ok-next_exit.ensures
    c.in-By.number c.in-By.is c.index-exits-number.result c.index-exits-number.is c.in_ok-entry-in-By.entry c.in_ok-entry-in-By.ensures
