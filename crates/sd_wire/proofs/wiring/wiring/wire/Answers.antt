use Rattle.std.proofs.Common.{◌≡◌, ◌<◌, ◌≤◌, List, length, slice_index_or, map, ap, sym, ◌∙◌, subst}
use Rattle.std.proofs.lemmas.Result.{IfOk-weaker}
use Rattle.sd_graph.specs.TreeFold.{named_container, item_trees}
use Rattle.sd_graph.specs.declared.graph.State.{State}
use Rattle.sd_graph.specs.declared.graph.ItemKind.TheViews.{out-Sdfg}
use Rattle.sd_graph.proofs.TreeLemmas.{graph_opened}
use Rattle.sd_wire.specs.wiring.Listing.{nodes_of, edges_of, state_nodes, state_edges}
use Rattle.sd_wire.proofs.wiring_lemmas.StateItems.{items_found, items_past}
use Rattle.sd_wire.proofs.wiring.wiring.wire.Goals as goal

pub returns-in-Some-clause-nodes : goal.returns-in-Some-clause-nodes
returns-in-Some-clause-nodes c =
    let graph = out-Sdfg c.args.graph.now in
    let there = items_found graph.states.items c.args.state c.in-Some.found.now
    (subst (λ (states : List State). c.args.state < length states) c.deref.ensures.value c.in-Some.ensures.lookup.3.0)
    (subst (λ (states : List State). c.in-Some.found.now ≡ slice_index_or states c.args.state c.in-Some.found.now) c.deref.ensures.value (c.in-Some.ensures.lookup.3.1 c.in-Some.found.now)) in
    let opened = ap (λ tree. state_nodes tree c.args.state) (graph_opened c.args.graph.now) ∙ ap (nodes_of (map named_container graph.containers.entries)) there in
    IfOk-weaker c.wire_items.result _ _ (λ wired is. is ∙ ap (λ items. nodes_of (map named_container graph.containers.entries) (item_trees items)) c.deref-in-Some.ensures.value ∙ sym opened) c.wire_items.ensures.nodes

pub returns-in-Some-clause-edges : goal.returns-in-Some-clause-edges
returns-in-Some-clause-edges c =
    let graph = out-Sdfg c.args.graph.now in
    let there = items_found graph.states.items c.args.state c.in-Some.found.now
    (subst (λ (states : List State). c.args.state < length states) c.deref.ensures.value c.in-Some.ensures.lookup.3.0)
    (subst (λ (states : List State). c.in-Some.found.now ≡ slice_index_or states c.args.state c.in-Some.found.now) c.deref.ensures.value (c.in-Some.ensures.lookup.3.1 c.in-Some.found.now)) in
    let opened = ap (λ tree. state_edges tree c.args.state) (graph_opened c.args.graph.now) ∙ ap (edges_of (map named_container graph.containers.entries)) there in
    IfOk-weaker c.wire_items.result _ _ (λ wired is. is ∙ ap (λ items. edges_of (map named_container graph.containers.entries) (item_trees items)) c.deref-in-Some.ensures.value ∙ sym opened) c.wire_items.ensures.edges

pub returns-in-None-clause-nodes : goal.returns-in-None-clause-nodes
returns-in-None-clause-nodes c =
    let graph = out-Sdfg c.args.graph.now in
    let there = items_past graph.states.items c.args.state (subst (λ (states : List State). length states ≤ c.args.state) c.deref.ensures.value c.in-None.ensures.lookup.3) in
    let opened = ap (λ tree. state_nodes tree c.args.state) (graph_opened c.args.graph.now) ∙ ap (nodes_of (map named_container graph.containers.entries)) there in
    IfOk-weaker c.wire_items-in-None.result _ _ (λ wired is. is ∙ sym opened) c.wire_items-in-None.ensures.nodes

pub returns-in-None-clause-edges : goal.returns-in-None-clause-edges
returns-in-None-clause-edges c =
    let graph = out-Sdfg c.args.graph.now in
    let there = items_past graph.states.items c.args.state (subst (λ (states : List State). length states ≤ c.args.state) c.deref.ensures.value c.in-None.ensures.lookup.3) in
    let opened = ap (λ tree. state_edges tree c.args.state) (graph_opened c.args.graph.now) ∙ ap (edges_of (map named_container graph.containers.entries)) there in
    IfOk-weaker c.wire_items-in-None.result _ _ (λ wired is. is ∙ sym opened) c.wire_items-in-None.ensures.edges
