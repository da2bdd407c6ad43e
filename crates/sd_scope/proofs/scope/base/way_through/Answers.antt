use Rattle.std.proofs.Common.{◌≡◌, ℕ, List, [], ap, sym, ◌∙◌}
use Rattle.sd_graph.specs.TreeFold.{graph_tree}
use Rattle.sd_graph.specs.PlainTree.{GraphTree}
use Rattle.sd_graph.specs.TreeParts.{containers_of}
use Rattle.sd_graph.specs.ContainerParts.{container_at, extents_of}
use Rattle.sd_graph.proofs.TreeLemmas.{graph_opened}
use Rattle.sd_scope.specs.declared.scope.base.View.{View}
use Rattle.sd_scope.specs.scope.Standing.{reach_of, found_through}
use Rattle.sd_scope.proofs.scope_lemmas.Ways.{way_made_reaches}
use Rattle.sd_scope.proofs.scope.base.way_through.Goals as goal

pub returns-in_ok-extents-in-None : goal.returns-in_ok-extents-in-None
returns-in_ok-extents-in-None c =
    let graph = graph_tree c.args.graph.now in
    let link = c.args.link.now in
    let outer = reach_of (containers_of graph) c.args.base.now c.args.scope.now link.memlet.container in
    let own : c.as_slice.result.now ≡ extents_of (container_at (containers_of graph) link.memlet.container) =
    c.as_slice.ensures.value ∙ c.in_ok-extents-in-None.ensures
    ∙ ap (λ (tree : GraphTree). extents_of (container_at (containers_of tree) link.memlet.container)) (sym (graph_opened c.args.graph.now))
    in
    let found : outer.find ≡ found_through [] c.as_slice.result.now =
    c.in-None.ensures (containers_of graph) ∙ ap (λ (extents : List ℕ). found_through [] extents) (sym own)
    in
    way_made_reaches c.way_behind.result c.args.container.now link.memlet.subset c.args.scope.now.values.values outer
    c.in_ok-station.station c.in_ok-view.view [] c.as_slice.result.now
    c.way_behind.ensures c.in_ok-view.ensures (c.in_ok-station.ensures.level graph) (c.in_ok-station.ensures.container graph) found

pub returns-in-Some : goal.returns-in-Some
returns-in-Some c =
    let graph = graph_tree c.args.graph.now in
    let link = c.args.link.now in
    let outer = reach_of (containers_of graph) c.args.base.now c.args.scope.now link.memlet.container in
    let found : outer.find ≡ found_through c.as_slice-in-Some.result.now c.as_slice-in-Some-2.result.now =
    c.in-Some.ensures (containers_of graph)
    ∙ ap (λ (views : List View). found_through views c.in-Some.way.now.extents) (sym c.as_slice-in-Some.ensures)
    ∙ ap (λ (extents : List ℕ). found_through c.as_slice-in-Some.result.now extents) (sym c.as_slice-in-Some-2.ensures)
    in
    way_made_reaches c.way_behind-in-Some.result c.args.container.now link.memlet.subset c.args.scope.now.values.values outer
    c.in_ok-station.station c.in_ok-view.view c.as_slice-in-Some.result.now c.as_slice-in-Some-2.result.now
    c.way_behind-in-Some.ensures c.in_ok-view.ensures (c.in_ok-station.ensures.level graph) (c.in_ok-station.ensures.container graph) found
