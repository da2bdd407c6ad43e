use Rattle.std.proofs.Common.{rules, ◌≡◌, ℕ, ◌∷◌, Option, String, map, length, sym, subst, ◌∙◌}
use Rattle.std.specs.declared.alloc.Global.{Global}
use Rattle.sd_graph.specs.declared.container.Container.{Container}
use Rattle.sd_graph.specs.TreeFold.{graph_tree, named_container}
use Rattle.sd_graph.specs.ContainerParts.{container_at}
use Rattle.sd_graph.specs.Unfold.{reach_inside}
use Rattle.sd_scope.specs.declared.scope.base.Way.{Way}
use Rattle.sd_scope.specs.scope.Standing.{context_of, reach_by}
use Rattle.sd_scope.proofs.scope_lemmas.Ways.{rest_next, container_here, ways_more, all_reached}
use Rattle.sd_scope.proofs.scope.base.ways_inside.Goals as goal

pub loop-container-preserved : goal.loop-container-preserved
loop-container-preserved c =
    let context = context_of (graph_tree c.args.graph.now) c.args.base.now c.args.scope.now in
    let links = c.args.links.now in
    let entries = c.args.inner.now.entries in
    let inner = map named_container entries in
    let ways = c.loop-container.ways.items in
    let entry : String Global × Container = (c.in-Some.field-0-0.now, c.in-Some.container.now) in
    let yields : c.loop-container.container-iterator ≡ entry ∷ c.next.new.self = c.in-Some.ensures.steps in
    let left = c.loop-container.invariant.left ∙ yields in
    let number_is : c.len-number.result ≡ length ways = search rules in
    let here : container_at inner c.len-number.result ≡ c.in-Some.container.now =
    subst (λ (number : ℕ). container_at inner number ≡ c.in-Some.container.now) (sym number_is)
    (container_here entries (length ways) entry (rest_next entries (length ways) entry c.next.new.self left).1)
    in
    let reached = subst (λ (number : ℕ). reach_by 0 inner number c.in_ok-way_of.field-0 ≡ reach_inside context links inner number) number_is (c.in_ok-way_of.ensures inner here) in
    let next = ways_more (λ (number : ℕ) (way : Option Way). reach_by 0 inner number way ≡ reach_inside context links inner number) entries ways c.push.new.self.items c.in_ok-way_of.field-0 entry c.next.new.self
    c.in_ok-push.ensures.items left c.loop-container.invariant.reached reached in
    record { left = next.0; reached = next.1 }

pub returns : goal.returns
returns c =
    all_reached (context_of (graph_tree c.args.graph.now) c.args.base.now c.args.scope.now) c.args.links.now c.args.inner.now.entries c.loop-container.ways.items
    (c.loop-container.invariant.left ∙ c.in-None.ensures.steps.0) c.loop-container.invariant.reached
