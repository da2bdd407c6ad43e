use Rattle.std.proofs.Common.{List, ℤ, [], ◌∷◌, map, sym, ap, ◌∙◌, subst}
use Rattle.sd_range.specs.Subset.{whole}
use Rattle.sd_work.specs.Leaf.{Pending}
use Rattle.sd_graph.specs.TreeFold.{graph_tree}
use Rattle.sd_graph.specs.Context.{link_extents}
use Rattle.sd_scope.specs.scope.Standing.{context_of}
use Rattle.sd_leaves.specs.leaves.Done.{IsDone, performing, resolving}
use Rattle.sd_leaves.proofs.leaves_lemmas.CellLists.{resolved_at}
use Rattle.sd_leaves.proofs.leaves_lemmas.Doing.{IsLeft, none_done, next_done, next_fails, none_left}
use Rattle.sd_leaves.proofs.leaves_lemmas.Places.{walk_on, walk_over}
use Rattle.sd_leaves.proofs.leaves.reduction.resolve_all.Goals as goal

pub places-init : goal.places-init
places-init c =
    let tree = graph_tree c.args.graph.now in
    let context = context_of tree c.args.base.now c.args.scope.now in
    let thing = resolving context c.args.resolution c.args.axis c.args.from.now c.args.to.now in
    let all = map thing (whole (link_extents context c.args.from.now)) in
    let same = c.in_ok-places.ensures ∙ ap whole (c.as_slice.ensures.value ∙ c.in_ok-extents.ensures tree c.args.base.now) in
    subst (λ (left : List (List ℤ)). IsLeft all c.args.machine.now (map thing left) c.args.machine.now) (sym same) (none_done all c.args.machine.now c.args.machine.now)

pub places-preserved : goal.places-preserved
places-preserved c =
    let context = context_of (graph_tree c.args.graph.now) c.args.base.now c.args.scope.now in
    let thing = resolving context c.args.resolution c.args.axis c.args.from.now c.args.to.now in
    let all = map thing (whole (link_extents context c.args.from.now)) in
    let at = c.at-at.result.now in
    let same = resolved_at context c.args.resolution c.args.axis c.args.from.now c.args.to.now at c.as_slice-in-places.result.now c.in_ok-source.source c.in_ok-target.target
    c.in_ok-source.ensures (c.as_slice-in-places.ensures.value ∙ c.in_ok-put_target_place.ensures) c.in_ok-target.ensures in
    let first = subst (λ (todo : Pending). IsDone (performing (todo ∷ [])) c.places.machine c.transfer.result c.transfer.new.machine) same c.transfer.ensures in
    next_done thing all c.args.machine.now c.places.machine c.transfer.new.machine c.places.places.left c.next.new.self.left at
    (walk_on c.places.places c.next.new.self at c.places-test.ensures.step c.at-at.ensures) c.places.invariant c.transfer.result first c.in-None.is

pub returns-in-Some : goal.returns-in-Some
returns-in-Some c =
    let context = context_of (graph_tree c.args.graph.now) c.args.base.now c.args.scope.now in
    let thing = resolving context c.args.resolution c.args.axis c.args.from.now c.args.to.now in
    let all = map thing (whole (link_extents context c.args.from.now)) in
    let at = c.at-at.result.now in
    let same = resolved_at context c.args.resolution c.args.axis c.args.from.now c.args.to.now at c.as_slice-in-places.result.now c.in_ok-source.source c.in_ok-target.target
    c.in_ok-source.ensures (c.as_slice-in-places.ensures.value ∙ c.in_ok-put_target_place.ensures) c.in_ok-target.ensures in
    let first = subst (λ (todo : Pending). IsDone (performing (todo ∷ [])) c.places.machine c.transfer.result c.transfer.new.machine) same c.transfer.ensures in
    next_fails thing all c.args.machine.now c.places.machine c.transfer.new.machine c.places.places.left c.next.new.self.left at
    (walk_on c.places.places c.next.new.self at c.places-test.ensures.step c.at-at.ensures) c.places.invariant c.transfer.result first c.in-Some.kind c.in-Some.is

pub returns : goal.returns
returns c =
    let context = context_of (graph_tree c.args.graph.now) c.args.base.now c.args.scope.now in
    let thing = resolving context c.args.resolution c.args.axis c.args.from.now c.args.to.now in
    none_left thing (map thing (whole (link_extents context c.args.from.now))) c.args.machine.now c.places.machine c.places.places.left
    (walk_over c.places.places c.next.new.self c.places-test.ensures.step c.places-test.ensures.found) c.places.invariant
