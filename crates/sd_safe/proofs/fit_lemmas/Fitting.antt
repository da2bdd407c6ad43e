-- A valid graph whose expressions are in normal form is fit.
use Rattle.std.specs.List.{AllByRecursion, Contains}
use Rattle.std.proofs.Common.{◌≡◌, inl, inr, ℕ, suc, nat_eq, ℤ, List, [], ◌∷◌, ◌++◌, map, length, true, ◌&&◌, Option, sym, subst}
use Rattle.sd_subset.specs.boxes.Box.{Parameter}
use Rattle.sd_graph.specs.declared.link.Link.{Link}
use Rattle.sd_graph.specs.PlainTree.{KindTree, task, map_scope, consume_scope, nested_graph, reduction, copy, ItemTrees, no_item, and_item, StateTrees, no_state, and_state, GraphTree, graph}
use Rattle.sd_graph.specs.TreeParts.{containers_of}
use Rattle.sd_graph.specs.ContainerParts.{Containers, container_at}
use Rattle.sd_graph.specs.Context.{span_counts}
use Rattle.sd_graph.specs.Wiring.{state_uses}
use Rattle.sd_graph.specs.InPlace.{KindHasStreamsInPlace, ItemsHaveStreamsInPlace, StatesHaveStreamsInPlace, ArgumentsComeFirst, IsKindLinked, AreItemsLinked, AreStatesLinked}
use Rattle.sd_safe.specs.normal.NormalForm.{IsLinkNormal, AreLinksNormal, IsKindNormal, AreItemsNormal, AreStatesNormal, IsGraphNormal}
use Rattle.sd_validity.specs.rules.Places.{Place, Scopes, no_scopes, in_map, in_consume, param_numbers, graph_place, state_place, item_place, places_in, item_places, state_places}
use Rattle.sd_validity.specs.rules.Parts.{link_spans, is_link_passed, are_links_passed}
use Rattle.sd_validity.specs.rules.Dimensions.{dimensions_tests}
use Rattle.sd_validity.specs.rules.NestedLinks.{has_shape, have_shapes, written_in_states, are_unshared}
use Rattle.sd_validity.specs.rules.Shapes.{are_steps_one, are_extents_same, dim_extent, shape_of}
use Rattle.sd_validity.specs.rules.MovedShapes.{are_two_containers, is_axis, spans_left, is_reduction_right}
use Rattle.sd_validity.specs.rules.WithinLimits.{limits_tests}
use Rattle.sd_validity.specs.rules.Valid.{IsValid}
use Rattle.sd_validity.proofs.rules_lemmas.InPlaceLemmas.{has_streams_in_place}
use Rattle.sd_validity.proofs.rules_lemmas.LinkedLemmas.{is_linked}
use Rattle.sd_race.specs.cover.Fit.{HasTargetCounts, IsFit, AreFit, AreStatesFit, IsGraphFit}
use Rattle.sd_safe.proofs.fit_lemmas.Members.{both, each-parts}
use Rattle.sd_safe.proofs.fit_lemmas.Counts.{has_target_counts}
use Rattle.sd_safe.proofs.fit_lemmas.Shaped.{HavePlainSpans, shapes-right}
use Rattle.sd_safe.proofs.fit_lemmas.Ranged.{normal_link, normal_links, normal_params, exits_fit, plain-link}
use Rattle.sd_safe.proofs.fit_lemmas.Sound.{states-sound}
use Rattle.sd_safe.proofs.fit_lemmas.Unaliased.{are_arrays, is_alias_free}
use Rattle.sd_safe.proofs.fit_lemmas.Right.{IsRightPlace, right-places}
use Rattle.sd_safe.proofs.fit_lemmas.Around.{AreKnown, AreUnknown, params-known, are-fresh, known-inside}

abbrev AreRight : List Place → Type 0
AreRight places = AllByRecursion IsRightPlace places

-- ---- maps

params-unknown : (place : Place) (own : List ℕ) → ((v : ℕ) → Contains own v → Contains place.scopes.params v → ⊥) → ((v : ℕ) → Contains own v → Contains place.loops v → ⊥) → AreUnknown place.scopes.params place.loops own
params-unknown place own about loops v member (inl is) = about v member is
params-unknown place own about loops v member (inr is) = loops v member is

-- ---- links of nested graphs

plain-links : (containers inside : Containers) (number : ℕ) (links : List Link) → AreLinksNormal links → are_links_passed (dimensions_tests containers) links ≡ true → have_shapes inside number links ≡ true → HavePlainSpans links
plain-links containers inside number [] normal is shapes = tt
plain-links containers inside number (link ∷ links) normal is shapes =
    let split = both (is_link_passed (dimensions_tests containers) link) (are_links_passed (dimensions_tests containers) links) is in
    let own = both (has_shape inside number link) (have_shapes inside (suc number) links) shapes in
    let steps = (both (are_steps_one (link_spans link)) (are_extents_same (map dim_extent (container_at inside number).extents) (shape_of (link_spans link))) own.0).0 in
    (plain-link containers link normal.0 split.0 steps, plain-links containers inside (suc number) links normal.1 split.1 own.1)

-- ---- reductions

target-fit : (containers : Containers) (axis : Option ℕ) (from to : Link) → IsLinkNormal from → IsLinkNormal to → (is_link_passed (dimensions_tests containers) from && is_link_passed (dimensions_tests containers) to) ≡ true →
    is_reduction_right axis from to ≡ true → (values : List ℤ) → HasTargetCounts axis (span_counts from.memlet.subset.dims values) (span_counts to.memlet.subset.dims values)
target-fit containers axis from to normal normal' is right values =
    let links = both (is_link_passed (dimensions_tests containers) from) (is_link_passed (dimensions_tests containers) to) is in
    let steps = are_steps_one (link_spans from) && are_steps_one (link_spans to) in
    let same = are_extents_same (shape_of (spans_left axis (link_spans from))) (shape_of (link_spans to)) in
    let split = both (are_two_containers from to && steps) (is_axis axis (link_spans from) && same) right in
    let ones = both (are_steps_one (link_spans from)) (are_steps_one (link_spans to)) (both (are_two_containers from to) steps split.0).1 in
    has_target_counts values axis from.memlet.subset.dims to.memlet.subset.dims
    (plain-link containers from normal links.0 ones.0) (plain-link containers to normal' links.1 ones.1) (both (is_axis axis (link_spans from)) same split.1).1

mutual
  kind-fit : (kind : KindTree) (around : Place) (scopes : Scopes) (number : ℕ) (parameters : List Parameter) → IsRightPlace (item_place around scopes number kind) → AreRight (places_in kind (item_place around scopes number kind)) →
      IsKindNormal kind → KindHasStreamsInPlace kind (containers_of around.graph) → IsKindLinked kind → AreKnown scopes.params around.loops parameters → IsFit kind parameters
  kind-fit (task code ins outs) around scopes number parameters right inside normal streams linked known =
      let split = both (limits_tests.code code) (are_links_passed limits_tests ins && are_links_passed limits_tests outs) right.limits in
      let links = both (are_links_passed limits_tests ins) (are_links_passed limits_tests outs) split.1 in
      (normal_links ins links.0 normal.0, normal_links outs links.1 normal.1)
  kind-fit (map_scope sequential params private body) around scopes number parameters right inside normal streams linked known =
      let place = item_place around scopes number (map_scope sequential params private body) in
      let ranges = params-known place params right.fresh.named right.free in
      let unknown = params-unknown place (param_numbers params) right.fresh.other right.fresh.unset in (
        are-fresh scopes.params around.loops parameters params right.fresh.once unknown (normal_params params right.limits normal.0) known ranges,
        items-fit body place (in_map scopes params private) 0 (parameters ++ params) inside normal.1 streams linked (known-inside scopes.params around.loops parameters params known ranges),
      )
  kind-fit (consume_scope stream element private body) around scopes number parameters right inside normal streams linked known =
      items-fit body (item_place around scopes number (consume_scope stream element private body)) (in_consume scopes element private) 0 parameters inside normal streams.1 linked known
  kind-fit (nested_graph (graph name containers arguments variables symbols states) links) around scopes number parameters right inside normal streams linked known =
      let inner = graph name containers arguments variables symbols states in
      let place = item_place around scopes number (nested_graph inner links) in
      let shaped = nat_eq (length links) arguments && have_shapes containers 0 links in
      let split = both shaped (are_unshared (written_in_states states) 0 links) right.nesting in
      let shapes = (both (nat_eq (length links) arguments) (have_shapes containers 0 links) split.0).1 in
      let first : ArgumentsComeFirst (length links) containers = subst (λ count. ArgumentsComeFirst count containers) (sym linked.0) linked.1.0 in
      let sound = states-sound states containers streams.1 linked.1.1 in (
        normal_links links right.limits normal.0,
        (
          shapes-right containers 0 links inside.0.extents (plain-links (containers_of around.graph) containers 0 links normal.0 right.dimensions shapes) shapes,
          states-fit states (graph_place inner place.path (suc place.depth)) 0 inside.1 normal.1.1 streams.1 linked.1.1,
        ),
        is_alias_free (written_in_states states) containers links (state_uses states containers) first sound split.1,
        are_arrays (written_in_states states) containers links (state_uses states containers) first sound,
      )
  kind-fit (reduction resolution axis identity from to) around scopes number parameters right inside normal streams linked known =
      let links = both (is_link_passed limits_tests from) (is_link_passed limits_tests to) right.limits in (
        normal_link from links.0 normal.0,
        normal_link to links.1 normal.1,
        target-fit (containers_of around.graph) axis from to normal.0 normal.1 right.dimensions right.shapes,
      )
  kind-fit (copy from to) around scopes number parameters right inside normal streams linked known =
      let links = both (is_link_passed limits_tests from) (is_link_passed limits_tests to) right.limits in
      (normal_link from links.0 normal.0, normal_link to links.1 normal.1)

  items-fit : (items : ItemTrees) (around : Place) (scopes : Scopes) (number : ℕ) (parameters : List Parameter) → AreRight (item_places items around scopes number) → AreItemsNormal items →
      ItemsHaveStreamsInPlace items (containers_of around.graph) → AreItemsLinked items → AreKnown scopes.params around.loops parameters → AreFit items parameters
  items-fit no_item around scopes number parameters right normal streams linked known = tt
  items-fit (and_item line kind items) around scopes number parameters right normal streams linked known =
      let place = item_place around scopes number kind in
      let rest = each-parts IsRightPlace (places_in kind place) (item_places items around scopes (suc number)) right.1 in (
        kind-fit kind around scopes number parameters right.0 rest.0 normal.0 streams.0 linked.0 known,
        items-fit items around scopes (suc number) parameters rest.1 normal.1 streams.1 linked.1 known,
      )

  states-fit : (states : StateTrees) (around : Place) (number : ℕ) → AreRight (state_places states around number) → AreStatesNormal states → StatesHaveStreamsInPlace states (containers_of around.graph) → AreStatesLinked states →
      AreStatesFit states
  states-fit no_state around number right normal streams linked = tt
  states-fit (and_state items exits states) around number right normal streams linked =
      let place = state_place around number items exits in
      let rest = each-parts IsRightPlace (item_places items place no_scopes 0) (state_places states around (suc number)) right.1 in (
        (items-fit items place no_scopes 0 [] rest.0 normal.0.0 streams.0 linked.0 tt, exits_fit exits right.0.limits normal.0.1),
        states-fit states around (suc number) rest.1 normal.1 streams.2 linked.1,
      )

pub graph-fit : (tree : GraphTree) → IsValid tree → IsGraphNormal tree → IsGraphFit tree []
graph-fit (graph name containers arguments variables symbols states) valid normal =
    let tree = graph name containers arguments variables symbols states in
    let right = right-places tree valid in
    (tt, states-fit states (graph_place tree [] 0) 0 right.1 normal.1 (has_streams_in_place tree valid.streams) (is_linked tree valid.nesting).1)
