-- Rules on nested graphs and shapes that the graph of a program keeps, it keeps with sizes.
use Rattle.std.proofs.Common.{◌≡◌, ◌∙◌, ℕ, zero, suc, ℤ, List, [], ◌∷◌, ◌++◌, map, length, nat_eq, Ok, None, Some, Bool, true, false, not, ◌&&◌, if◌then◌else◌, refl, ap, sym, subst}
use Rattle.std.specs.List.{AllByRecursion}
use Rattle.std.proofs.lemmas.List.{length-map}
use Rattle.sd_lex.specs.PlainTree.{ProgramTree}
use Rattle.sd_graph.specs.PlainTree as plain
use Rattle.sd_graph.specs.PlainTree.{KindTree, GraphTree, graph}
use Rattle.sd_graph.specs.TreeParts.{containers_of}
use Rattle.sd_graph.specs.ContainerParts.{Containers, container_at, is_argument}
use Rattle.sd_graph.specs.declared.link.Link.{Link}
use Rattle.sd_elab.specs.elab.Elaboration.{graph_of}
use Rattle.sd_valid.specs.BoundExpression.{bound_link}
use Rattle.sd_valid.specs.BoundTree.{bound_entry, bound_graph}
use Rattle.sd_valid.specs.SizeValues.{NamedSizes, sizes_in}
use Rattle.sd_valid.specs.Binding.{binding}
use Rattle.sd_validity.specs.rules.Places.{Thing, whole, leaving, doing, Place, all_places, places_of}
use Rattle.sd_validity.specs.rules.Failing.{Rule, failing, Holds}
use Rattle.sd_validity.specs.rules.NestedLinks.{do_arguments_come_first, has_shape, have_shapes, written_of, are_unshared, are_links_right, is_nesting_right, rule_5}
use Rattle.sd_validity.specs.rules.MovedShapes.{are_shapes_right, rule_6}
use Rattle.sd_validity.specs.bound_places.BoundPlace.{bound_thing, bound_place}
use Rattle.sd_validity.proofs.bound_places_lemmas.EachPlace.{AtThing, AtPlace, graph_places}
use Rattle.sd_validity.proofs.bound_places_lemmas.Asked.{HoldsAt, none_fails, all_mapped}
use Rattle.sd_validity.proofs.bound_places_lemmas.BoundPlaces.{graph_bound}
use Rattle.sd_validity.specs.bound_shapes.NormalShapes.{IsNormalAffine, HasNormalRanges}
use Rattle.sd_validity.proofs.bound_shapes_lemmas.Moved.{parameter_bound, kind_bound}
use Rattle.sd_validity.proofs.paths_lemmas.Found.{all_both}
use Rattle.sd_made.proofs.places_lemmas.Bound.{bound_is}
use Rattle.sd_made.proofs.writes_lemmas.Bound.{graph_same, all_same}
use Rattle.sd_made.proofs.shapes_lemmas.NormalForms.{AreNormal}
use Rattle.sd_made.proofs.shapes_lemmas.NormalGraphs.{IsWhole, IsLeaving, IsDoing, IsNormalThroughout, program_normal}

split_and : (first second : Bool) → (first && second) ≡ true → (first ≡ true) × (second ≡ true)
split_and true second e = (refl, e)
split_and false second e = cc

-- a rule that asks of each place alone, and holds
one_passes : (rule : Rule) (test : Place → Bool) (place : Place) (before places : List Place) → ((before : List Place) (place : Place) → rule before place ≡ test place) →
    (passes : Bool) → test place ≡ passes → failing rule before (place ∷ places) ≡ None → (test place ≡ true) × (failing rule (before ++ place ∷ []) places ≡ None)
one_passes rule test place before places alone true e none = (e, subst (λ passes. (if passes then failing rule (before ++ place ∷ []) places else Some place.path) ≡ None) (alone before place ∙ e) none)
one_passes rule test place before places alone false e none =
    let failed : (if false then failing rule (before ++ place ∷ []) places else Some place.path) ≡ None =
    subst (λ passes. (if passes then failing rule (before ++ place ∷ []) places else Some place.path) ≡ None) (alone before place ∙ e) none in
    cc

each_passes : (rule : Rule) (test : Place → Bool) (before places : List Place) → ((before : List Place) (place : Place) → rule before place ≡ test place) → failing rule before places ≡ None →
    AllByRecursion (λ place. test place ≡ true) places
each_passes rule test before [] alone none = tt
each_passes rule test before (place ∷ places) alone none =
    let first = one_passes rule test place before places alone (test place) refl none in
    (first.0, each_passes rule test (before ++ place ∷ []) places alone first.1)

abbrev At : Place → Type 0
At place = AtPlace IsWhole IsLeaving IsDoing place

module _ (sizes : List ℤ) where
  -- ---- copies and reductions

  thing_moved : (place : Place) (thing : Thing) → AtThing IsWhole IsLeaving IsDoing thing place → are_shapes_right thing ≡ true → are_shapes_right (bound_thing sizes thing) ≡ true
  thing_moved place whole at is = refl
  thing_moved place (leaving items exits) at is = refl
  thing_moved place (doing (plain.task code ins outs)) at is = refl
  thing_moved place (doing (plain.map_scope sequential params private body)) at is = refl
  thing_moved place (doing (plain.consume_scope stream element private body)) at is = refl
  thing_moved place (doing (plain.nested_graph inner links)) at is = refl
  thing_moved place (doing (plain.reduction resolution axis identity from to)) at is = kind_bound sizes (plain.reduction resolution axis identity from to) at.1 is
  thing_moved place (doing (plain.copy from to)) at is = kind_bound sizes (plain.copy from to) at.1 is

  -- ---- nested graphs

  arguments_bound : (arguments : ℕ) (containers : Containers) → do_arguments_come_first arguments (map (bound_entry sizes) containers) ≡ do_arguments_come_first arguments containers
  arguments_bound zero [] = refl
  arguments_bound (suc arguments) [] = refl
  arguments_bound zero (entry ∷ containers) = ap (λ rest. not (is_argument entry.1.kind) && rest) (arguments_bound zero containers)
  arguments_bound (suc arguments) (entry ∷ containers) = ap (λ rest. is_argument entry.1.kind && rest) (arguments_bound arguments containers)

  whole_nested : (tree : GraphTree) → is_nesting_right tree whole ≡ true → is_nesting_right (bound_graph sizes tree) whole ≡ true
  whole_nested (graph name containers arguments variables symbols states) is = arguments_bound arguments containers ∙ is

  extents_at_normal : (containers : Containers) (number : ℕ) → AreNormal containers → AllByRecursion IsNormalAffine (container_at containers number).extents
  extents_at_normal [] number normal = tt
  extents_at_normal (entry ∷ containers) zero normal = normal.0
  extents_at_normal (entry ∷ containers) (suc number) normal = extents_at_normal containers number normal.1

  shapes_kept : (containers : Containers) (number : ℕ) (links : List Link) → AreNormal containers → AllByRecursion HasNormalRanges links → have_shapes containers number links ≡ true →
      have_shapes (map (bound_entry sizes) containers) number (map (bound_link sizes) links) ≡ true
  shapes_kept containers number [] normal normals is = refl
  shapes_kept containers number (link ∷ links) normal normals is =
      let split = split_and (has_shape containers number link) (have_shapes containers (suc number) links) is in
      rw (parameter_bound sizes containers number link (extents_at_normal containers number normal) normals.0 split.0) (shapes_kept containers (suc number) links normal normals.1 split.1)

  links_kept : (inner : GraphTree) (links : List Link) → AreNormal (containers_of inner) → AllByRecursion HasNormalRanges links → are_links_right inner links ≡ true →
      are_links_right (bound_graph sizes inner) (map (bound_link sizes) links) ≡ true
  links_kept (graph name containers arguments variables symbols states) links normal normals is =
      let inner : GraphTree = graph name containers arguments variables symbols states in
      let halves = split_and (nat_eq (length links) arguments && have_shapes containers 0 links) (are_unshared (written_of inner) 0 links) is in
      let first = split_and (nat_eq (length links) arguments) (have_shapes containers 0 links) halves.0 in
      let many : nat_eq (length (map (bound_link sizes) links)) arguments ≡ true = ap (λ count. nat_eq count arguments) (length-map links (bound_link sizes)) ∙ first.0 in
      let shapes : have_shapes (map (bound_entry sizes) containers) 0 (map (bound_link sizes) links) ≡ true = shapes_kept containers 0 links normal normals first.1 in
      let apart : are_unshared (written_of (bound_graph sizes inner)) 0 (map (bound_link sizes) links) ≡ true =
      ap (λ written. are_unshared written 0 (map (bound_link sizes) links)) (graph_same sizes inner) ∙ all_same sizes (written_of inner) 0 links ∙ halves.1 in
      rw (many, shapes, apart) refl

  thing_nested : (place : Place) (thing : Thing) → AtThing IsWhole IsLeaving IsDoing thing place → is_nesting_right place.graph thing ≡ true → is_nesting_right (bound_graph sizes place.graph) (bound_thing sizes thing) ≡ true
  thing_nested place whole at is = whole_nested place.graph is
  thing_nested place (leaving items exits) at is = refl
  thing_nested place (doing (plain.task code ins outs)) at is = refl
  thing_nested place (doing (plain.map_scope sequential params private body)) at is = refl
  thing_nested place (doing (plain.consume_scope stream element private body)) at is = refl
  thing_nested place (doing (plain.nested_graph inner links)) at is = links_kept inner links at.1.0 at.1.1 is
  thing_nested place (doing (plain.reduction resolution axis identity from to)) at is = refl
  thing_nested place (doing (plain.copy from to)) at is = refl

  -- ---- places

  abbrev Passes : (Place → Bool) → Place → Type 0
  Passes test place = test place ≡ true

  nested_kept : (tree : GraphTree) → IsNormalThroughout tree → Holds rule_5 tree → Holds rule_5 (bound_graph sizes tree)
  nested_kept tree normal holds =
      let test : Place → Bool = λ place. is_nesting_right place.graph place.thing in
      none_fails rule_5 [] (all_places (bound_graph sizes tree))
      (subst (AllByRecursion (HoldsAt rule_5)) (sym (graph_bound sizes tree [] 0))
      (all_mapped (bound_place sizes) (λ place. At place × Passes test place) (HoldsAt rule_5) (λ place both before. thing_nested place place.thing both.0.1 both.1) (places_of tree [] 0)
      (all_both At (Passes test) (places_of tree [] 0) (graph_places IsWhole IsLeaving IsDoing tree [] 0 normal) (each_passes rule_5 test [] (all_places tree) (λ before place. refl) holds))))

  moved_kept : (tree : GraphTree) → IsNormalThroughout tree → Holds rule_6 tree → Holds rule_6 (bound_graph sizes tree)
  moved_kept tree normal holds =
      let test : Place → Bool = λ place. are_shapes_right place.thing in
      none_fails rule_6 [] (all_places (bound_graph sizes tree))
      (subst (AllByRecursion (HoldsAt rule_6)) (sym (graph_bound sizes tree [] 0))
      (all_mapped (bound_place sizes) (λ place. At place × Passes test place) (HoldsAt rule_6) (λ place both before. thing_moved place place.thing both.0.1 both.1) (places_of tree [] 0)
      (all_both At (Passes test) (places_of tree [] 0) (graph_places IsWhole IsLeaving IsDoing tree [] 0 normal) (each_passes rule_6 test [] (all_places tree) (λ before place. refl) holds))))

pub nesting_bound : (source : ProgramTree) (named : NamedSizes) (bound : GraphTree) → Holds rule_5 (graph_of source) → binding (graph_of source) named ≡ Ok bound → Holds rule_5 bound
nesting_bound source named bound holds is =
    subst (Holds rule_5) (bound_is (graph_of source) bound named is) (nested_kept (sizes_in named (graph_of source)) (graph_of source) (program_normal source) holds)

pub shapes_bound : (source : ProgramTree) (named : NamedSizes) (bound : GraphTree) → Holds rule_6 (graph_of source) → binding (graph_of source) named ≡ Ok bound → Holds rule_6 bound
shapes_bound source named bound holds is =
    subst (Holds rule_6) (bound_is (graph_of source) bound named is) (moved_kept (sizes_in named (graph_of source)) (graph_of source) (program_normal source) holds)
