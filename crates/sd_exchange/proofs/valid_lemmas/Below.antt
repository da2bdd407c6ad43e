-- A graph of which rule 1 holds names and gives its own variables alone.
use Rattle.std.specs.List.{AllByRecursion, list_all}
use Rattle.std.proofs.Common.{◌≡◌, ◌<◌, suc, ℕ, ℤ, nat_lt, List, [], ◌∷◌, length, Bool, true, false, ◌&&◌, ◌||◌, Option, Some, None, arith}
use Rattle.sd_range.specs.declared.affine.Affine.{Affine}
use Rattle.sd_range.specs.declared.range.Range.{Range}
use Rattle.sd_range.specs.declared.subset.Dim.{Dim}
use Rattle.sd_range.specs.declared.subset.Dim.TheVariants.{Index, Span}
use Rattle.sd_subset.specs.boxes.Box.{Parameter}
use Rattle.sd_graph.specs.declared.link.Link.{Link}
use Rattle.sd_graph.specs.TreeParts.{containers_of}
use Rattle.sd_graph.specs.PlainTree.{TaskletTree, GuardTree, ExitTree, KindTree, task, map_scope, consume_scope, nested_graph, reduction, copy, ItemTrees, no_item, and_item, StateTrees, no_state, and_state, GraphTree, graph}
use Rattle.sd_graph.specs.Wiring.{has_number}
use Rattle.sd_alike.specs.alike.Alike.{AffineBelow, RangeBelow, DimBelow, LinkBelow, CodeBelow, GuardBelow, ExitBelow, KindBelow, ItemsBelow, StatesBelow, NamesItsVariables}
use Rattle.sd_validity.specs.rules.GraphParts.{symbols_in, variables_of}
use Rattle.sd_validity.specs.rules.Places.{Place, Scopes, no_scopes, in_map, in_consume, param_numbers, graph_place, state_place, item_place, places_in, item_places, state_places, places_of, all_places}
use Rattle.sd_validity.specs.rules.Parts.{is_range_passed, is_dim_passed, is_link_passed, are_links_passed, are_params_passed, is_condition_passed, is_exit_passed, is_thing_passed}
use Rattle.sd_validity.specs.rules.Failing.{Holds}
use Rattle.sd_validity.specs.rules.NamesInForce.{is_there, is_variable_in_force, names_tests, params_at, set_at, is_stream_in_force, are_given_there, are_names_in_force, is_each_held, are_symbols_apart, are_own_private, are_single, of_graph, rule_1}
use Rattle.sd_validity.proofs.rules_lemmas.HoldingLemmas.{each_passes}
use Rattle.sd_safe.proofs.fit_lemmas.Members.{both, each-passes, each-parts}
use Rattle.sd_exchange.specs.maps.There.{KindGivesBelow, ItemsGiveBelow, StatesGiveBelow, GivesItsVariables}

-- what is asked of each place
abbrev is_named_there : Place → Bool
is_named_there place = is_thing_passed (names_tests place) place.thing && list_all (is_there place.graph) (params_at place.thing)

abbrev IsNamedThere : Place → Type 0
IsNamedThere place = (is_thing_passed (names_tests place) place.thing ≡ true) × (list_all (is_there place.graph) (params_at place.thing) ≡ true)

true-both : (a b : Bool) → a ≡ true → b ≡ true → (a && b) ≡ true
true-both true b h k = k
true-both false b h k = cc

one-there : (before : List Place) (place : Place) → rule_1 before place ≡ true → is_named_there place ≡ true
one-there before place is =
    let containers = containers_of place.graph in
    let split = both (are_names_in_force place && (is_each_held place.graph place.thing && are_symbols_apart place.graph place.thing)) (are_own_private containers place.thing && are_single (of_graph before place) place.thing) is in
    let names = (both (are_names_in_force place) (is_each_held place.graph place.thing && are_symbols_apart place.graph place.thing) split.0).0 in
    let named = is_thing_passed (names_tests place) place.thing in
    let stream = is_stream_in_force containers place.scopes.private place.thing in
    let parts = both (named && stream) (are_given_there place) names in
    true-both named (list_all (is_there place.graph) (params_at place.thing)) (both named stream parts.0).0
    (both (list_all (is_there place.graph) (params_at place.thing)) (list_all (is_there place.graph) (set_at place.thing)) parts.1).0

named-there : (tree : GraphTree) → Holds rule_1 tree → AllByRecursion IsNamedThere (all_places tree)
named-there tree holds =
    each-passes IsNamedThere is_named_there (λ place is. both (is_thing_passed (names_tests place) place.thing) (list_all (is_there place.graph) (params_at place.thing)) is) (all_places tree) (each_passes rule_1 is_named_there one-there [] (all_places tree) holds)

-- ---- parts of a place

there-below : (tree : GraphTree) (v : ℕ) → is_there tree v ≡ true → v < length (variables_of tree)
there-below tree v is = grind (arith, is)

in_force-below : (place : Place) (v : ℕ) → is_variable_in_force place v ≡ true → v < length (variables_of place.graph)
in_force-below place v is =
    there-below place.graph v (both (is_there place.graph v) (nat_lt v (symbols_in place.graph) || (has_number place.scopes.params v || has_number place.loops v)) is).0

affine-below : (place : Place) (a : Affine) → (names_tests place).expression a ≡ true → AffineBelow (length (variables_of place.graph)) a
affine-below place a is = each-passes (λ (term : ℕ × ℤ). term.0 < length (variables_of place.graph)) (λ (term : ℕ × ℤ). is_variable_in_force place term.0) (λ term passed. in_force-below place term.0 passed) a.terms is

range-below : (place : Place) (r : Range) → is_range_passed (names_tests place) r ≡ true → RangeBelow (length (variables_of place.graph)) r
range-below place r is =
    let named = (names_tests place).expression in
    let split = both true (named r.begin && list_all named r.ends) is in
    let names = both (named r.begin) (list_all named r.ends) split.1 in
    (affine-below place r.begin names.0, each-passes (AffineBelow (length (variables_of place.graph))) named (affine-below place) r.ends names.1)

dim-below : (place : Place) (dim : Dim) → is_dim_passed (names_tests place) dim ≡ true → DimBelow (length (variables_of place.graph)) dim
dim-below place (Index at) is = affine-below place at is
dim-below place (Span r) is = range-below place r is

link-below : (place : Place) (link : Link) → is_link_passed (names_tests place) link ≡ true → LinkBelow (length (variables_of place.graph)) link
link-below place link is =
    let split = both ((names_tests place).link link) (list_all (is_dim_passed (names_tests place)) link.memlet.subset.dims) is in
    each-passes (DimBelow (length (variables_of place.graph))) (is_dim_passed (names_tests place)) (dim-below place) link.memlet.subset.dims split.1

links-below : (place : Place) (links : List Link) → are_links_passed (names_tests place) links ≡ true → AllByRecursion (LinkBelow (length (variables_of place.graph))) links
links-below place links is = each-passes (LinkBelow (length (variables_of place.graph))) (is_link_passed (names_tests place)) (link-below place) links is

code-below : (place : Place) (code : TaskletTree) → (names_tests place).code code ≡ true → CodeBelow (length (variables_of place.graph)) code
code-below place code is = each-passes (λ v. v < length (variables_of place.graph)) (is_variable_in_force place) (in_force-below place) code.variables is

params-below : (place : Place) (params : List Parameter) → are_params_passed (names_tests place) params ≡ true → AllByRecursion (λ (param : Parameter). RangeBelow (length (variables_of place.graph)) param.1) params
params-below place params is =
    each-passes (λ (param : Parameter). RangeBelow (length (variables_of place.graph)) param.1) (λ (param : Parameter). is_range_passed (names_tests place) param.1) (λ param passed. range-below place param.1 passed) params is

given-below : (tree : GraphTree) (params : List Parameter) → list_all (is_there tree) (param_numbers params) ≡ true → AllByRecursion (λ (param : Parameter). param.0 < length (variables_of tree)) params
given-below tree [] is = tt
given-below tree (param ∷ params) is = let split = both (is_there tree param.0) (list_all (is_there tree) (param_numbers params)) is in (there-below tree param.0 split.0, given-below tree params split.1)

guard-below : (place : Place) (when : Option GuardTree) → is_condition_passed (names_tests place) when ≡ true → GuardBelow (length (variables_of place.graph)) when
guard-below place None is = tt
guard-below place (Some guard) is =
    let split = both (are_links_passed (names_tests place) guard.reads) ((names_tests place).code guard.code) is in (links-below place guard.reads split.0, code-below place guard.code split.1)

exit-below : (place : Place) (exit : ExitTree) → is_exit_passed (names_tests place) exit ≡ true → ExitBelow (length (variables_of place.graph)) exit
exit-below place exit is =
    let split = both (is_condition_passed (names_tests place) exit.when) (list_all (λ (assignment : ℕ × Affine). (names_tests place).expression assignment.1) exit.set) is in
    (guard-below place exit.when split.0, each-passes (λ (assignment : ℕ × Affine). AffineBelow (length (variables_of place.graph)) assignment.1) (λ (assignment : ℕ × Affine). (names_tests place).expression assignment.1) (λ assignment passed. affine-below place assignment.1 passed) exit.set split.1)

-- ---- all places

abbrev AreThere : List Place → Type 0
AreThere places = AllByRecursion IsNamedThere places

mutual
  kind-below : (kind : KindTree) (around : Place) (scopes : Scopes) (number : ℕ) → IsNamedThere (item_place around scopes number kind) → AreThere (places_in kind (item_place around scopes number kind)) →
      KindBelow (length (variables_of around.graph)) kind × KindGivesBelow (length (variables_of around.graph)) kind
  kind-below (task code ins outs) around scopes number own inside =
      let place = item_place around scopes number (task code ins outs) in
      let split = both ((names_tests place).code code) (are_links_passed (names_tests place) ins && are_links_passed (names_tests place) outs) own.0 in
      let links = both (are_links_passed (names_tests place) ins) (are_links_passed (names_tests place) outs) split.1 in
      ((code-below place code split.0, (links-below place ins links.0, links-below place outs links.1)), tt)
  kind-below (map_scope sequential params private body) around scopes number own inside =
      let place = item_place around scopes number (map_scope sequential params private body) in
      let rest = items-below body place (in_map scopes params private) 0 inside in
      ((params-below place params own.0, rest.0), (given-below around.graph params own.1, rest.1))
  kind-below (consume_scope source element private body) around scopes number own inside = items-below body (item_place around scopes number (consume_scope source element private body)) (in_consume scopes element private) 0 inside
  kind-below (nested_graph inner links) around scopes number own inside =
      let place = item_place around scopes number (nested_graph inner links) in
      let rest = graph-below inner place.path (suc place.depth) inside in ((rest.0, links-below place links own.0), rest.1)
  kind-below (reduction resolution axis identity from to) around scopes number own inside =
      let place = item_place around scopes number (reduction resolution axis identity from to) in
      let links = both (is_link_passed (names_tests place) from) (is_link_passed (names_tests place) to) own.0 in ((link-below place from links.0, link-below place to links.1), tt)
  kind-below (copy from to) around scopes number own inside =
      let place = item_place around scopes number (copy from to) in
      let links = both (is_link_passed (names_tests place) from) (is_link_passed (names_tests place) to) own.0 in ((link-below place from links.0, link-below place to links.1), tt)

  items-below : (items : ItemTrees) (around : Place) (scopes : Scopes) (number : ℕ) → AreThere (item_places items around scopes number) → ItemsBelow (length (variables_of around.graph)) items × ItemsGiveBelow (length (variables_of around.graph)) items
  items-below no_item around scopes number all = (tt, tt)
  items-below (and_item line kind items) around scopes number all =
      let parts = each-parts IsNamedThere (places_in kind (item_place around scopes number kind)) (item_places items around scopes (suc number)) all.1 in
      let first = kind-below kind around scopes number all.0 parts.0 in
      let rest = items-below items around scopes (suc number) parts.1 in ((first.0, rest.0), (first.1, rest.1))

  states-below : (states : StateTrees) (around : Place) (number : ℕ) → AreThere (state_places states around number) → StatesBelow (length (variables_of around.graph)) states × StatesGiveBelow (length (variables_of around.graph)) states
  states-below no_state around number all = (tt, tt)
  states-below (and_state items exits states) around number all =
      let place = state_place around number items exits in
      let parts = each-parts IsNamedThere (item_places items place no_scopes 0) (state_places states around (suc number)) all.1 in
      let first = items-below items place no_scopes 0 parts.0 in
      let rest = states-below states around (suc number) parts.1 in
      ((first.0, (each-passes (ExitBelow (length (variables_of around.graph))) (is_exit_passed (names_tests place)) (exit-below place) exits all.0.0, rest.0)), (first.1, rest.1))

  graph-below : (tree : GraphTree) (path : List ℕ) (depth : ℕ) → AreThere (places_of tree path depth) → NamesItsVariables tree × GivesItsVariables tree
  graph-below (graph name containers arguments variables symbols states) path depth all = states-below states (graph_place (graph name containers arguments variables symbols states) path depth) 0 all.1

pub names-its-variables : (tree : GraphTree) → Holds rule_1 tree → NamesItsVariables tree × GivesItsVariables tree
names-its-variables tree holds = graph-below tree [] 0 (named-there tree holds)
