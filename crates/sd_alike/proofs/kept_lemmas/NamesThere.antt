-- A graph in which the rule of names holds names its own variables alone.
use Rattle.std.proofs.Common.{◌≡◌, ℕ, suc, ◌<◌, nat_lt, List, [], ◌∷◌, length, Option, Some, None, Bool, true, ◌&&◌, refl, arith}
use Rattle.std.specs.List.{AllByRecursion, list_all}
use Rattle.sd_range.specs.declared.affine.Affine.{Affine}
use Rattle.sd_range.specs.declared.range.Range.{Range}
use Rattle.sd_range.specs.declared.subset.Dim.{Dim}
use Rattle.sd_range.specs.declared.subset.Dim.TheVariants.{Index, Span}
use Rattle.sd_graph.specs.PlainTree.{KindTree, task, map_scope, consume_scope, nested_graph, reduction, copy, ItemTrees, no_item, and_item, StateTrees, no_state, and_state, GraphTree, graph, TaskletTree, GuardTree, ExitTree}
use Rattle.sd_graph.specs.declared.container.Container.{Container}
use Rattle.sd_graph.specs.declared.link.Link.{Link}
use Rattle.sd_validity.specs.rules.Places.{Thing, whole, leaving, doing, Place, Scopes, no_scopes, in_map, in_consume, loops_at, all_places}
use Rattle.sd_validity.specs.rules.Parts.{Tests, is_range_passed, is_dim_passed, is_link_passed, are_links_passed, is_condition_passed, is_exit_passed, is_kind_passed, is_thing_passed}
use Rattle.sd_validity.specs.rules.Failing.{Holds}
use Rattle.sd_validity.specs.rules.NamesInForce.{rule_1, is_there, names_tests, is_each_held, are_symbols_apart, are_own_private, are_single, of_graph, is_stream_in_force, are_given_there, are_names_in_force}
use Rattle.sd_graph.specs.TreeParts.{containers_of}
use Rattle.sd_validity.proofs.rules_lemmas.HoldingLemmas.{both, each_passes}
use Rattle.sd_alike.specs.alike.Alike.{AffineBelow, RangeBelow, DimBelow, LinkBelow, CodeBelow, GuardBelow, ExitBelow, KindBelow, ItemsBelow, StatesBelow, NamesItsVariables}
use Rattle.sd_alike.proofs.kept_lemmas.Held.{Asked, HoldsIn, HoldsAmong, HoldsInStates, HoldsAll}
use Rattle.sd_alike.proofs.kept_lemmas.HeldPlaces.{test_of, joined, all_held}

-- each variable is one of the graph's
abbrev there_tests : GraphTree → Tests
there_tests tree = record {
  link = λ link. true;
  range = λ range. true;
  expression = λ a. list_all (λ term. is_there tree term.0) a.terms;
  code = λ code. list_all (is_there tree) code.variables;
}

abbrev there_asked : Asked
there_asked tree loops scopes thing = is_thing_passed (there_tests tree) thing

-- ---- tests that ask less

pub all_weaker : {A : Type 0} (test other : A → Bool) → ((member : A) → test member ≡ true → other member ≡ true) → (members : List A) → list_all test members ≡ true → list_all other members ≡ true
all_weaker test other weaker [] all = refl
all_weaker test other weaker (member ∷ members) all =
    let parts = both (test member) (list_all test members) all in
    joined (other member) (list_all other members) (weaker member parts.0) (all_weaker test other weaker members parts.1)

pub record AskLess (tests others : Tests) : Type 0 where
  pub link : (link : Link) → tests.link link ≡ true → others.link link ≡ true
  pub range : (range : Range) → tests.range range ≡ true → others.range range ≡ true
  pub expression : (a : Affine) → tests.expression a ≡ true → others.expression a ≡ true
  pub code : (code : TaskletTree) → tests.code code ≡ true → others.code code ≡ true

module _ (tests others : Tests) (less : AskLess tests others) where
  range_less : (range : Range) → is_range_passed tests range ≡ true → is_range_passed others range ≡ true
  range_less range is =
      let parts = both (tests.range range) (tests.expression range.begin && list_all tests.expression range.ends) is in
      let rest = both (tests.expression range.begin) (list_all tests.expression range.ends) parts.1 in
      joined (others.range range) (others.expression range.begin && list_all others.expression range.ends) (less.range range parts.0)
      (joined (others.expression range.begin) (list_all others.expression range.ends) (less.expression range.begin rest.0) (all_weaker tests.expression others.expression less.expression range.ends rest.1))

  dim_less : (dim : Dim) → is_dim_passed tests dim ≡ true → is_dim_passed others dim ≡ true
  dim_less (Index at) is = less.expression at is
  dim_less (Span range) is = range_less range is

  link_less : (link : Link) → is_link_passed tests link ≡ true → is_link_passed others link ≡ true
  link_less link is =
      let parts = both (tests.link link) (list_all (is_dim_passed tests) link.memlet.subset.dims) is in
      joined (others.link link) (list_all (is_dim_passed others) link.memlet.subset.dims) (less.link link parts.0) (all_weaker (is_dim_passed tests) (is_dim_passed others) dim_less link.memlet.subset.dims parts.1)

  links_less : (links : List Link) → are_links_passed tests links ≡ true → are_links_passed others links ≡ true
  links_less links is = all_weaker (is_link_passed tests) (is_link_passed others) link_less links is

  condition_less : (when : Option GuardTree) → is_condition_passed tests when ≡ true → is_condition_passed others when ≡ true
  condition_less None is = refl
  condition_less (Some guard) is =
      let parts = both (are_links_passed tests guard.reads) (tests.code guard.code) is in
      joined (are_links_passed others guard.reads) (others.code guard.code) (links_less guard.reads parts.0) (less.code guard.code parts.1)

  exit_less : (exit : ExitTree) → is_exit_passed tests exit ≡ true → is_exit_passed others exit ≡ true
  exit_less exit is =
      let parts = both (is_condition_passed tests exit.when) (list_all (λ assignment. tests.expression assignment.1) exit.set) is in
      joined (is_condition_passed others exit.when) (list_all (λ assignment. others.expression assignment.1) exit.set) (condition_less exit.when parts.0)
      (all_weaker (λ assignment. tests.expression assignment.1) (λ assignment. others.expression assignment.1) (λ assignment is. less.expression assignment.1 is) exit.set parts.1)

  kind_less : (kind : KindTree) → is_kind_passed tests kind ≡ true → is_kind_passed others kind ≡ true
  kind_less (task code ins outs) is =
      let parts = both (tests.code code) (are_links_passed tests ins && are_links_passed tests outs) is in
      let rest = both (are_links_passed tests ins) (are_links_passed tests outs) parts.1 in
      joined (others.code code) (are_links_passed others ins && are_links_passed others outs) (less.code code parts.0)
      (joined (are_links_passed others ins) (are_links_passed others outs) (links_less ins rest.0) (links_less outs rest.1))
  kind_less (map_scope sequential params private body) is = all_weaker (λ param. is_range_passed tests param.1) (λ param. is_range_passed others param.1) (λ param is. range_less param.1 is) params is
  kind_less (consume_scope stream element private body) is = refl
  kind_less (nested_graph inner links) is = links_less links is
  kind_less (reduction resolution axis identity from to) is =
      let parts = both (is_link_passed tests from) (is_link_passed tests to) is in
      joined (is_link_passed others from) (is_link_passed others to) (link_less from parts.0) (link_less to parts.1)
  kind_less (copy from to) is =
      let parts = both (is_link_passed tests from) (is_link_passed tests to) is in
      joined (is_link_passed others from) (is_link_passed others to) (link_less from parts.0) (link_less to parts.1)

  pub thing_less : (thing : Thing) → is_thing_passed tests thing ≡ true → is_thing_passed others thing ≡ true
  thing_less whole is = refl
  thing_less (leaving items exits) is = all_weaker (is_exit_passed tests) (is_exit_passed others) exit_less exits is
  thing_less (doing kind) is = kind_less kind is

-- ---- from tests to variables that are there

below_of : (variable count : ℕ) → nat_lt variable count ≡ true → variable < count
below_of variable count is = grind (arith, is)

all_of : {A : Type 0} (P : A → Type 0) (test : A → Bool) → ((member : A) → test member ≡ true → P member) → (members : List A) → list_all test members ≡ true → AllByRecursion P members
all_of P test gives [] all = tt
all_of P test gives (member ∷ members) all =
    let parts = both (test member) (list_all test members) all in
    (gives member parts.0, all_of P test gives members parts.1)

module _ (name : List ℕ) (containers : List (List ℕ × Container)) (arguments : ℕ) (variables : List (List ℕ)) (symbols : ℕ) (states : StateTrees) where
  abbrev tree : GraphTree
  tree = graph name containers arguments variables symbols states

  abbrev count : ℕ
  count = length variables

  affine_below : (a : Affine) → list_all (λ term. is_there tree term.0) a.terms ≡ true → AffineBelow count a
  affine_below a is = all_of (λ term. term.0 < count) (λ term. is_there tree term.0) (λ term is. below_of term.0 count is) a.terms is

  range_below : (range : Range) → is_range_passed (there_tests tree) range ≡ true → RangeBelow count range
  range_below range is =
      let rest = both (list_all (λ term. is_there tree term.0) range.begin.terms) (list_all (λ (a : Affine). list_all (λ term. is_there tree term.0) a.terms) range.ends) is in
      (affine_below range.begin rest.0, all_of (AffineBelow count) (λ (a : Affine). list_all (λ term. is_there tree term.0) a.terms) affine_below range.ends rest.1)

  dim_below : (dim : Dim) → is_dim_passed (there_tests tree) dim ≡ true → DimBelow count dim
  dim_below (Index at) is = affine_below at is
  dim_below (Span range) is = range_below range is

  link_below : (link : Link) → is_link_passed (there_tests tree) link ≡ true → LinkBelow count link
  link_below link is = all_of (DimBelow count) (is_dim_passed (there_tests tree)) dim_below link.memlet.subset.dims is

  links_below : (links : List Link) → are_links_passed (there_tests tree) links ≡ true → AllByRecursion (LinkBelow count) links
  links_below links is = all_of (LinkBelow count) (is_link_passed (there_tests tree)) link_below links is

  code_below : (code : TaskletTree) → list_all (is_there tree) code.variables ≡ true → CodeBelow count code
  code_below code is = all_of (λ variable. variable < count) (is_there tree) (λ variable is. below_of variable count is) code.variables is

  guard_below : (when : Option GuardTree) → is_condition_passed (there_tests tree) when ≡ true → GuardBelow count when
  guard_below None is = tt
  guard_below (Some guard) is =
      let parts = both (are_links_passed (there_tests tree) guard.reads) (list_all (is_there tree) guard.code.variables) is in
      (links_below guard.reads parts.0, code_below guard.code parts.1)

  exit_below : (exit : ExitTree) → is_exit_passed (there_tests tree) exit ≡ true → ExitBelow count exit
  exit_below exit is =
      let parts = both (is_condition_passed (there_tests tree) exit.when) (list_all (λ assignment. list_all (λ term. is_there tree term.0) assignment.1.terms) exit.set) is in
      (guard_below exit.when parts.0, all_of (λ assignment. AffineBelow count assignment.1) (λ assignment. list_all (λ term. is_there tree term.0) assignment.1.terms) (λ assignment is. affine_below assignment.1 is) exit.set parts.1)

mutual
  kind_below : (name : List ℕ) (containers : List (List ℕ × Container)) (arguments : ℕ) (variables : List (List ℕ)) (symbols : ℕ) (states : StateTrees) (loops : List ℕ) (scopes : Scopes) (kind : KindTree) →
      there_asked (graph name containers arguments variables symbols states) loops scopes (doing kind) ≡ true → HoldsIn there_asked (graph name containers arguments variables symbols states) loops scopes kind → KindBelow (length variables) kind
  kind_below name containers arguments variables symbols states loops scopes (task code ins outs) is holds =
      let tests : Tests = there_tests (graph name containers arguments variables symbols states) in
      let parts = both (tests.code code) (are_links_passed tests ins && are_links_passed tests outs) is in
      let rest = both (are_links_passed tests ins) (are_links_passed tests outs) parts.1 in
      (code_below name containers arguments variables symbols states code parts.0, (links_below name containers arguments variables symbols states ins rest.0, links_below name containers arguments variables symbols states outs rest.1))
  kind_below name containers arguments variables symbols states loops scopes (map_scope sequential params private body) is holds = (
    all_of (λ param. RangeBelow (length variables) param.1) (λ param. is_range_passed (there_tests (graph name containers arguments variables symbols states)) param.1)
        (λ param is. range_below name containers arguments variables symbols states param.1 is) params is,
    items_below name containers arguments variables symbols states loops (in_map scopes params private) body holds,
  )
  kind_below name containers arguments variables symbols states loops scopes (consume_scope stream element private body) is holds = items_below name containers arguments variables symbols states loops (in_consume scopes element private) body holds
  kind_below name containers arguments variables symbols states loops scopes (nested_graph inner links) is holds = (graph_names inner holds, links_below name containers arguments variables symbols states links is)
  kind_below name containers arguments variables symbols states loops scopes (reduction resolution axis identity from to) is holds =
      let tests : Tests = there_tests (graph name containers arguments variables symbols states) in
      let parts = both (is_link_passed tests from) (is_link_passed tests to) is in
      (link_below name containers arguments variables symbols states from parts.0, link_below name containers arguments variables symbols states to parts.1)
  kind_below name containers arguments variables symbols states loops scopes (copy from to) is holds =
      let tests : Tests = there_tests (graph name containers arguments variables symbols states) in
      let parts = both (is_link_passed tests from) (is_link_passed tests to) is in
      (link_below name containers arguments variables symbols states from parts.0, link_below name containers arguments variables symbols states to parts.1)

  items_below : (name : List ℕ) (containers : List (List ℕ × Container)) (arguments : ℕ) (variables : List (List ℕ)) (symbols : ℕ) (states : StateTrees) (loops : List ℕ) (scopes : Scopes) (items : ItemTrees) →
      HoldsAmong there_asked (graph name containers arguments variables symbols states) loops scopes items → ItemsBelow (length variables) items
  items_below name containers arguments variables symbols states loops scopes no_item holds = tt
  items_below name containers arguments variables symbols states loops scopes (and_item line kind items) holds =
      (kind_below name containers arguments variables symbols states loops scopes kind holds.0 holds.1.0, items_below name containers arguments variables symbols states loops scopes items holds.1.1)

  states_below : (name : List ℕ) (containers : List (List ℕ × Container)) (arguments : ℕ) (variables : List (List ℕ)) (symbols : ℕ) (all : StateTrees) (number : ℕ) (states : StateTrees) →
      HoldsInStates there_asked (graph name containers arguments variables symbols all) number states → StatesBelow (length variables) states
  states_below name containers arguments variables symbols all number no_state holds = tt
  states_below name containers arguments variables symbols all number (and_state items exits states) holds = (
    items_below name containers arguments variables symbols all (loops_at (graph name containers arguments variables symbols all) number) no_scopes items holds.1.0,
    (
      all_of (ExitBelow (length variables)) (is_exit_passed (there_tests (graph name containers arguments variables symbols all))) (exit_below name containers arguments variables symbols all) exits holds.0,
      states_below name containers arguments variables symbols all (suc number) states holds.1.1,
    ),
  )

  graph_names : (tree : GraphTree) → HoldsAll there_asked tree → NamesItsVariables tree
  graph_names (graph name containers arguments variables symbols states) holds = states_below name containers arguments variables symbols states 0 states holds.1

-- ---- the rule of names

in_force_is_there : (there in_force : Bool) → (there && in_force) ≡ true → there ≡ true
in_force_is_there there in_force is = (both there in_force is).0

names_less : (place : Place) → AskLess (names_tests place) (there_tests place.graph)
names_less place = record {
  link = λ link is. refl;
  range = λ range is. refl;
  expression = λ a is. all_weaker _ _ (λ term is. in_force_is_there (is_there place.graph term.0) _ is) a.terms is;
  code = λ code is. all_weaker _ _ (λ variable is. in_force_is_there (is_there place.graph variable) _ is) code.variables is;
}

pub valid_names_its_variables : (tree : GraphTree) → Holds rule_1 tree → NamesItsVariables tree
valid_names_its_variables tree holds =
    graph_names tree (all_held there_asked tree [] 0 (each_passes rule_1 (test_of there_asked)
    (λ before place is.
    let first = both (are_names_in_force place && (is_each_held place.graph place.thing && are_symbols_apart place.graph place.thing)) (are_own_private (containers_of place.graph) place.thing && are_single (of_graph before place) place.thing) is in
    let names = both (are_names_in_force place) (is_each_held place.graph place.thing && are_symbols_apart place.graph place.thing) first.0 in
    let named = both (is_thing_passed (names_tests place) place.thing && is_stream_in_force (containers_of place.graph) place.scopes.private place.thing) (are_given_there place) names.0 in
    let passed = both (is_thing_passed (names_tests place) place.thing) (is_stream_in_force (containers_of place.graph) place.scopes.private place.thing) named.0 in
    thing_less (names_tests place) (there_tests place.graph) (names_less place) place.thing passed.0)
    [] (all_places tree) holds))
