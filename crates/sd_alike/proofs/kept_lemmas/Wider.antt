-- What the rules ask of a thing stays where its graph has more variables and more is in force.
use Rattle.std.proofs.Common.{◌≡◌, ℕ, ◌+◌, ◌≤◌, nat_lt, nat_le, List, [], ◌∷◌, ◌++◌, length, Bool, true, false, not, ◌&&◌, ◌||◌, refl, sym, ◌∙◌, arith, length-append}
use Rattle.std.specs.Bool.{⊤}
use Rattle.std.specs.List.{list_all}
use Rattle.sd_range.specs.declared.range.Range.{Range}
use Rattle.sd_graph.specs.PlainTree.{KindTree, task, map_scope, consume_scope, nested_graph, reduction, copy, ItemTrees, StateTrees, GraphTree, graph}
use Rattle.sd_graph.specs.TreeParts.{containers_of}
use Rattle.sd_graph.specs.ContainerParts.{Containers, container_at}
use Rattle.sd_graph.specs.Wiring.{has_number}
use Rattle.sd_graph.specs.InForce.{is_private}
use Rattle.sd_validity.specs.rules.GraphParts.{variables_of, symbols_in}
use Rattle.sd_validity.specs.rules.Places.{Thing, whole, leaving, doing, Place, Scopes, no_scopes, all_places, param_numbers}
use Rattle.sd_validity.specs.rules.Failing.{Holds}
use Rattle.sd_validity.specs.rules.Parts.{container_of, is_range_passed, are_params_passed, is_thing_passed}
use Rattle.sd_validity.specs.rules.NamesInForce.{is_container_in_force, is_stream_in_force, are_own_private, is_there, is_variable_in_force, is_no_symbol, are_symbols_apart, params_at, set_at, names_tests, are_given_there, are_names_in_force, rule_1}
use Rattle.sd_validity.specs.rules.SizesGone.{are_extents_constant, sizes_tests, rule_8}
use Rattle.sd_validity.proofs.rules_lemmas.HoldingLemmas.{both, each_passes}
use Rattle.sd_alike.proofs.kept_lemmas.Held.{Asked, rule_of, HoldsAll, IsLocal, IsWider, StaysWider, Grows}
use Rattle.sd_alike.proofs.kept_lemmas.HeldPlaces.{test_of, joined, all_held, all_passes, held_rule}
use Rattle.sd_alike.proofs.kept_lemmas.HeldReplaced.{graph_wider}
use Rattle.sd_alike.proofs.kept_lemmas.LocalRules.{dimensions_asked, streams_asked, nesting_asked, shapes_asked, sizes_asked, sizes_local, AsksParams}
use Rattle.sd_alike.proofs.kept_lemmas.NamesThere.{all_weaker, AskLess, thing_less}
use Rattle.sd_alike.proofs.kept_lemmas.NamesAsked.{names_asked, standing, symbols_same, names_local}

-- ---- the rules that do not look at variables

pub dimensions_wider : StaysWider dimensions_asked
dimensions_wider name containers arguments variables more symbols states loops others scopes wider thing up is holds = holds

pub streams_wider : StaysWider streams_asked
streams_wider name containers arguments variables more symbols states loops others scopes wider thing up is holds = holds

pub shapes_wider : StaysWider shapes_asked
shapes_wider name containers arguments variables more symbols states loops others scopes wider thing up is holds = holds

pub nesting_wider : StaysWider nesting_asked
nesting_wider name containers arguments variables more symbols states loops others scopes wider whole up is holds = holds
nesting_wider name containers arguments variables more symbols states loops others scopes wider (leaving items exits) up is holds = holds
nesting_wider name containers arguments variables more symbols states loops others scopes wider (doing (task code ins outs)) up is holds = holds
nesting_wider name containers arguments variables more symbols states loops others scopes wider (doing (map_scope sequential params private body)) up is holds = holds
nesting_wider name containers arguments variables more symbols states loops others scopes wider (doing (consume_scope stream element private body)) up is holds = holds
nesting_wider name containers arguments variables more symbols states loops others scopes wider (doing (nested_graph inner links)) up is holds = holds
nesting_wider name containers arguments variables more symbols states loops others scopes wider (doing (reduction resolution axis identity from to)) up is holds = holds
nesting_wider name containers arguments variables more symbols states loops others scopes wider (doing (copy from to)) up is holds = holds

-- ---- the rule of names

symbols_wider : (name : List ℕ) (containers : Containers) (arguments : ℕ) (variables more : List (List ℕ)) (symbols : ℕ) (states : StateTrees) (thing : Thing) → length variables ≤ length more →
    are_symbols_apart (graph name containers arguments variables symbols states) thing ≡ true → are_symbols_apart (graph name containers arguments more symbols states) thing ≡ true
symbols_wider name containers arguments variables more symbols states whole up is = grind (arith, up, is)
symbols_wider name containers arguments variables more symbols states (leaving items exits) up is = refl
symbols_wider name containers arguments variables more symbols states (doing kind) up is = is

container_wider : (containers : Containers) (private other : List ℕ) (number : ℕ) → ((number : ℕ) → has_number private number ≡ true → has_number other number ≡ true) →
    is_container_in_force containers private number ≡ true → is_container_in_force containers other number ≡ true
container_wider containers private other number more is = by (nat_lt number (length containers)) (not (is_private (container_at containers number).kind)) (has_number private number) (more number) is
  where
    by : (there free own : Bool) → (own ≡ true → has_number other number ≡ true) → (there && (free || own)) ≡ true → (there && (free || has_number other number)) ≡ true
    by true true own more is = refl
    by true false own more is = more is
    by false free own more is = cc

stream_wider : (containers : Containers) (private other : List ℕ) (thing : Thing) → ((number : ℕ) → has_number private number ≡ true → has_number other number ≡ true) →
    is_stream_in_force containers private thing ≡ true → is_stream_in_force containers other thing ≡ true
stream_wider containers private other whole more is = refl
stream_wider containers private other (leaving items exits) more is = refl
stream_wider containers private other (doing (task code ins outs)) more is = refl
stream_wider containers private other (doing (map_scope sequential params own body)) more is = refl
stream_wider containers private other (doing (consume_scope stream element own body)) more is = container_wider containers private other stream more is
stream_wider containers private other (doing (nested_graph inner links)) more is = refl
stream_wider containers private other (doing (reduction resolution axis identity from to)) more is = refl
stream_wider containers private other (doing (copy from to)) more is = refl

module _ (name : List ℕ) (containers : Containers) (arguments : ℕ) (variables more : List (List ℕ)) (symbols : ℕ) (states : StateTrees) (up : length variables ≤ length more) where
  abbrev few : GraphTree
  few = graph name containers arguments variables symbols states

  abbrev many : GraphTree
  many = graph name containers arguments more symbols states

  there_wider : (variable : ℕ) → is_there few variable ≡ true → is_there many variable ≡ true
  there_wider variable is = grind (arith, up, is)

  module _ (loops others : List ℕ) (scopes wider : Scopes) (is : IsWider loops others scopes wider) where
    variable_wider : (thing : Thing) (variable : ℕ) → is_variable_in_force (standing few loops scopes thing) variable ≡ true → is_variable_in_force (standing many others wider thing) variable ≡ true
    variable_wider thing variable in_force =
        let parts = both (is_there few variable) (nat_lt variable symbols || (has_number scopes.params variable || has_number loops variable)) in_force in
        joined (is_there many variable) (nat_lt variable symbols || (has_number wider.params variable || has_number others variable)) (there_wider variable parts.0)
        (by (nat_lt variable symbols) (has_number scopes.params variable) (has_number loops variable) (is.params variable) (is.loops variable) parts.1)
      where
        by : (symbol param loop : Bool) → (param ≡ true → has_number wider.params variable ≡ true) → (loop ≡ true → has_number others variable ≡ true) → (symbol || (param || loop)) ≡ true →
            (symbol || (has_number wider.params variable || has_number others variable)) ≡ true
        by true param loop params loops is = refl
        by false true loop params loops is = first (has_number wider.params variable) (has_number others variable) (params refl)
          where
            first : (a b : Bool) → a ≡ true → (a || b) ≡ true
            first true b is = refl
            first false b is = cc
        by false false loop params loops is = second (has_number wider.params variable) (has_number others variable) (loops is)
          where
            second : (a b : Bool) → b ≡ true → (a || b) ≡ true
            second true b is = refl
            second false b is = is

    names_less : (thing : Thing) → AskLess (names_tests (standing few loops scopes thing)) (names_tests (standing many others wider thing))
    names_less thing = record {
      link = λ link is_named. container_wider containers scopes.private wider.private (container_of link) is.private is_named;
      range = λ range is_named. refl;
      expression = λ a is_named. all_weaker (λ term. is_variable_in_force (standing few loops scopes thing) term.0) (λ term. is_variable_in_force (standing many others wider thing) term.0)
          (λ term. variable_wider thing term.0) a.terms is_named;
      code = λ code is_named. all_weaker (is_variable_in_force (standing few loops scopes thing)) (is_variable_in_force (standing many others wider thing)) (variable_wider thing) code.variables is_named;
    }

    names_wider_at : (thing : Thing) → names_asked few loops scopes thing ≡ true → names_asked many others wider thing ≡ true
    names_wider_at thing holds =
        let here = standing few loops scopes thing in
        let there = standing many others wider thing in
        let own = are_own_private containers thing in
        let parts = both (are_names_in_force here && are_symbols_apart few thing) own holds in
        let names = both (are_names_in_force here) (are_symbols_apart few thing) parts.0 in
        let passed = is_thing_passed (names_tests here) thing in
        let stream = is_stream_in_force containers scopes.private thing in
        let first = both (passed && stream) (are_given_there here) names.0 in
        let links = both passed stream first.0 in
        let params = list_all (is_there few) (params_at thing) in
        let set = list_all (is_there few) (set_at thing) in
        let given = both params set first.1 in
        joined (are_names_in_force there && are_symbols_apart many thing) own
        (joined (are_names_in_force there) (are_symbols_apart many thing)
        (joined (is_thing_passed (names_tests there) thing && is_stream_in_force containers wider.private thing) (are_given_there there)
        (joined (is_thing_passed (names_tests there) thing) (is_stream_in_force containers wider.private thing)
        (thing_less (names_tests here) (names_tests there) (names_less thing) thing links.0) (stream_wider containers scopes.private wider.private thing is.private links.1))
        (joined (list_all (is_there many) (params_at thing)) (list_all (is_there many) (set_at thing))
        (all_weaker (is_there few) (is_there many) there_wider (params_at thing) given.0) (all_weaker (is_there few) (is_there many) there_wider (set_at thing) given.1)))
        (symbols_wider name containers arguments variables more symbols states thing up names.1))
        parts.1

pub names_wider : StaysWider names_asked
names_wider name containers arguments variables more symbols states loops others scopes wider thing up is holds =
    names_wider_at name containers arguments variables more symbols states up loops others scopes wider is thing holds

-- ---- the rule of sizes, with what the rule of names asks of size symbols

abbrev pub sized_asked : Asked
sized_asked tree loops scopes thing = sizes_asked tree loops scopes thing && are_symbols_apart tree thing

pub sizes_wider : StaysWider sizes_asked
sizes_wider name containers arguments variables more symbols states loops others scopes wider whole up is holds = holds
sizes_wider name containers arguments variables more symbols states loops others scopes wider (leaving items exits) up is holds = holds
sizes_wider name containers arguments variables more symbols states loops others scopes wider (doing kind) up is holds = holds

pub sized_wider : StaysWider sized_asked
sized_wider name containers arguments variables more symbols states loops others scopes wider thing up is holds =
    let few : GraphTree = graph name containers arguments variables symbols states in
    let many : GraphTree = graph name containers arguments more symbols states in
    let parts = both (sizes_asked few loops scopes thing) (are_symbols_apart few thing) holds in
    joined (sizes_asked many others wider thing) (are_symbols_apart many thing)
    (sizes_wider name containers arguments variables more symbols states loops others scopes wider thing up is parts.0)
    (symbols_wider name containers arguments variables more symbols states thing up parts.1)

sized_head : (name : List ℕ) (containers : Containers) (arguments : ℕ) (variables : List (List ℕ)) (symbols : ℕ) (states after : StateTrees) (loops : List ℕ) (scopes : Scopes) (thing : Thing) →
    sized_asked (graph name containers arguments variables symbols after) loops scopes thing ≡ sized_asked (graph name containers arguments variables symbols states) loops scopes thing
sized_head name containers arguments variables symbols states after loops scopes whole = refl
sized_head name containers arguments variables symbols states after loops scopes (leaving items exits) = refl
sized_head name containers arguments variables symbols states after loops scopes (doing kind) = refl

pub sized_local : IsLocal sized_asked
sized_local = record {
  head = λ name containers arguments variables symbols states after loops scopes thing. sized_head name containers arguments variables symbols states after loops scopes thing;
  list = λ tree loops scopes items others exits. refl;
  map_body = λ tree loops scopes sequential params private body other. refl;
  consume_body = λ tree loops scopes stream element private body other. refl;
  inner = λ tree loops scopes inner other links same. refl;
  scopes = λ tree loops scopes others thing same. refl;
}

abbrev pub is_param_sized : GraphTree → ℕ × Range → Bool
is_param_sized tree param = is_range_passed (sizes_tests (symbols_in tree)) param.1 && is_no_symbol (symbols_in tree) param.0

pub sized_params : AsksParams sized_asked
sized_params = record { test = is_param_sized; is = λ tree loops scopes sequential params private body. each tree params }
  where
    turned : (a b c d : Bool) → ((true && (a && b)) && (c && d)) ≡ ((a && c) && ((true && b) && d))
    turned true b true d = refl
    turned true true false d = refl
    turned true false false d = refl
    turned false b c d = refl

    each : (tree : GraphTree) (params : List (ℕ × Range)) →
        ((true && are_params_passed (sizes_tests (symbols_in tree)) params) && list_all (is_no_symbol (symbols_in tree)) (param_numbers params)) ≡ list_all (is_param_sized tree) params
    each tree [] = refl
    each tree (param ∷ params) =
        turned (is_range_passed (sizes_tests (symbols_in tree)) param.1) (are_params_passed (sizes_tests (symbols_in tree)) params) (is_no_symbol (symbols_in tree) param.0) (list_all (is_no_symbol (symbols_in tree)) (param_numbers params))
        ∙ (λ i. is_param_sized tree param && each tree params i)

pub sized_test : (tree : GraphTree) (param : ℕ × Range) → sized_params.test tree param ≡ is_param_sized tree param
unfolding sized_params
sized_test tree param = refl

-- ---- a graph that gets further variables

-- it has so many behind those that it had, and its size symbols are among these
pub record HasFurther (added : ℕ) (tree : GraphTree) (variables : ℕ) : Type 0 where
  pub count : length (variables_of tree) ≡ variables + added
  pub symbols : symbols_in tree ≤ variables

module _ (asked : Asked) (local : IsLocal asked) (stays : StaysWider asked) (names : List (List ℕ)) where
  further : (variables : List (List ℕ)) → length variables ≤ length (variables ++ names)
  further variables = omega (arith, length-append variables names)

  stays_further : (name : List ℕ) (containers : Containers) (arguments : ℕ) (variables : List (List ℕ)) (symbols : ℕ) (states : StateTrees) →
      HoldsAll asked (graph name containers arguments variables symbols states) → HoldsAll asked (graph name containers arguments (variables ++ names) symbols states)
  stays_further name containers arguments variables symbols states holds =
      graph_wider asked local stays name containers arguments variables (variables ++ names) symbols states (further variables) holds

  -- nothing need be known of it
  pub any_grows : Grows asked names (λ tree variables. ⊤)
  any_grows = record { stays = stays_further; known = λ name containers arguments variables symbols states holds. tt }

  -- where size symbols are asked for, they are among the variables that it had
  pub sized_grows : ((tree : GraphTree) → asked tree [] no_scopes whole ≡ true → are_symbols_apart tree whole ≡ true) → Grows asked names (HasFurther (length names))
  sized_grows apart = record {
    stays = stays_further;
    known = λ name containers arguments variables symbols states holds. record {
      count = length-append variables names;
      symbols = few symbols (length variables) (apart (graph name containers arguments variables symbols states) holds.0);
    };
  }
    where
      few : (symbols variables : ℕ) → nat_le symbols variables ≡ true → symbols ≤ variables
      few symbols variables is = grind (arith, is)

pub names_grow : (names : List (List ℕ)) → Grows names_asked names (HasFurther (length names))
names_grow names =
    sized_grows names_asked names_local names_wider names
    (λ tree is. (both (are_names_in_force (standing tree [] no_scopes whole)) (are_symbols_apart tree whole)
    (both (are_names_in_force (standing tree [] no_scopes whole) && are_symbols_apart tree whole) (are_own_private (containers_of tree) whole) is).0).1)

pub sizes_grow : (names : List (List ℕ)) → Grows sized_asked names (HasFurther (length names))
sizes_grow names = sized_grows sized_asked sized_local sized_wider names (λ tree is. (both (sizes_asked tree [] no_scopes whole) (are_symbols_apart tree whole) is).1)

-- ---- from the two rules, and to the rule of sizes

both_pass : {A : Type 0} (test other : A → Bool) (members : List A) → list_all test members ≡ true → list_all other members ≡ true → list_all (λ member. test member && other member) members ≡ true
both_pass test other [] all also = refl
both_pass test other (member ∷ members) all also =
    let first = both (test member) (list_all test members) all in
    let second = both (other member) (list_all other members) also in
    joined (test member && other member) (list_all (λ member. test member && other member) members) (joined (test member) (other member) first.0 second.0) (both_pass test other members first.1 second.1)

pub sized_held : (tree : GraphTree) → Holds rule_8 tree → list_all (λ (place : Place). are_symbols_apart place.graph place.thing) (all_places tree) ≡ true → HoldsAll sized_asked tree
sized_held tree sizes apart =
    all_held sized_asked tree [] 0
    (both_pass (test_of sizes_asked) (λ (place : Place). are_symbols_apart place.graph place.thing) (all_places tree) (each_passes rule_8 (test_of sizes_asked) (λ before place is. is) [] (all_places tree) sizes) apart)

pub held_sizes : (tree : GraphTree) → HoldsAll sized_asked tree → Holds rule_8 tree
held_sizes tree holds =
    held_rule sizes_asked tree (all_held sizes_asked tree [] 0
    (all_weaker (test_of sized_asked) (test_of sizes_asked) (λ place is. (both (test_of sizes_asked place) (are_symbols_apart place.graph place.thing) is).0) (all_places tree) (all_passes sized_asked tree [] 0 holds)))
