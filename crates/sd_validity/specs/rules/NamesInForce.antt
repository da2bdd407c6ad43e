-- Rule 1: what is named is in force there, each private container and each parameter has one place, and size symbols are there and are no parameters.
use Rattle.std.specs.Prelude.{ℕ, nat_lt, nat_le, pos, List, [], ◌∷◌, ◌++◌, length, map, Bool, true, false, not, ◌&&◌, ◌||◌, bytes_eq}
use Rattle.std.specs.List.{list_all, flat_map, filter}
use Rattle.std.specs.Ordering.{int_eq}
use Rattle.sd_range.specs.declared.affine.Affine.{Affine}
use Rattle.sd_graph.specs.PlainTree.{KindTree, task, map_scope, consume_scope, nested_graph, reduction, copy, ItemTrees, no_item, and_item, StateTrees, no_state, and_state, GraphTree, graph}
use Rattle.sd_graph.specs.TreeParts.{containers_of}
use Rattle.sd_graph.specs.ContainerParts.{Containers, container_at, is_stream}
use Rattle.sd_graph.specs.Wiring.{has_number}
use Rattle.sd_graph.specs.InForce.{is_private}
use Rattle.sd_graph.specs.LoopScope.{numbers_below}
use Rattle.sd_graph.specs.declared.container.Container.{Container}
use Rattle.sd_validity.specs.rules.GraphParts.{variables_of, symbols_in}
use Rattle.sd_validity.specs.rules.Places.{Thing, whole, leaving, doing, Place, param_numbers}
use Rattle.sd_validity.specs.rules.Parts.{is_empty, container_of, Tests, is_thing_passed}

-- ---- containers

-- one that the graph has, in force everywhere or one of the private containers of the scopes about the place
abbrev pub is_container_in_force : Containers → (private : List ℕ) → (number : ℕ) → Bool
is_container_in_force containers private number =
    nat_lt number (length containers) && (not (is_private (container_at containers number).kind) || has_number private number)

-- the stream of a consume scope is
abbrev pub is_stream_in_force : Containers → (private : List ℕ) → Thing → Bool
is_stream_in_force containers private whole = true
is_stream_in_force containers private (leaving items exits) = true
is_stream_in_force containers private (doing (task code ins outs)) = true
is_stream_in_force containers private (doing (map_scope sequential params own body)) = true
is_stream_in_force containers private (doing (consume_scope stream element own body)) = is_container_in_force containers private stream
is_stream_in_force containers private (doing (nested_graph inner links)) = true
is_stream_in_force containers private (doing (reduction resolution axis identity from to)) = true
is_stream_in_force containers private (doing (copy from to)) = true

-- those that a scope makes its own
abbrev pub held_by : KindTree → List ℕ
held_by (task code ins outs) = []
held_by (map_scope sequential params private body) = private
held_by (consume_scope stream element private body) = element ∷ private
held_by (nested_graph inner links) = []
held_by (reduction resolution axis identity from to) = []
held_by (copy from to) = []

abbrev pub held_at : Thing → List ℕ
held_at whole = []
held_at (leaving items exits) = []
held_at (doing kind) = held_by kind

abbrev mutual
  -- those that the scopes among items make their own
  pub held_in_kind : KindTree → List ℕ
  held_in_kind (task code ins outs) = []
  held_in_kind (map_scope sequential params private body) = private ++ held_in body
  held_in_kind (consume_scope stream element private body) = (element ∷ private) ++ held_in body
  held_in_kind (nested_graph inner links) = []
  held_in_kind (reduction resolution axis identity from to) = []
  held_in_kind (copy from to) = []

  pub held_in : ItemTrees → List ℕ
  held_in no_item = []
  held_in (and_item line kind items) = held_in_kind kind ++ held_in items

abbrev pub held_in_states : StateTrees → List ℕ
held_in_states no_state = []
held_in_states (and_state items exits states) = held_in items ++ held_in_states states

-- each private container of a graph is that of a scope
abbrev pub is_private_held : Containers → (held : List ℕ) → (number : ℕ) → Bool
is_private_held containers held number = not (is_private (container_at containers number).kind) || has_number held number

abbrev pub are_private_held : GraphTree → Bool
are_private_held (graph name containers arguments variables symbols states) =
    list_all (is_private_held containers (held_in_states states)) (numbers_below (length containers))

-- the one constant extent 1
abbrev pub is_one : List Affine → Bool
is_one [] = false
is_one (extent ∷ extents) = (int_eq extent.constant (pos 1) && is_empty extent.terms) && is_empty extents

-- the element of a consume scope is a private array with one element
abbrev pub is_element : Container → Bool
is_element container = (is_private container.kind && not (is_stream container.kind)) && is_one container.extents

-- a private container that the graph has
abbrev pub is_own : Containers → (number : ℕ) → Bool
is_own containers number = nat_lt number (length containers) && is_private (container_at containers number).kind

-- what a scope makes its own is there and private, and the element of a consume scope is one
abbrev pub are_own_private : Containers → Thing → Bool
are_own_private containers whole = true
are_own_private containers (leaving items exits) = true
are_own_private containers (doing (task code ins outs)) = true
are_own_private containers (doing (map_scope sequential params private body)) = list_all (is_own containers) private
are_own_private containers (doing (consume_scope stream element private body)) =
    is_element (container_at containers element) && list_all (is_own containers) private
are_own_private containers (doing (nested_graph inner links)) = true
are_own_private containers (doing (reduction resolution axis identity from to)) = true
are_own_private containers (doing (copy from to)) = true

-- ---- variables

-- the graph has the variable
abbrev pub is_there : GraphTree → (variable : ℕ) → Bool
is_there tree variable = nat_lt variable (length (variables_of tree))

-- a size symbol, a parameter of a scope about the place, or a loop variable that is in force in its state
abbrev pub is_variable_in_force : Place → (variable : ℕ) → Bool
is_variable_in_force place variable =
    is_there place.graph variable
    && (nat_lt variable (symbols_in place.graph) || (has_number place.scopes.params variable || has_number place.loops variable))

-- the parameters of a map
abbrev pub params_at : Thing → List ℕ
params_at whole = []
params_at (leaving items exits) = []
params_at (doing (task code ins outs)) = []
params_at (doing (map_scope sequential params private body)) = param_numbers params
params_at (doing (consume_scope stream element private body)) = []
params_at (doing (nested_graph inner links)) = []
params_at (doing (reduction resolution axis identity from to)) = []
params_at (doing (copy from to)) = []

-- the variables that transitions set
abbrev pub set_at : Thing → List ℕ
set_at whole = []
set_at (leaving items exits) = flat_map (λ exit. map (λ assignment. assignment.0) exit.set) exits
set_at (doing kind) = []

-- ---- size symbols

-- a variable is none of the size symbols, which are the first variables
abbrev pub is_no_symbol : (symbols variable : ℕ) → Bool
is_no_symbol symbols variable = not (nat_lt variable symbols)

-- a graph as a whole has so many variables as it has size symbols, or more, and no parameter is one of them
abbrev pub are_symbols_apart : GraphTree → Thing → Bool
are_symbols_apart tree whole = nat_le (symbols_in tree) (length (variables_of tree))
are_symbols_apart tree (leaving items exits) = true
are_symbols_apart tree (doing kind) = list_all (is_no_symbol (symbols_in tree)) (params_at (doing kind))

-- ---- places together

-- the places that are of the same graph as this one
abbrev pub of_graph : (before : List Place) → Place → List Place
of_graph before place = filter (λ other. bytes_eq other.graph_path place.graph_path) before

-- the numbers that stand at places, one after another
abbrev pub numbers_at : (Thing → List ℕ) → List Place → List ℕ
numbers_at numbers places = flat_map (λ place. numbers place.thing) places

-- each of the numbers is none of those, and they are there once
abbrev pub are_new : (known : List ℕ) → List ℕ → Bool
are_new known [] = true
are_new known (number ∷ numbers) = not (has_number known number) && are_new (known ++ number ∷ []) numbers

-- none of the numbers is one of those
abbrev pub are_apart : (known : List ℕ) → List ℕ → Bool
are_apart known numbers = list_all (λ number. not (has_number known number)) numbers

-- no container is made its own by two scopes, no variable is twice a parameter, and none is a parameter and set by a transition
abbrev pub are_single : (earlier : List Place) → Thing → Bool
are_single earlier thing =
    (are_new (numbers_at held_at earlier) (held_at thing)
    && are_new (numbers_at params_at earlier ++ numbers_at set_at earlier) (params_at thing))
    && are_apart (numbers_at params_at earlier) (set_at thing)

-- ---- the rule

-- the graph as a whole has no private container without a scope
abbrev pub is_each_held : GraphTree → Thing → Bool
is_each_held tree whole = are_private_held tree
is_each_held tree (leaving items exits) = true
is_each_held tree (doing kind) = true

-- a link's container, and the variables of expressions and code
abbrev pub names_tests : Place → Tests
names_tests place = record {
  link = λ link. is_container_in_force (containers_of place.graph) place.scopes.private (container_of link);
  range = λ range. true;
  expression = λ a. list_all (λ term. is_variable_in_force place term.0) a.terms;
  code = λ code. list_all (is_variable_in_force place) code.variables;
}

-- what is given a value is there
abbrev pub are_given_there : Place → Bool
are_given_there place = list_all (is_there place.graph) (params_at place.thing) && list_all (is_there place.graph) (set_at place.thing)

-- what is named is in force, and what is given a value is there
abbrev pub are_names_in_force : Place → Bool
are_names_in_force place =
    (is_thing_passed (names_tests place) place.thing && is_stream_in_force (containers_of place.graph) place.scopes.private place.thing)
    && are_given_there place

abbrev pub rule_1 : (before : List Place) → Place → Bool
rule_1 before place =
    (are_names_in_force place && (is_each_held place.graph place.thing && are_symbols_apart place.graph place.thing))
    && (are_own_private (containers_of place.graph) place.thing && are_single (of_graph before place) place.thing)
