-- Rule 7: the limits.
use Rattle.std.specs.Prelude.{ℕ, ◌+◌, ◌^◌, nat_lt, nat_le, pos, int_le, int_lt, unsigned_abs, List, [], ◌∷◌, map, length, Bool, true, false, not, ◌&&◌, ◌||◌, if◌then◌else◌, Option, Some, None, Result, Ok, Err, slice_index_or}
use Rattle.std.specs.List.{list_all, sum}
use Rattle.sd_range.specs.Weight.{weight_of}
use Rattle.sd_range.specs.Arithmetic.{affine_zero, affine_sum, affine_difference, affine_product}
use Rattle.sd_range.specs.declared.affine.Affine.{Affine}
use Rattle.sd_range.specs.declared.range.Range.{Range}
use Rattle.sd_graph.specs.PlainTree.{ValueTree, literal, variable, local, input, one, two, choice, KindTree, task, map_scope, consume_scope, nested_graph, reduction, copy, GraphTree, GuardTree, ExitTree}
use Rattle.sd_graph.specs.TreeParts.{containers_of, states_of_graph, count_states}
use Rattle.sd_graph.specs.ContainerParts.{Containers, is_stream}
use Rattle.sd_graph.specs.Wiring.{has_number}
use Rattle.sd_graph.specs.declared.container.Container.{Container}
use Rattle.sd_graph.specs.declared.operator.TwoSign.{TwoSign}
use Rattle.sd_graph.specs.declared.operator.TwoSign.TheVariants.{Add, Sub, Mul}
use Rattle.sd_valid.specs.Limits.{elements_in, tally}
use Rattle.sd_wire.specs.wiring.Listing.{nodes_of}
use Rattle.sd_validity.specs.rules.Places.{Thing, whole, leaving, doing, Place, param_numbers}
use Rattle.sd_validity.specs.rules.Parts.{is_empty, Tests, is_thing_passed}
use Rattle.sd_validity.specs.rules.Transitions.{has_numbers_only}
use Rattle.sd_validity.specs.rules.Ranks.{begun_at, is_ranked}
use Rattle.sd_validity.specs.rules.CodeSize.{is_code_small}
use Rattle.sd_validity.specs.rules.Compared.{Comparison, compared}

-- from one number to another
abbrev pub is_within : (least most : ℕ) → ℕ → Bool
is_within least most number = nat_le least number && nat_le number most

-- ---- expressions

-- the constant is below 2^41, the coefficients are 2^10 together
abbrev pub is_small : Affine → Bool
is_small a = nat_lt (unsigned_abs a.constant) (2 ^ 41) && nat_le (weight_of a.terms) (2 ^ 10)

abbrev pub is_range_small : Range → Bool
is_range_small range = is_within 1 4 (length range.ends) && (int_le (pos 1) range.step && int_lt range.step (pos (2 ^ 40)))

-- two affine values joined by a sign
abbrev pub affine_joined : TwoSign → (is_left_constant : Bool) → (left right : Affine) → Affine
affine_joined Add constant left right = affine_sum left right
affine_joined Sub constant left right = affine_difference left right
affine_joined Mul constant left right = if constant then affine_product left.constant right else affine_product right.constant left
affine_joined sign constant left right = affine_zero

-- an affine value as an expression
abbrev pub affine_of : (variables : List ℕ) → ValueTree → Affine
affine_of variables (literal number) = record { constant = number; terms = [] }
affine_of variables (variable place) = record { constant = pos 0; terms = (slice_index_or variables place 0, pos 1) ∷ [] }
affine_of variables (local number) = affine_zero
affine_of variables (input connector at) = affine_zero
affine_of variables (one sign of) = affine_difference affine_zero (affine_of variables of)
affine_of variables (two sign left right) = affine_joined sign (has_numbers_only left) (affine_of variables left) (affine_of variables right)
affine_of variables (choice value when other) = affine_zero

-- an affine value and each part of it are small
abbrev pub is_value_small : (variables : List ℕ) → ValueTree → Bool
is_value_small variables (literal number) = is_small (affine_of variables (literal number))
is_value_small variables (variable place) = true
is_value_small variables (local number) = true
is_value_small variables (input connector at) = true
is_value_small variables (one sign of) = is_value_small variables of
is_value_small variables (two sign left right) =
    is_small (affine_of variables (two sign left right)) && (is_value_small variables left && is_value_small variables right)
is_value_small variables (choice value when other) = true

-- a comparison of one of these variables with an end: the end is small
abbrev pub is_end_small : (begun : List ℕ) → (variables : List ℕ) → Option Comparison → Bool
is_end_small begun variables None = true
is_end_small begun variables (Some comparison) =
    not (has_number begun (slice_index_or variables comparison.place 0)) || is_value_small variables comparison.bound

abbrev pub is_condition_small : (begun : List ℕ) → Option GuardTree → Bool
is_condition_small begun None = true
is_condition_small begun (Some guard) = is_end_small begun guard.code.variables (compared guard.code.body)

-- ---- graphs

-- an array has 1 to 4 dimensions, a stream none
abbrev pub is_container_small : Container → Bool
is_container_small container = if is_stream container.kind then is_empty container.extents else is_within 1 4 (length container.extents)

-- the elements of containers
abbrev pub elements_of : Containers → ℕ
elements_of containers = sum (map (λ entry. elements_in entry.1) containers)

-- those of a graph as a whole
abbrev pub elements_at : GraphTree → Thing → ℕ
elements_at tree whole = elements_of (containers_of tree)
elements_at tree (leaving items exits) = 0
elements_at tree (doing kind) = 0

-- the counting of elements was not over a limit
abbrev pub is_counted : Result ℕ (List ℕ) → Bool
is_counted (Ok total) = true
is_counted (Err name) = false

-- the containers of a graph, behind others of so many elements in all
abbrev pub are_containers_small : Containers → (before : ℕ) → Bool
are_containers_small containers before =
    (nat_le (length containers) 256 && list_all (λ entry. is_container_small entry.1) containers)
    && (list_all (λ entry. list_all is_small entry.1.extents) containers && is_counted (tally before containers))

-- 1 to 256 states, and at most 8 graphs about it
abbrev pub is_graph_small : GraphTree → (depth : ℕ) → (before : ℕ) → Bool
is_graph_small tree depth before =
    (is_within 1 256 (count_states (states_of_graph tree)) && nat_le depth 8) && are_containers_small (containers_of tree) before

-- ---- states

-- the nodes of a state
abbrev pub nodes_at : GraphTree → Thing → ℕ
nodes_at tree whole = 0
nodes_at tree (leaving items exits) = length (nodes_of (containers_of tree) items)
nodes_at tree (doing kind) = 0

-- 1,024 nodes, 65,536 with those of the states before; the ends of loops that begin there, and the ranks of their variables
abbrev pub is_state_small : Place → (nodes before : ℕ) → List ExitTree → Bool
is_state_small place nodes before exits =
    (nat_le nodes 1024 && nat_le (before + nodes) 65536)
    && (list_all (λ exit. is_condition_small (begun_at (states_of_graph place.graph) place.state) exit.when) exits
    && list_all (is_ranked place.ranks) (begun_at (states_of_graph place.graph) place.state))

-- ---- items

-- a map has 1 to 8 parameters, which have a rank
abbrev pub are_params_small : (ranks : List Bool) → List (ℕ × Range) → Bool
are_params_small ranks params = is_within 1 8 (length params) && list_all (is_ranked ranks) (param_numbers params)

abbrev pub has_small_params : (ranks : List Bool) → KindTree → Bool
has_small_params ranks (task code ins outs) = true
has_small_params ranks (map_scope sequential params private body) = are_params_small ranks params
has_small_params ranks (consume_scope stream element private body) = true
has_small_params ranks (nested_graph inner links) = true
has_small_params ranks (reduction resolution axis identity from to) = true
has_small_params ranks (copy from to) = true

-- at most 7 scopes and loops about it
abbrev pub is_item_small : Place → KindTree → Bool
is_item_small place kind = nat_le (place.scopes.count + place.loop_count) 7 && has_small_params place.ranks kind

-- ---- the rule

-- the elements, and the nodes, of these places
abbrev pub elements_among : List Place → ℕ
elements_among places = sum (map (λ other. elements_at other.graph other.thing) places)

abbrev pub nodes_among : List Place → ℕ
nodes_among places = sum (map (λ other. nodes_at other.graph other.thing) places)

-- what is asked of a graph, a state or an item, behind places with so many elements and nodes
abbrev pub is_thing_small : (elements nodes : ℕ) → Place → Thing → Bool
is_thing_small elements nodes place whole = is_graph_small place.graph place.depth elements
is_thing_small elements nodes place (leaving items exits) = is_state_small place (nodes_at place.graph (leaving items exits)) nodes exits
is_thing_small elements nodes place (doing kind) = is_item_small place kind

-- ranges, expressions and code are small
abbrev pub limits_tests : Tests
limits_tests = record { link = λ link. true; range = is_range_small; expression = is_small; code = is_code_small }

abbrev pub is_place_small : (elements nodes : ℕ) → Place → Bool
is_place_small elements nodes place = is_thing_small elements nodes place place.thing && is_thing_passed limits_tests place.thing

abbrev pub rule_7 : (before : List Place) → Place → Bool
rule_7 before place = is_place_small (elements_among before) (nodes_among before) place
