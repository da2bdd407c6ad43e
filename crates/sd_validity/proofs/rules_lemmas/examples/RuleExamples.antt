-- A valid graph with a thing of each kind, and each rule broken by hand, with the place that is told.
use Rattle.std.proofs.Common.{◌≡◌, ℕ, pos, List, [], ◌∷◌, Option, Some, None, true, false, refl}
use Rattle.sd_num.specs.declared.resolution.Resolution.TheVariants.{Sum}
use Rattle.sd_num.specs.declared.width.Width.TheVariants.{W64}
use Rattle.sd_range.specs.declared.affine.Affine.{Affine}
use Rattle.sd_range.specs.declared.subset.Dim.TheVariants.{Index, Span}
use Rattle.sd_graph.specs.PlainTree.{literal, local, input, no_value, set_local, assign, branch, no_act, and_act, ExitTree, KindTree, task, map_scope, consume_scope, nested_graph, reduction, copy, ItemTrees, no_item, and_item, StateTrees, no_state, and_state, GraphTree, graph}
use Rattle.sd_graph.specs.declared.container.Container.{Container}
use Rattle.sd_graph.specs.declared.container.ContainerKind.TheVariants.{Argument, Transient, Private, Stream}
use Rattle.sd_validity.specs.rules.Ranks.{ranks_of}
use Rattle.sd_validity.specs.rules.Valid.{invalidity}
use Rattle.sd_validity.proofs.rules_lemmas.examples.ExampleParts.{number, plus, range, span, container, link, code, giving, below, exit, one_item, writing}

-- ---- a valid graph

-- an argument A of 3 elements; B of 2 times 3; R of 1; a stream S; an element of it; an array of a map's points
abbrev containers : List (List ℕ × Container)
containers =
    container (pos 3 ∷ []) Argument ∷ container (pos 2 ∷ pos 3 ∷ []) Transient ∷ container (pos 1 ∷ []) Transient ∷ container [] Stream
    ∷ container (pos 1 ∷ []) Private ∷ container (pos 3 ∷ []) Private ∷ []

-- variable 0 is that of a loop, 1 and 2 are parameters
abbrev names : List (List ℕ)
names = [] ∷ [] ∷ [] ∷ []

-- a graph with these states, one of which has a map over the private array, and a consume scope
abbrev whole_graph : StateTrees → GraphTree
whole_graph states = graph [] containers 1 names 0 states

-- the map writes its private array, the consume scope adds what it takes
abbrev map_item : KindTree
map_item = map_scope false ((1, range (number (pos 0)) (plus 0 (pos 1))) ∷ []) (5 ∷ []) (one_item (writing 5 (plus 1 (pos 0))))

abbrev consume_item : KindTree
consume_item = consume_scope 3 4 [] (one_item (copy (link 4 (Index (number (pos 0)) ∷ [])) (link 2 (Index (number (pos 0)) ∷ []))))

abbrev push_item : KindTree
push_item = task (giving [] 0 [] (literal (pos 7))) [] (link 3 [] ∷ [])

abbrev copy_item : KindTree
copy_item = copy (link 0 (span (pos 0) (pos 2) ∷ [])) (link 1 (Index (number (pos 1)) ∷ span (pos 0) (pos 2) ∷ []))

abbrev reduce_item : KindTree
reduce_item = reduction Sum (Some 0) None (link 1 (span (pos 0) (pos 1) ∷ span (pos 0) (pos 2) ∷ [])) (link 0 (span (pos 0) (pos 2) ∷ []))

-- a graph that writes its parameter of 3 elements
abbrev inner_graph : GraphTree
inner_graph = graph [] (container (pos 3 ∷ []) Argument ∷ []) 1 [] 0 (and_state (one_item (writing 0 (number (pos 2)))) [] no_state)

abbrev nested_item : KindTree
nested_item = nested_graph inner_graph (link 1 (Index (number (pos 0)) ∷ span (pos 0) (pos 2) ∷ []) ∷ [])

-- state 1 is the begin of a loop from 0 to 2, state 2 its block, state 3 comes behind it
abbrev states_with : (block after : ItemTrees) → (entering going leaving closing : ExitTree) → StateTrees
states_with block after entering going leaving closing =
    and_state no_item (entering ∷ [])
    (and_state no_item (going ∷ leaving ∷ [])
    (and_state block (closing ∷ [])
    (and_state after [] no_state)))

abbrev entering : ExitTree
entering = exit 1 false None ((0, number (pos 0)) ∷ [])

abbrev going : ExitTree
going = exit 2 false (Some (below 0 (literal (pos 2)))) []

abbrev leaving : ExitTree
leaving = exit 3 false None []

abbrev closing : ExitTree
closing = exit 1 true None ((0, plus 0 (pos 1)) ∷ [])

abbrev looped : (block after : ItemTrees) → GraphTree
looped block after = whole_graph (states_with block after entering going leaving closing)

abbrev behind_loop : ItemTrees
behind_loop = and_item 3 push_item (and_item 4 consume_item (and_item 5 copy_item (and_item 6 nested_item (and_item 7 reduce_item no_item))))

all_rules_hold : invalidity (looped (one_item map_item) behind_loop) ≡ None
unfolding ranks_of
all_rules_hold = refl

-- ---- broken graphs: the rule and the path that are told

-- an item behind the others, at 3.2
abbrev told : KindTree → Option (ℕ × List ℕ)
told kind = invalidity (looped (one_item map_item) (and_item 3 push_item (and_item 4 consume_item (one_item kind))))

abbrev at_item : (rule : ℕ) → Option (ℕ × List ℕ)
at_item rule = Some (rule, 3 ∷ 2 ∷ [])

-- rule 1
a_container_that_is_not_there : told (writing 9 (number (pos 0))) ≡ at_item 1
a_container_that_is_not_there = refl

a_private_container_outside_of_its_scope : told (writing 5 (number (pos 0))) ≡ at_item 1
a_private_container_outside_of_its_scope = refl

a_parameter_outside_of_its_map : told (writing 0 (plus 1 (pos 0))) ≡ at_item 1
a_parameter_outside_of_its_map = refl

a_loop_variable_outside_of_its_loop : told (writing 0 (plus 0 (pos 0))) ≡ at_item 1
a_loop_variable_outside_of_its_loop = refl

a_private_container_of_no_scope : invalidity (looped no_item behind_loop) ≡ Some (1, [])
a_private_container_of_no_scope = refl

a_private_container_of_two_scopes : told (map_scope false ((2, range (number (pos 0)) (number (pos 1))) ∷ []) (5 ∷ []) no_item) ≡ at_item 1
a_private_container_of_two_scopes = refl

a_container_of_a_scope_that_is_not_private : told (map_scope false ((2, range (number (pos 0)) (number (pos 1))) ∷ []) (1 ∷ []) no_item) ≡ at_item 1
a_container_of_a_scope_that_is_not_private = refl

a_container_of_a_scope_that_is_not_there : told (map_scope false ((2, range (number (pos 0)) (number (pos 1))) ∷ []) (9 ∷ []) no_item) ≡ at_item 1
a_container_of_a_scope_that_is_not_there = refl

an_element_that_is_not_there : told (consume_scope 3 9 [] no_item) ≡ at_item 1
an_element_that_is_not_there = refl

an_element_that_is_not_private : told (consume_scope 3 2 [] no_item) ≡ at_item 1
an_element_that_is_not_private = refl

a_parameter_of_two_maps : told (map_scope false ((1, range (number (pos 0)) (number (pos 1))) ∷ []) [] no_item) ≡ at_item 1
a_parameter_of_two_maps = refl

a_parameter_that_a_transition_sets : told (map_scope false ((0, range (number (pos 0)) (number (pos 1))) ∷ []) [] no_item) ≡ at_item 1
a_parameter_that_a_transition_sets = refl

-- a graph of two variables, of which the first so many are size symbols, with a map of this parameter
abbrev with_symbols : (symbols parameter : ℕ) → GraphTree
with_symbols symbols parameter =
    graph [] [] 0 ([] ∷ [] ∷ []) symbols (and_state (one_item (map_scope false ((parameter, range (number (pos 0)) (number (pos 1))) ∷ []) [] no_item)) [] no_state)

a_parameter_behind_the_size_symbols : invalidity (with_symbols 1 1) ≡ None
unfolding ranks_of
a_parameter_behind_the_size_symbols = refl

a_parameter_that_is_a_size_symbol : invalidity (with_symbols 1 0) ≡ Some (1, 0 ∷ 0 ∷ [])
a_parameter_that_is_a_size_symbol = refl

a_size_symbol_without_a_variable : invalidity (with_symbols 3 1) ≡ Some (1, [])
a_size_symbol_without_a_variable = refl

-- rule 2
an_index_too_few : told (writing 1 (number (pos 0))) ≡ at_item 2
an_index_too_few = refl

a_range_of_two_ends : told (copy (link 0 (Span (record (range (number (pos 0)) (number (pos 2))) { ends = number (pos 2) ∷ number (pos 1) ∷ [] }) ∷ [])) (link 2 (span (pos 0) (pos 2) ∷ []))) ≡ at_item 2
a_range_of_two_ends = refl

a_scalar_of_many_elements : told (task (giving [] 0 [] (literal (pos 7))) [] (link 0 (span (pos 0) (pos 2) ∷ []) ∷ [])) ≡ at_item 2
a_scalar_of_many_elements = refl

an_output_without_a_link : told (task (giving [] 0 [] (literal (pos 7))) [] []) ≡ at_item 2
an_output_without_a_link = refl

an_output_that_is_read : told (task (giving [] 0 [] (input 0 no_value)) [] (link 0 (Index (number (pos 0)) ∷ []) ∷ [])) ≡ at_item 2
an_output_that_is_read = refl

a_local_behind_its_block :
    told (task (code [] (0 ∷ []) [] 1
    (and_act (branch (literal (pos 1)) (and_act (set_local 0 (literal (pos 7))) no_act) no_act) (and_act (assign 0 no_value (local 0)) no_act)))
    [] (link 0 (Index (number (pos 0)) ∷ []) ∷ [])) ≡ at_item 2
a_local_behind_its_block = refl

-- rule 3: transitions of the loop
abbrev told_of : (entering going leaving closing : ExitTree) → Option (ℕ × List ℕ)
told_of entering going leaving closing = invalidity (whole_graph (states_with (one_item map_item) behind_loop entering going leaving closing))

a_transition_to_no_state : told_of entering going (exit 9 false None []) closing ≡ Some (3, 1 ∷ [])
a_transition_to_no_state = refl

a_transition_down_without_a_mark : told_of entering going (exit 0 false None []) closing ≡ Some (3, 1 ∷ [])
a_transition_down_without_a_mark = refl

a_marked_transition_up : told_of (exit 1 true None []) going leaving closing ≡ Some (3, 0 ∷ [])
a_marked_transition_up = refl

a_step_of_nothing : told_of entering going leaving (exit 1 true None ((0, plus 0 (pos 0)) ∷ [])) ≡ Some (3, 2 ∷ [])
a_step_of_nothing = refl

a_loop_without_an_end : told_of entering (exit 2 false None []) leaving closing ≡ Some (3, 0 ∷ [])
a_loop_without_an_end = refl

a_loop_that_is_entered_beside_its_begin : told_of (exit 2 false None []) going leaving closing ≡ Some (3, 2 ∷ [])
a_loop_that_is_entered_beside_its_begin = refl

-- rule 4
a_stream_that_is_copied : told (copy (link 3 []) (link 2 (Index (number (pos 0)) ∷ []))) ≡ at_item 4
a_stream_that_is_copied = refl

an_array_that_is_consumed : invalidity (looped (one_item map_item) (one_item (consume_scope 0 4 [] no_item))) ≡ Some (4, 3 ∷ 0 ∷ [])
an_array_that_is_consumed = refl

-- rule 5
an_argument_without_a_link : told (nested_graph inner_graph []) ≡ at_item 5
an_argument_without_a_link = refl

an_argument_of_another_extent : told (nested_graph inner_graph (link 0 (span (pos 0) (pos 1) ∷ []) ∷ [])) ≡ at_item 5
an_argument_of_another_extent = refl

-- a graph of two parameters of 3 elements, which writes the second
abbrev second_writes : GraphTree
second_writes =
    graph [] (container (pos 3 ∷ []) Argument ∷ container (pos 3 ∷ []) Argument ∷ []) 2 [] 0 (and_state (one_item (writing 1 (number (pos 0)))) [] no_state)

a_container_under_two_names : told (nested_graph second_writes (link 0 (span (pos 0) (pos 2) ∷ []) ∷ link 0 (span (pos 0) (pos 2) ∷ []) ∷ [])) ≡ at_item 5
a_container_under_two_names = refl

-- rule 6
a_copy_onto_itself : told (copy (link 1 (Index (number (pos 0)) ∷ span (pos 0) (pos 2) ∷ [])) (link 1 (Index (number (pos 1)) ∷ span (pos 0) (pos 2) ∷ []))) ≡ at_item 6
a_copy_onto_itself = refl

a_copy_of_another_shape : told (copy (link 0 (span (pos 0) (pos 1) ∷ [])) (link 1 (Index (number (pos 1)) ∷ span (pos 0) (pos 2) ∷ []))) ≡ at_item 6
a_copy_of_another_shape = refl

an_axis_too_many : told (reduction Sum (Some 2) None (link 1 (span (pos 0) (pos 1) ∷ span (pos 0) (pos 2) ∷ [])) (link 0 (span (pos 0) (pos 2) ∷ []))) ≡ at_item 6
an_axis_too_many = refl

a_target_that_keeps_the_axis : told (reduction Sum (Some 1) None (link 1 (span (pos 0) (pos 1) ∷ span (pos 0) (pos 2) ∷ [])) (link 0 (span (pos 0) (pos 2) ∷ []))) ≡ at_item 6
a_target_that_keeps_the_axis = refl

-- rule 7
a_graph_without_a_state : invalidity (graph [] [] 0 [] 0 no_state) ≡ Some (7, [])
a_graph_without_a_state = refl

a_map_without_parameters : told (map_scope false [] [] no_item) ≡ at_item 7
unfolding ranks_of
a_map_without_parameters = refl

a_range_that_does_not_rise : told (map_scope false ((2, record (range (number (pos 0)) (number (pos 1))) { step = pos 0 }) ∷ []) [] no_item) ≡ at_item 7
unfolding ranks_of
a_range_that_does_not_rise = refl

a_constant_too_wide : told (writing 0 (number (pos 2199023255552))) ≡ at_item 7
unfolding ranks_of
a_constant_too_wide = refl

the_widest_constant : told (writing 0 (number (pos 2199023255551))) ≡ None
unfolding ranks_of
the_widest_constant = refl

-- rule 8
abbrev with_symbol : List (List ℕ × Container) → (at : Affine) → GraphTree
with_symbol containers at = graph [] containers 1 ([] ∷ []) 1 (and_state (one_item (writing 0 at)) [] no_state)

a_size_symbol_in_an_index : invalidity (with_symbol (container (pos 3 ∷ []) Argument ∷ []) (plus 0 (pos 0))) ≡ Some (8, 0 ∷ 0 ∷ [])
a_size_symbol_in_an_index = refl

an_extent_that_is_no_constant : invalidity (with_symbol (([], record { extents = plus 0 (pos 0) ∷ []; kind = Argument; width = W64 }) ∷ []) (number (pos 0))) ≡ Some (8, [])
an_extent_that_is_no_constant = refl

-- of two places the first, and of two rules the lowest, wherever its place
abbrev told_two : KindTree → KindTree → Option (ℕ × List ℕ)
told_two first second = invalidity (looped (one_item map_item) (and_item 3 push_item (and_item 4 consume_item (and_item 5 first (one_item second)))))

the_first_place : told_two (copy (link 3 []) (link 2 (Index (number (pos 0)) ∷ []))) (copy (link 3 []) (link 2 (Index (number (pos 0)) ∷ []))) ≡ Some (4, 3 ∷ 2 ∷ [])
the_first_place = refl

the_lowest_rule : told_two (copy (link 3 []) (link 2 (Index (number (pos 0)) ∷ []))) (writing 9 (number (pos 0))) ≡ Some (1, 3 ∷ 3 ∷ [])
the_lowest_rule = refl

-- in a nested graph, whose path is that of its item
in_a_nested_graph :
    told (nested_graph (graph [] (container (pos 3 ∷ []) Argument ∷ []) 1 [] 0 (and_state (one_item (writing 7 (number (pos 2)))) [] no_state)) (link 0 (span (pos 0) (pos 2) ∷ []) ∷ []))
    ≡ Some (1, 3 ∷ 2 ∷ 0 ∷ 0 ∷ [])
in_a_nested_graph = refl

in_the_body_of_a_scope : told (map_scope false ((2, range (number (pos 0)) (number (pos 1))) ∷ []) [] (one_item (writing 5 (plus 2 (pos 0))))) ≡ Some (1, 3 ∷ 2 ∷ 0 ∷ [])
in_the_body_of_a_scope = refl
