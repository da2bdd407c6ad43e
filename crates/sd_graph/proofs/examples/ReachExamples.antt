-- Elements by their indices, connectors' extents, memories, and what transitions set.
use Rattle.std.proofs.Common.{◌≡◌, ℕ, ℤ, pos, negsuc, List, [], ◌∷◌, Option, Some, None, true, false, refl, codes}
use Rattle.std.specs.Int.{int_wrap}
use Rattle.sd_range.specs.declared.subset.Dim.{Dim}
use Rattle.sd_range.specs.declared.subset.Dim.TheVariants.{Index, Span}
use Rattle.sd_num.specs.declared.width.Width.TheVariants.{W64}
use Rattle.sd_work.specs.Memory.{array, stream}
use Rattle.sd_work.specs.Leaf.{write_value}
use Rattle.sd_work.specs.Residual.{ended, list, Points, owning, also, none}
use Rattle.sd_graph.specs.RowOrder.{row_number}
use Rattle.sd_graph.specs.ContainerParts.{Containers, container_at}
use Rattle.sd_graph.specs.TaskletMeaning.{Effect}
use Rattle.sd_graph.specs.Context.{Context, span_counts, index_at, found, own_reach, view, private_memory}
use Rattle.sd_graph.specs.Unfold.{cut, does_hold, exit_of, element_memory, in_any_order, in_graph, map_over, pending_of, pending_through, run_memory, target_place}
use Rattle.sd_graph.specs.declared.link.Link.{Link}
use Rattle.sd_graph.specs.declared.container.ContainerKind.TheVariants.{Argument, Transient, Private, Stream, PrivateStream}
use Rattle.sd_graph.proofs.examples.ExampleParts.{constant, range_of, from_to, of_variable, container_of, transition}

-- ---- indices

the_last_dimension_is_the_fastest : (row_number (2 ∷ 3 ∷ []) (pos 1 ∷ pos 2 ∷ []) ≡ 5) × (row_number (2 ∷ 3 ∷ []) (pos 1 ∷ pos 0 ∷ []) ≡ 3)
the_last_dimension_is_the_fastest = (refl, refl)

-- index 5, then each second one from 1 to 6, then 2 and 3
abbrev dims : List Dim
dims = Index (constant (pos 5)) ∷ Span (range_of (constant (pos 1)) (constant (pos 6) ∷ []) (pos 2)) ∷ Span (from_to (pos 2) (pos 3)) ∷ []

a_connector_has_an_extent_for_each_range : span_counts dims [] ≡ 3 ∷ 2 ∷ []
a_connector_has_an_extent_for_each_range = refl

-- a number that is not given is the range's begin, and one too many is left out
a_place_counts_steps_from_the_begin :
    (index_at dims [] (pos 2 ∷ pos 1 ∷ []) ≡ pos 5 ∷ pos 5 ∷ pos 3 ∷ []) × (index_at dims [] (pos 2 ∷ []) ≡ pos 5 ∷ pos 5 ∷ pos 2 ∷ []) ×
    (index_at dims [] (pos 0 ∷ pos 0 ∷ pos 9 ∷ []) ≡ pos 5 ∷ pos 1 ∷ pos 2 ∷ [])
a_place_counts_steps_from_the_begin = (refl, refl, refl)

an_axis_is_left_out : (target_place (Some 1) (pos 4 ∷ pos 5 ∷ pos 6 ∷ []) ≡ pos 4 ∷ pos 6 ∷ []) × (target_place None (pos 4 ∷ []) ≡ [])
an_axis_is_left_out = (refl, refl)

-- ---- containers of each kind

abbrev containers : Containers
containers =
    (codes "A", container_of (constant (pos 2) ∷ constant (pos 3) ∷ []) Argument) ∷
    (codes "T", container_of (constant (pos 2) ∷ []) Transient) ∷
    (codes "S", container_of [] Stream) ∷
    (codes "P", container_of (constant (pos 1) ∷ []) Private) ∷
    (codes "Q", container_of [] PrivateStream) ∷
    (codes "e", container_of (constant (pos 1) ∷ []) Private) ∷ []

-- only what is inside is found
an_element_is_found_where_its_index_is_inside :
    (found (container_at containers 0) (pos 1 ∷ pos 2 ∷ []) ≡ Some 5) × (found (container_at containers 0) (pos 1 ∷ pos 3 ∷ []) ≡ None) ×
    (found (container_at containers 0) (negsuc 0 ∷ pos 2 ∷ []) ≡ None)
an_element_is_found_where_its_index_is_inside = (refl, refl, refl)

-- T as a view of the second row of A, from its element 1 on; of A's three elements there are two from there
abbrev row : (index : List ℤ) → Option ℕ
row index = (view (container_at containers 1) (record { dims = Index (constant (pos 1)) ∷ Span (from_to (pos 2) (pos 3)) ∷ [] }) [] (own_reach containers 0)).find index

an_element_of_a_view_is_inside_both : (row (pos 0 ∷ []) ≡ Some 5) × (row (pos 1 ∷ []) ≡ None) × (row (negsuc 0 ∷ []) ≡ None)
an_element_of_a_view_is_inside_both = (refl, refl, refl)

-- an effect goes by the link of its output; one on an input's number, or past the outputs, by none
an_effect_goes_by_its_output :
    (context : Context) (link : Link) (at : List ℤ) (value : ℤ) →
    (pending_of context (link ∷ []) (link ∷ []) (record { connector = 0; at = at; value = value }) ≡ write_value value None None) ×
    (pending_of context (link ∷ []) (link ∷ []) (record { connector = 1; at = at; value = value }) ≡ pending_through context link (record { connector = 1; at = at; value = value })) ×
    (pending_of context (link ∷ []) (link ∷ []) (record { connector = 2; at = at; value = value }) ≡ write_value value None None)
an_effect_goes_by_its_output context link at value = (refl, refl, refl)

-- ---- memories have an entry for each container

a_run_has_transients_and_streams : run_memory containers ≡ array W64 [] ∷ array W64 (pos 0 ∷ pos 0 ∷ []) ∷ stream W64 [] ∷ array W64 [] ∷ array W64 [] ∷ array W64 [] ∷ []
a_run_has_transients_and_streams = refl

a_point_has_its_private_containers :
    private_memory containers (3 ∷ 4 ∷ []) ≡ array W64 [] ∷ array W64 [] ∷ array W64 [] ∷ array W64 (pos 0 ∷ []) ∷ stream W64 [] ∷ array W64 [] ∷ []
a_point_has_its_private_containers = refl

-- ---- points, conditions and transitions

abbrev at_values : (first second : ℤ) → Context
at_values first second = in_graph containers [] [] (own_reach containers) [] (first ∷ second ∷ [])

an_element_has_the_value_taken :
    element_memory (at_values (pos 0) (pos 0)) 5 (3 ∷ []) (negsuc 6)
    ≡ array W64 [] ∷ array W64 [] ∷ array W64 [] ∷ array W64 (pos 0 ∷ []) ∷ array W64 [] ∷ array W64 (negsuc 6 ∷ []) ∷ []
unfolding int_wrap
an_element_has_the_value_taken = refl

-- a point has its memory, and the points are no items
a_map_is_a_list_of_points :
    map_over (at_values (pos 0) (pos 0)) false [] (3 ∷ []) (λ inside. ended []) ((pos 1 ∷ []) ∷ [])
    ≡ list Points in_any_order (also (owning (private_memory containers (3 ∷ [])) (ended [])) none)
a_map_is_a_list_of_points = refl

abbrev effect : ℤ → Effect
effect value = record { connector = 0; at = []; value = value }

a_condition_holds_by_its_last_value :
    (does_hold (effect (pos 0) ∷ effect (negsuc 4) ∷ []) ≡ true) × (does_hold (effect (pos 1) ∷ effect (pos 0) ∷ []) ≡ false) ×
    (does_hold [] ≡ false)
a_condition_holds_by_its_last_value = (refl, refl, refl)

values_are_cut_for_each_connector : cut (2 ∷ 0 ∷ 1 ∷ []) (pos 1 ∷ pos 2 ∷ pos 3 ∷ []) ≡ (pos 1 ∷ pos 2 ∷ []) ∷ [] ∷ (pos 3 ∷ []) ∷ []
values_are_cut_for_each_connector = refl

-- two variables change their values
a_transition_sets_its_variables_at_once :
    (exit_of (at_values (pos 7) (pos 8)) (transition 1 false None ((0, of_variable 1) ∷ (1, of_variable 0) ∷ []))).values ≡ pos 8 ∷ pos 7 ∷ []
a_transition_sets_its_variables_at_once = refl
