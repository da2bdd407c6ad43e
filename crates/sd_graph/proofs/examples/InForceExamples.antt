-- Graphs whose containers are in force where they are named, and graphs in which they are not.
use Rattle.std.proofs.Common.{◌≡◌, ◌⊎◌, inl, inr, ℕ, ◌<◌, ℤ, pos, List, [], ◌∷◌, Some, None, Bool, true, false, refl, arith, codes}
use Rattle.sd_num.specs.declared.resolution.Resolution.TheVariants.{Sum}
use Rattle.sd_range.specs.declared.subset.Dim.TheVariants.{Index, Span}
use Rattle.sd_num.specs.declared.width.Width.TheVariants.{W64}
use Rattle.sd_work.specs.Memory.{array, stream, Reference}
use Rattle.sd_work.specs.Touch.{reads}
use Rattle.sd_graph.specs.PlainTree.{input, no_value, assign, no_act, and_act, KindTree, task, map_scope, consume_scope, nested_graph, reduction, copy, ItemTrees, no_item, and_item, no_state, and_state, GraphTree, graph, ExitTree, TaskletTree}
use Rattle.sd_graph.specs.ContainerParts.{Containers}
use Rattle.sd_graph.specs.Unfold.{run_of, opening_memory}
use Rattle.sd_graph.specs.There.{TouchesWhatIsThere}
use Rattle.sd_graph.specs.InForce.{IsInForce, IsElement, AreContainersInForce}
use Rattle.sd_graph.specs.InPlace.{ArgumentsComeFirst, HasStreamsInPlace, IsLinked}
use Rattle.sd_graph.specs.GraphMemory.{AreContentsOf, IsMemoryOf}
use Rattle.sd_graph.specs.declared.container.ContainerKind.TheVariants.{Argument, Transient, Private, PrivateStream}
use Rattle.sd_graph.specs.declared.link.Link.{Link}
use Rattle.sd_graph.proofs.UnfoldedThere.{run_there}
use Rattle.sd_graph.proofs.examples.ThereExamples.{no_element}
use Rattle.sd_graph.proofs.examples.ExampleParts.{constant, range_of, link_of, port_of, code_of, container_of, condition_of, transition}

false_is_true : false ≡ true → ⊥
false_is_true e = cc

true_is_false : true ≡ false → ⊥
true_is_false e = cc

two_numbers : (m n : ℕ) → (m < n) ⊎ (n < m) → m ≡ n → ⊥
two_numbers m n (inl less) e = absurd (omega (arith, less, e))
two_numbers m n (inr more) e = absurd (omega (arith, more, e))

-- ---- one graph with every kind of item

-- an argument, a transient, and the private array, stream and element of a scope
abbrev containers : Containers
containers =
    (codes "A", container_of (constant (pos 2) ∷ []) Argument)
    ∷ (codes "T", container_of (constant (pos 1) ∷ []) Transient)
    ∷ (codes "P", container_of (constant (pos 2) ∷ []) Private)
    ∷ (codes "S", container_of [] PrivateStream)
    ∷ (codes "e", container_of (constant (pos 1) ∷ []) Private)
    ∷ []

-- the first element of a container
abbrev first_of : (container : ℕ) → Link
first_of container = link_of (codes "c") container (Index (constant (pos 0)) ∷ []) None

-- a stream
abbrev into : (container : ℕ) → Link
into container = link_of (codes "s") container [] None

-- code that moves its one input to its one output
abbrev moves_one : TaskletTree
moves_one = code_of (port_of (codes "i") 0 ∷ []) (port_of (codes "o") 0 ∷ []) [] 0 (and_act (assign 1 no_value (input 0 no_value)) no_act)

-- a tasklet from one container to another
abbrev from_to : (from to : Link) → KindTree
from_to from to = task moves_one (from ∷ []) (to ∷ [])

-- two points, with these private containers
abbrev map_with : (private : List ℕ) → ItemTrees → KindTree
map_with private body = map_scope false ((0, range_of (constant (pos 0)) (constant (pos 1) ∷ []) (pos 1)) ∷ []) private body

abbrev one_item : KindTree → ItemTrees
one_item kind = and_item 1 kind no_item

-- a transition to the next state where the first element of this container is not 0
abbrev where_first : (container : ℕ) → List ExitTree
where_first container = transition 1 false (Some (condition_of 2 (first_of container ∷ []) moves_one)) [] ∷ []

-- a graph of these containers, the first of which is its argument, with one state
abbrev graph_of : ItemTrees → List ExitTree → GraphTree
graph_of items exits = graph (codes "g") containers 1 (codes "i" ∷ []) 0 (and_state items exits no_state)

-- a graph that copies its argument into its transient
abbrev inner_graph : GraphTree
inner_graph = graph_of (one_item (copy (first_of 0) (first_of 1))) []

-- the argument into a private array, from there into a private stream, and each value of that into the array of the scope around
abbrev scope_body : ItemTrees
scope_body =
    and_item 3 (from_to (first_of 0) (first_of 2))
    (and_item 4 (from_to (first_of 2) (into 3))
    (one_item (consume_scope 3 4 [] (one_item (from_to (first_of 4) (first_of 2))))))

-- the scope, a nested graph, a reduction, and a condition
abbrev whole_graph : GraphTree
whole_graph =
    graph_of (and_item 5 (map_with (2 ∷ 3 ∷ []) scope_body)
    (and_item 6 (nested_graph inner_graph (link_of (codes "A") 0 (Span (range_of (constant (pos 0)) (constant (pos 1) ∷ []) (pos 1)) ∷ []) None ∷ []))
    (one_item (reduction Sum None None (first_of 0) (first_of 1))))) (where_first 1)

its_argument : (private : List ℕ) → IsInForce containers private 0
its_argument private = (omega arith, inl refl)

its_transient : (private : List ℕ) → IsInForce containers private 1
its_transient private = (omega arith, inl refl)

inner_containers_are_in_force : AreContainersInForce inner_graph
inner_containers_are_in_force = (((its_argument [], (its_transient [], tt)), tt), tt, tt)

its_containers_are_in_force : AreContainersInForce whole_graph
its_containers_are_in_force = (
  (
    (
      ((its_argument (2 ∷ 3 ∷ []), tt), ((omega arith, inr refl), tt)),
      (
        (((omega arith, inr refl), tt), ((omega arith, inr refl), tt)),
        (((omega arith, inr refl), (refl, refl), ((((omega arith, inr refl), tt), ((omega arith, inr refl), tt)), tt)), tt),
      ),
    ),
    (((its_argument [], tt), inner_containers_are_in_force), ((its_argument [], (its_transient [], tt)), tt)),
  ),
  ((its_transient [], tt), tt),
  tt,
)

inner_streams_are_in_place : HasStreamsInPlace inner_graph
inner_streams_are_in_place = (((refl, (refl, tt)), tt), tt, tt)

its_streams_are_in_place : HasStreamsInPlace whole_graph
its_streams_are_in_place = (
  (((refl, tt), ((refl, tt), ((refl, ((refl, tt), tt)), tt))), (((refl, tt), inner_streams_are_in_place), ((refl, (refl, tt)), tt))),
  ((refl, tt), tt),
  tt,
)

the_argument_comes_first : ArgumentsComeFirst 1 containers
the_argument_comes_first = (refl, (refl, (refl, (refl, (refl, tt)))))

inner_is_linked : IsLinked inner_graph
inner_is_linked = (the_argument_comes_first, ((tt, tt), tt))

it_is_linked : IsLinked whole_graph
it_is_linked = (the_argument_comes_first, (((tt, (tt, ((tt, tt), tt))), ((refl, inner_is_linked), (tt, tt))), tt))

abbrev given : List (List ℤ)
given = (pos 5 ∷ pos 6 ∷ []) ∷ []

its_memory : IsMemoryOf whole_graph (opening_memory whole_graph given)
its_memory = (inr (refl, refl, refl), (inr (refl, refl, refl), (inl refl, (inl refl, (inl refl, tt)))))

-- so its run touches what is there
it_touches_what_is_there : TouchesWhatIsThere [] (run_of whole_graph (opening_memory whole_graph given))
it_touches_what_is_there = run_there whole_graph (opening_memory whole_graph given) its_containers_are_in_force its_streams_are_in_place it_is_linked its_memory

-- ---- containers that are not in force

none_passes : {A : Type 0} (first second : Bool) → first ≡ true → second ≡ false → (first ≡ false) ⊎ (second ≡ true) → A
none_passes true true e h passes = cc
none_passes true false e h (inl passes) = cc
none_passes true false e h (inr passes) = cc
none_passes false second e h passes = cc

-- a container of a scope is named outside of it
abbrev outside_graph : GraphTree
outside_graph = graph_of (and_item 5 (map_with (2 ∷ []) (one_item (from_to (first_of 0) (first_of 2)))) (one_item (copy (first_of 2) (first_of 1)))) []

a_private_container_is_named_outside : AreContainersInForce outside_graph → ⊥
a_private_container_is_named_outside force = none_passes true false refl refl force.0.1.0.0.1

-- and then its run reads an element that is not there
an_element_is_read_that_is_not_there : TouchesWhatIsThere [] (run_of outside_graph (opening_memory outside_graph given)) → ⊥
an_element_is_read_that_is_not_there there =
    let missing : Reference = record { level = 0; container = 2; element = 0 } in
    no_element (opening_memory outside_graph given ∷ []) missing (opening_memory outside_graph given) [] refl refl (omega arith)
    ((there.1 0 []).1.0 (reads missing) (inl (inl refl)))

-- a list of another scope
a_container_of_the_scope_beside_is_named :
    AreContainersInForce (graph_of (and_item 5 (map_with (2 ∷ []) no_item) (one_item (map_with [] (one_item (from_to (first_of 0) (first_of 2)))))) []) → ⊥
a_container_of_the_scope_beside_is_named force = none_passes true false refl refl force.0.1.0.0.1.0.1

a_number_has_no_container : AreContainersInForce (graph_of (one_item (copy (first_of 0) (first_of 5))) []) → ⊥
a_number_has_no_container force = absurd (omega (arith, force.0.0.1.0.0))

-- nor has a list of private containers made one
nor_is_it_in_force_where_a_list_has_it : AreContainersInForce (graph_of (one_item (map_with (5 ∷ []) (one_item (from_to (first_of 0) (first_of 5))))) []) → ⊥
nor_is_it_in_force_where_a_list_has_it force = absurd (omega (arith, force.0.0.0.1.0.0))

a_condition_reads_a_private_container : AreContainersInForce (graph_of (one_item (map_with (2 ∷ []) no_item)) (where_first 2)) → ⊥
a_condition_reads_a_private_container force = none_passes true false refl refl force.1.0.0.1

a_nested_graph_names_a_private_container : AreContainersInForce (graph_of (one_item (map_with (2 ∷ []) (one_item (nested_graph outside_graph (first_of 0 ∷ []))))) []) → ⊥
a_nested_graph_names_a_private_container force = a_private_container_is_named_outside force.0.0.0.1

a_link_names_a_private_container : AreContainersInForce (graph_of (one_item (nested_graph inner_graph (first_of 2 ∷ []))) []) → ⊥
a_link_names_a_private_container force = none_passes true false refl refl force.0.0.0.0.1

-- what a scope has is not in force in a graph that is nested in it
a_nested_graph_names_what_the_scope_has : AreContainersInForce (graph_of (one_item (map_with (2 ∷ []) (one_item (nested_graph (graph_of (one_item (copy (first_of 0) (first_of 2))) []) (first_of 0 ∷ []))))) []) → ⊥
a_nested_graph_names_what_the_scope_has force = none_passes true false refl refl force.0.0.0.1.0.0.1.0.1

a_private_stream_is_consumed_outside : AreContainersInForce (graph_of (one_item (consume_scope 3 4 (3 ∷ []) no_item)) []) → ⊥
a_private_stream_is_consumed_outside force = none_passes true false refl refl force.0.0.0.1

an_element_has_one_element : IsElement containers 4 × (IsElement containers 2 → ⊥)
an_element_has_one_element = ((refl, refl), λ element. two_numbers 2 1 (inr (omega arith)) (heads 2 1 element.1))
  where
    heads : (m n : ℕ) → m ∷ [] ≡ n ∷ [] → m ≡ n
    heads m n e = cc

an_element_is_private : IsElement containers 1 → ⊥
an_element_is_private element = not_private element.0
  where
    not_private : Transient ≡ Private → ⊥
    not_private e = cc

-- ---- streams that are not in their place

a_tasklet_reads_a_stream : HasStreamsInPlace (graph_of (one_item (from_to (into 3) (first_of 0))) []) → ⊥
a_tasklet_reads_a_stream streams = true_is_false streams.0.0.0

a_condition_reads_a_stream : HasStreamsInPlace (graph_of no_item (where_first 3)) → ⊥
a_condition_reads_a_stream streams = true_is_false streams.1.0.0

a_stream_is_copied : HasStreamsInPlace (graph_of (one_item (copy (into 3) (first_of 0))) []) → ⊥
a_stream_is_copied streams = true_is_false streams.0.0.0

a_stream_is_copied_into : HasStreamsInPlace (graph_of (one_item (copy (first_of 0) (into 3))) []) → ⊥
a_stream_is_copied_into streams = true_is_false streams.0.0.1.0

a_stream_is_the_target_of_a_reduction : HasStreamsInPlace (graph_of (one_item (reduction Sum None None (first_of 0) (into 3))) []) → ⊥
a_stream_is_the_target_of_a_reduction streams = true_is_false streams.0.0.1.0

a_stream_is_linked : HasStreamsInPlace (graph_of (one_item (nested_graph inner_graph (into 3 ∷ []))) []) → ⊥
a_stream_is_linked streams = true_is_false streams.0.0.0.0

an_array_is_consumed : HasStreamsInPlace (graph_of (one_item (consume_scope 2 4 [] no_item)) []) → ⊥
an_array_is_consumed streams = false_is_true streams.0.0.0

-- ---- links

an_argument_has_no_link : IsLinked (graph_of (one_item (nested_graph inner_graph [])) []) → ⊥
an_argument_has_no_link linked = two_numbers 0 1 (inl (omega arith)) linked.1.0.0.0

a_link_is_for_no_argument : IsLinked (graph_of (one_item (nested_graph inner_graph (first_of 0 ∷ first_of 1 ∷ []))) []) → ⊥
a_link_is_for_no_argument linked = two_numbers 2 1 (inr (omega arith)) linked.1.0.0.0

an_argument_comes_later : ArgumentsComeFirst 1 ((codes "T", container_of [] Transient) ∷ (codes "A", container_of [] Argument) ∷ []) → ⊥
an_argument_comes_later first = false_is_true first.0

an_argument_more : ArgumentsComeFirst 0 containers → ⊥
an_argument_more first = true_is_false first.0

-- ---- memories

an_element_is_missing : AreContentsOf containers (array W64 (pos 5 ∷ []) ∷ array W64 (pos 0 ∷ []) ∷ array W64 [] ∷ array W64 [] ∷ array W64 [] ∷ []) → ⊥
an_element_is_missing of = elim of.0 [ inl private ↦ false_is_true private | inr fits ↦ two_numbers 1 2 (inl (omega arith)) fits.1 ]

an_array_is_given_as_a_stream : AreContentsOf containers (stream W64 [] ∷ array W64 (pos 0 ∷ []) ∷ array W64 [] ∷ array W64 [] ∷ array W64 [] ∷ []) → ⊥
an_array_is_given_as_a_stream of = elim of.0 [ inl private ↦ false_is_true private | inr fits ↦ false_is_true fits.0 ]

a_container_is_missing : AreContentsOf containers (array W64 (pos 5 ∷ pos 6 ∷ []) ∷ []) → ⊥
a_container_is_missing of = of.1
