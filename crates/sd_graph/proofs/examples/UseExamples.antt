-- What items do to which containers, and what conflicts.
use Rattle.std.proofs.Common.{◌≡◌, ℕ, pos, [], ◌∷◌, Option, Some, None, true, false, refl, codes}
use Rattle.sd_num.specs.declared.resolution.Resolution.{Resolution}
use Rattle.sd_num.specs.declared.resolution.Resolution.TheVariants.{Sum, Max, Last}
use Rattle.sd_range.specs.declared.subset.Dim.TheVariants.{Index}
use Rattle.sd_graph.specs.PlainTree.{KindTree, task, map_scope, consume_scope, nested_graph, reduction, copy, no_act, ItemTrees, no_item, and_item, no_state, and_state, GraphTree, graph}
use Rattle.sd_graph.specs.ContainerParts.{Containers}
use Rattle.sd_graph.specs.Mode.{Mode, Read, Write, Resolve, Push, Take, do_conflict, mode_by}
use Rattle.sd_graph.specs.Wiring.{Use, kind_uses, before}
use Rattle.sd_graph.specs.declared.container.ContainerKind.TheVariants.{Argument, Private, Stream}
use Rattle.sd_graph.specs.declared.link.Link.{Link}
use Rattle.sd_graph.proofs.examples.ExampleParts.{constant, link_of, port_of, code_of, container_of, condition_of, transition}

-- two arrays, a stream, and an array and an element of a scope
abbrev containers : Containers
containers =
    (codes "A", container_of (constant (pos 4) ∷ []) Argument) ∷
    (codes "B", container_of (constant (pos 4) ∷ []) Argument) ∷
    (codes "S", container_of [] Stream) ∷
    (codes "T", container_of (constant (pos 4) ∷ []) Private) ∷
    (codes "e", container_of (constant (pos 1) ∷ []) Private) ∷ []

-- the first element of a container
abbrev link_by : Option Resolution → (container : ℕ) → Link
link_by resolution container = link_of (codes "c") container (Index (constant (pos 0)) ∷ []) resolution

abbrev on : (container : ℕ) → Link
on = link_by None

-- a tasklet that reads one container and writes another
abbrev from_into : Link → Link → KindTree
from_into from to = task (code_of (port_of (codes "c") 0 ∷ []) (port_of (codes "c") 0 ∷ []) [] 0 no_act) (from ∷ []) (to ∷ [])

abbrev use_on : Mode → (container : ℕ) → Use
use_on mode container = record { container = container; mode = mode }

-- ---- modes

-- without a resolution, and with the last value, an output writes
the_last_value_is_written : (mode_by None ≡ Write) × (mode_by (Some Last) ≡ Write) × (mode_by (Some Max) ≡ Resolve Max)
the_last_value_is_written = (refl, refl, refl)

-- only two reads, two pushes and two times one resolution do not conflict
what_does_not_conflict :
    (do_conflict Read Read ≡ false) × (do_conflict Push Push ≡ false) × (do_conflict (Resolve Sum) (Resolve Sum) ≡ false)
what_does_not_conflict = (refl, refl, refl)

what_conflicts :
    (do_conflict Write Write ≡ true) × (do_conflict Take Take ≡ true) × (do_conflict (Resolve Sum) (Resolve Max) ≡ true) ×
    (do_conflict Read (Resolve Sum) ≡ true) × (do_conflict Push Take ≡ true) × (do_conflict Write Read ≡ true)
what_conflicts = (refl, refl, refl, refl, refl, refl)

-- ---- items

a_tasklet_reads_and_resolves : kind_uses (from_into (on 0) (link_by (Some Sum) 1)) containers ≡ use_on Read 0 ∷ use_on (Resolve Sum) 1 ∷ []
a_tasklet_reads_and_resolves = refl

-- a resolution into a stream is without effect
a_tasklet_pushes : kind_uses (from_into (on 0) (link_by (Some Sum) 2)) containers ≡ use_on Read 0 ∷ use_on Push 2 ∷ []
a_tasklet_pushes = refl

a_copy_reads_and_writes : kind_uses (copy (on 0) (on 1)) containers ≡ use_on Read 0 ∷ use_on Write 1 ∷ []
a_copy_reads_and_writes = refl

a_reduction_resolves :
    kind_uses (reduction Sum None None (on 0) (on 1)) containers ≡ use_on Read 0 ∷ use_on (Resolve Sum) 1 ∷ []
a_reduction_resolves = refl

a_reduction_with_an_identity_writes :
    kind_uses (reduction Sum None (Some (pos 0)) (on 0) (on 1)) containers ≡ use_on Read 0 ∷ use_on Write 1 ∷ []
a_reduction_with_an_identity_writes = refl

-- what a scope does to its own containers is not seen outside
abbrev body : ItemTrees
body = and_item 2 (from_into (on 4) (on 3)) (and_item 3 (from_into (on 3) (link_by (Some Sum) 1)) no_item)

a_map_hides_its_private_containers :
    kind_uses (map_scope false [] (3 ∷ []) body) containers ≡ use_on Read 4 ∷ use_on (Resolve Sum) 1 ∷ []
a_map_hides_its_private_containers = refl

a_consume_scope_takes_and_hides_its_element :
    kind_uses (consume_scope 2 4 (3 ∷ []) body) containers ≡ use_on Take 2 ∷ use_on (Resolve Sum) 1 ∷ []
a_consume_scope_takes_and_hides_its_element = refl

-- ---- nested graphs

-- five arguments: one is read by a condition, one is resolved twice, one is read and written, one is read in a later
-- state alone, and one is not used
abbrev inner : GraphTree
inner =
    graph (codes "inner")
    ((codes "R", container_of (constant (pos 4) ∷ []) Argument) ∷
    (codes "Q", container_of (constant (pos 4) ∷ []) Argument) ∷
    (codes "X", container_of (constant (pos 4) ∷ []) Argument) ∷
    (codes "L", container_of (constant (pos 4) ∷ []) Argument) ∷
    (codes "N", container_of (constant (pos 4) ∷ []) Argument) ∷ []) 5 [] 0
    (and_state (and_item 1 (from_into (on 2) (link_by (Some Sum) 1)) no_item)
    (transition 1 false (Some (condition_of 2 (on 0 ∷ []) (code_of [] [] [] 0 no_act))) [] ∷ [])
    (and_state (and_item 3 (from_into (on 3) (link_by (Some Sum) 1)) (and_item 4 (from_into (on 3) (link_by (Some Max) 2)) no_item)) [] no_state))

-- each parameter gives its link's container one mode
a_nested_graph_does_what_it_does_to_its_parameters :
    kind_uses (nested_graph inner (on 15 ∷ on 14 ∷ on 13 ∷ on 12 ∷ on 11 ∷ [])) containers
    ≡ use_on Read 15 ∷ use_on (Resolve Sum) 14 ∷ use_on Write 13 ∷ use_on Read 12 ∷ []
a_nested_graph_does_what_it_does_to_its_parameters = refl

-- two resolutions on one container are a write
abbrev two_resolutions : GraphTree
two_resolutions =
    graph (codes "inner") ((codes "X", container_of (constant (pos 4) ∷ []) Argument) ∷ []) 1 [] 0
    (and_state (and_item 1 (reduction Max None None (on 1) (on 0)) (and_item 2 (reduction Sum None None (on 1) (on 0)) no_item)) [] no_state)

two_resolutions_of_a_parameter_are_a_write : kind_uses (nested_graph two_resolutions (on 0 ∷ [])) containers ≡ use_on Write 0 ∷ []
two_resolutions_of_a_parameter_are_a_write = refl

-- ---- order

-- A is copied to B, then A and B are read into T and the stream
abbrev three : ItemTrees
three = and_item 1 (copy (on 0) (on 1)) (and_item 2 (from_into (on 0) (on 3)) (and_item 3 (from_into (on 1) (on 2)) no_item))

-- only what conflicts is in order, and only from the front to the back
items_are_in_order_where_they_conflict :
    (before containers three 0 2 ≡ true) × (before containers three 0 1 ≡ false) × (before containers three 1 2 ≡ false) ×
    (before containers three 2 0 ≡ false) × (before containers three 0 0 ≡ false) × (before containers three 0 3 ≡ false)
items_are_in_order_where_they_conflict = (refl, refl, refl, refl, refl, refl)

-- the first and the third conflict by the second alone
abbrev chain : ItemTrees
chain = and_item 1 (copy (on 0) (on 1)) (and_item 2 (copy (on 1) (on 3)) (and_item 3 (copy (on 3) (on 4)) no_item))

an_order_leads_over_an_item_between : before containers chain 0 2 ≡ true
an_order_leads_over_an_item_between = refl
