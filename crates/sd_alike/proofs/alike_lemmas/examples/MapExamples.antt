-- Graphs with a map expanded, collapsed again, and cut into tiles: what they are, and what their runs leave.
use Rattle.std.proofs.Common.{◌≡◌, ℕ, ℤ, pos, List, [], ◌∷◌, None, false, refl, codes, arith}
use Rattle.std.specs.Int.{int_wrap}
use Rattle.std.proofs.lemmas.Int.{ints}
use Rattle.sd_range.specs.declared.range.Range.{Range}
use Rattle.sd_range.specs.declared.subset.Dim.TheVariants.{Index}
use Rattle.sd_num.specs.declared.width.Width.TheVariants.{W64}
use Rattle.sd_work.specs.Memory.{array}
use Rattle.sd_graph.specs.PlainTree.{literal, input, two, no_value, assign, no_act, and_act, TaskletTree, task, map_scope, ItemTrees, no_item, and_item, no_state, and_state, GraphTree, graph}
use Rattle.sd_graph.specs.declared.container.ContainerKind.TheVariants.{Argument}
use Rattle.sd_graph.specs.declared.link.Link.{Link}
use Rattle.sd_graph.specs.declared.operator.TwoSign.TheVariants as signs
use Rattle.sd_graph.proofs.examples.ExampleParts.{constant, affine, range_of, link_of, port_of, code_of, container_of, big_from, done}
use Rattle.sd_alike.specs.alike.Places.{graph_with, GraphLeads}
use Rattle.sd_alike.specs.alike.Maps.{IsCollapsible, collapsed, IsExpandable, expanded}
use Rattle.sd_alike.specs.alike.Tiles.{IsTileable, tiled}

-- one more than an element
abbrev one_more : TaskletTree
one_more = code_of (port_of (codes "a") 0 ∷ []) (port_of (codes "b") 0 ∷ []) [] 0 (and_act (assign 1 no_value (two signs.Add (input 0 no_value) (literal (pos 1)))) no_act)

-- ---- two parameters

abbrev rows : Range
rows = range_of (constant (pos 0)) (constant (pos 1) ∷ []) (pos 1)

abbrev columns : Range
columns = range_of (constant (pos 0)) (constant (pos 2) ∷ []) (pos 1)

abbrev at_both : (container : ℕ) → (connector : List ℕ) → Link
at_both container connector = link_of connector container (Index (affine (pos 0) ((0, pos 1) ∷ [])) ∷ Index (affine (pos 0) ((1, pos 1) ∷ [])) ∷ []) None

abbrev each_element : ItemTrees
each_element = and_item 4 (task one_more (at_both 0 (codes "a") ∷ []) (at_both 1 (codes "b") ∷ [])) no_item

abbrev with_items : ItemTrees → GraphTree
with_items items =
    graph (codes "g") ((codes "A", container_of (constant (pos 2) ∷ constant (pos 3) ∷ []) Argument) ∷ (codes "B", container_of (constant (pos 2) ∷ constant (pos 3) ∷ []) Argument) ∷ []) 2
    (codes "i" ∷ codes "j" ∷ []) 0 (and_state items [] no_state)

abbrev flat : GraphTree
flat = with_items (and_item 3 (map_scope false ((0, rows) ∷ (1, columns) ∷ []) [] each_element) no_item)

abbrev nested_maps : GraphTree
nested_maps = with_items (and_item 3 (map_scope false ((0, rows) ∷ []) [] (and_item 3 (map_scope false ((1, columns) ∷ []) [] each_element) no_item)) no_item)

the_expanded_graph : graph_with expanded [] flat (0 ∷ 0 ∷ []) ≡ nested_maps
the_expanded_graph = refl

the_collapsed_graph : graph_with collapsed [] nested_maps (0 ∷ 0 ∷ []) ≡ flat
the_collapsed_graph = refl

it_is_expandable : GraphLeads IsExpandable flat (0 ∷ 0 ∷ [])
it_is_expandable = record { sequential = false; first = (0, rows); second = (1, columns); others = []; private = []; body = each_element; shape = refl; apart = ((tt, (tt, tt)), tt) }

it_is_collapsible : GraphLeads IsCollapsible nested_maps (0 ∷ 0 ∷ [])
it_is_collapsible = record { outer_sequential = false; inner_sequential = false; outer = (0, rows) ∷ []; inner_line = 3; inner = (1, columns) ∷ []; private = []; body = each_element; shape = refl; apart = ((tt, (tt, tt)), tt) }

abbrev given : List (List ℤ)
given = (pos 1 ∷ pos 2 ∷ pos 3 ∷ pos 4 ∷ pos 5 ∷ pos 6 ∷ []) ∷ (pos 0 ∷ pos 0 ∷ pos 0 ∷ pos 0 ∷ pos 0 ∷ pos 0 ∷ []) ∷ []

what_the_expanded_graph_leaves : big_from (graph_with expanded [] flat (0 ∷ 0 ∷ [])) given 5 10 ≡ big_from flat given 5 10
unfolding int_wrap
what_the_expanded_graph_leaves = refl

-- ---- tiles

abbrev line : Range
line = range_of (constant (pos 0)) (constant (pos 4) ∷ []) (pos 1)

abbrev at_one : (container : ℕ) → (connector : List ℕ) → Link
at_one container connector = link_of connector container (Index (affine (pos 0) ((0, pos 1) ∷ [])) ∷ []) None

abbrev each_of_line : ItemTrees
each_of_line = and_item 4 (task one_more (at_one 0 (codes "a") ∷ []) (at_one 1 (codes "b") ∷ [])) no_item

abbrev on_line : (variables : List (List ℕ)) → ItemTrees → GraphTree
on_line variables items =
    graph (codes "g") ((codes "A", container_of (constant (pos 5) ∷ []) Argument) ∷ (codes "B", container_of (constant (pos 5) ∷ []) Argument) ∷ []) 2 variables 0 (and_state items [] no_state)

abbrev untiled : GraphTree
untiled = on_line (codes "i" ∷ []) (and_item 3 (map_scope false ((0, line) ∷ []) [] each_of_line) no_item)

-- the last tile is cut at the range's end
the_tiled_graph : graph_with (tiled 2) (codes "i$1" ∷ []) untiled (0 ∷ 0 ∷ []) ≡
    on_line (codes "i" ∷ codes "i$1" ∷ [])
    (and_item 3 (map_scope false ((1, range_of (constant (pos 0)) (constant (pos 4) ∷ []) (pos 2)) ∷ []) []
    (and_item 3 (map_scope false ((0, range_of (affine (pos 0) ((1, pos 1) ∷ [])) (constant (pos 4) ∷ affine (pos 1) ((1, pos 1) ∷ []) ∷ []) (pos 1)) ∷ []) [] each_of_line) no_item)) no_item)
the_tiled_graph = refl

it_is_tileable : GraphLeads (IsTileable 2) untiled (0 ∷ 0 ∷ [])
it_is_tileable = record { sequential = false; parameter = 0; range = line; private = []; body = each_of_line; shape = refl; ended = omega arith; rises = omega (arith, ints); sized = omega arith }

abbrev given_line : List (List ℤ)
given_line = (pos 1 ∷ pos 2 ∷ pos 3 ∷ pos 4 ∷ pos 5 ∷ []) ∷ (pos 0 ∷ pos 0 ∷ pos 0 ∷ pos 0 ∷ pos 0 ∷ []) ∷ []

what_the_tiled_graph_leaves : big_from (graph_with (tiled 2) (codes "i$1" ∷ []) untiled (0 ∷ 0 ∷ [])) given_line 5 10 ≡ done (array W64 (pos 1 ∷ pos 2 ∷ pos 3 ∷ pos 4 ∷ pos 5 ∷ []) ∷ array W64 (pos 2 ∷ pos 3 ∷ pos 4 ∷ pos 5 ∷ pos 6 ∷ []) ∷ []) 5
unfolding int_wrap
what_the_tiled_graph_leaves = refl
