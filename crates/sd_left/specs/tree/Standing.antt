-- Of which residual work what is left of a graph's run is, kept as a tree beside the graph.
use Rattle.std.specs.Prelude.{ℕ, zero, suc, ℤ, pos, List, [], ◌∷◌, Bool, true, false, slice_index_or}
use Rattle.sd_work.specs.Memory.{Memory}
use Rattle.sd_work.specs.Residual.{Term, list, owning, nested, ended, Terms, none, also, Actives, idle, busy, Items}
use Rattle.sd_graph.specs.PlainTree.{KindTree, task, map_scope, consume_scope, nested_graph, reduction, copy, ItemTrees, no_item, and_item, no_state, GraphTree, graph}
use Rattle.sd_graph.specs.TreeParts.{containers_of, states_of_graph, items_at}
use Rattle.sd_graph.specs.Context.{Reach, Context, frames_at}
use Rattle.sd_graph.specs.Unfold.{at_point, at_element, element_memory, list_of, reach_inside, unfold_items}
use Rattle.sd_graph.specs.declared.link.Link.{Link}
use Rattle.sd_graph.specs.declared.place.Frame.{Frame}
use Rattle.sd_graph.specs.declared.place.Place.{Place}
use Rattle.sd_mem.specs.machine.Coming.{state_context, state_term, exits_of}

-- ---- items

-- the first item of a list, and those behind it; without one, a map without points in line 0
abbrev pub first_line : ItemTrees → ℕ
first_line no_item = 0
first_line (and_item line kind items) = line

abbrev pub first_kind : ItemTrees → KindTree
first_kind no_item = map_scope false [] [] no_item
first_kind (and_item line kind items) = kind

abbrev pub others : ItemTrees → ItemTrees
others no_item = no_item
others (and_item line kind items) = items

-- the items from a number on
abbrev pub behind : (number : ℕ) → ItemTrees → ItemTrees
behind zero items = items
behind (suc number) items = behind number (others items)

-- the body of a scope
abbrev pub body_of : KindTree → ItemTrees
body_of (task code ins outs) = no_item
body_of (map_scope sequential params private body) = body
body_of (consume_scope stream element private body) = body
body_of (nested_graph inner links) = no_item
body_of (reduction resolution axis identity from to) = no_item
body_of (copy from to) = no_item

-- inside a point of a map, which has these numbers
abbrev pub point_inside : KindTree → Context → (at : List ℤ) → Context
point_inside (task code ins outs) context at = context
point_inside (map_scope sequential params private body) context at = at_point context params private at
point_inside (consume_scope stream element private body) context at = context
point_inside (nested_graph inner links) context at = context
point_inside (reduction resolution axis identity from to) context at = context
point_inside (copy from to) context at = context

-- inside an element of a consume scope, which has this value
abbrev pub element_inside : KindTree → Context → (value : ℤ) → Context
element_inside (task code ins outs) context value = context
element_inside (map_scope sequential params private body) context value = context
element_inside (consume_scope stream element private body) context value = at_element context element private value
element_inside (nested_graph inner links) context value = context
element_inside (reduction resolution axis identity from to) context value = context
element_inside (copy from to) context value = context

-- what a consume scope does with a value
abbrev pub element_term : KindTree → Context → (value : ℤ) → Term Place
element_term (task code ins outs) context value = ended []
element_term (map_scope sequential params private body) context value = ended []
element_term (consume_scope stream element private body) context value =
    owning (element_memory context element private value) (let inside = at_element context element private value in list_of inside body (unfold_items body inside))
element_term (nested_graph inner links) context value = ended []
element_term (reduction resolution axis identity from to) context value = ended []
element_term (copy from to) context value = ended []

-- ---- the tree

-- what is left of an item that stands in a line of a context
abbrev pub ItemLeft : Type 0
ItemLeft = KindTree → (line : ℕ) → Context → Term Place

-- what is left of items that stand in a context, with their numbers, their memory and their order
pub record BodyLeft : Type 0 where
  pub at : List ℤ
  pub own : Memory
  pub order : ℕ → ℕ → Bool
  pub parts : List ItemLeft

-- the same numbers and order with another memory and other parts
abbrev pub with_inside : BodyLeft → Memory × List ItemLeft → BodyLeft
with_inside body inside = record { at = body.at; own = inside.0; order = body.order; parts = inside.1 }

-- what is left of a run of a graph
pub record RunLeft : Type 0 where
  pub state : ℕ
  pub ended : Bool
  pub body : BodyLeft

-- one after another
abbrev pub parts_left : List ItemLeft → ItemTrees → Context → Terms Place
parts_left [] items context = none
parts_left (part ∷ parts) items context = also (part (first_kind items) (first_line items) context) (parts_left parts (others items) context)

-- the items of a body
abbrev pub body_left : BodyLeft → ItemTrees → Context → Term Place
body_left body items context = list Items body.order (parts_left body.parts items context)

-- the points of a map, each with its memory
abbrev pub point_left : BodyLeft → KindTree → Context → Term Place
point_left point kind context = owning point.own (body_left point (body_of kind) (point_inside kind context point.at))

abbrev pub points_left : List BodyLeft → KindTree → Context → Terms Place
points_left [] kind context = none
points_left (point ∷ points) kind context = also (point_left point kind context) (points_left points kind context)

-- the value of an element
abbrev pub value_at : (at : List ℤ) → ℤ
value_at at = slice_index_or at 0 (pos 0)

-- the elements of a consume scope in work
abbrev pub element_left : BodyLeft → KindTree → Context → Term Place
element_left element kind context = owning element.own (body_left element (body_of kind) (element_inside kind context (value_at element.at)))

abbrev pub active_left : List BodyLeft → KindTree → Context → Actives Place
active_left [] kind context = idle
active_left (element ∷ active) kind context = busy (value_at element.at) (element_left element kind context) (active_left active kind context)

-- the items of the state of a run
abbrev pub state_left : RunLeft → GraphTree → (reach : ℕ → Reach) → (around : List Frame) → Term Place
state_left run tree reach around = body_left run.body (items_at (states_of_graph tree) run.state) (state_context tree reach around run.state run.body.at)

-- a run of a graph, which reaches its containers so and has these frames round it: one that goes on, or one that has ended
abbrev pub run_going : (ended : Bool) → RunLeft → GraphTree → (reach : ℕ → Reach) → (around : List Frame) → Term Place
run_going true run tree reach around = ended run.body.own
run_going false run tree reach around =
    nested (state_term tree reach around) (exits_of tree reach around) run.body.own run.state run.body.at (state_left run tree reach around)

abbrev pub run_left : RunLeft → GraphTree → (reach : ℕ → Reach) → (around : List Frame) → Term Place
run_left run tree reach around = run_going run.ended run tree reach around

-- the graph of an item, and how a run of it reaches its containers; without one, a graph without states
abbrev pub inner_graph : KindTree → GraphTree
inner_graph (task code ins outs) = graph [] [] 0 [] 0 no_state
inner_graph (map_scope sequential params private body) = graph [] [] 0 [] 0 no_state
inner_graph (consume_scope stream element private body) = graph [] [] 0 [] 0 no_state
inner_graph (nested_graph inner links) = inner
inner_graph (reduction resolution axis identity from to) = graph [] [] 0 [] 0 no_state
inner_graph (copy from to) = graph [] [] 0 [] 0 no_state

abbrev pub links_of : KindTree → List Link
links_of (task code ins outs) = []
links_of (map_scope sequential params private body) = []
links_of (consume_scope stream element private body) = []
links_of (nested_graph inner links) = links
links_of (reduction resolution axis identity from to) = []
links_of (copy from to) = []

-- a run of an item's graph
abbrev pub nested_left : RunLeft → ItemLeft
nested_left run kind line context = run_left run (inner_graph kind) (reach_inside context (links_of kind) (containers_of (inner_graph kind))) (frames_at context line)
