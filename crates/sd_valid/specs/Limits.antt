-- Limits on the elements of a graph's containers, in a graph in which every extent is a constant.
use Rattle.std.specs.Prelude.{ℕ, ◌+◌, ◌^◌, pos, List, [], ◌∷◌, ◌++◌, Result, Ok, Err, Bool, ◌||◌, if◌then◌else◌, int_lt, nat_lt}
use Rattle.std.specs.List.{list_any}
use Rattle.sd_range.specs.Points.{product}
use Rattle.sd_graph.specs.PlainTree.{KindTree, task, map_scope, consume_scope, nested_graph, reduction, copy, ItemTrees, no_item, and_item, StateTrees, no_state, and_state, GraphTree, graph}
use Rattle.sd_graph.specs.ContainerParts.{Containers, extents_of, is_stream}
use Rattle.sd_graph.specs.declared.container.Container.{Container}

abbrev mutual
  -- the containers of the graphs that are nested in an item, at each call
  pub kind_containers : KindTree → Containers
  kind_containers (task code ins outs) = []
  kind_containers (map_scope sequential params private body) = items_containers body
  kind_containers (consume_scope stream element private body) = items_containers body
  kind_containers (nested_graph inner links) = all_containers inner
  kind_containers (reduction resolution axis identity from to) = []
  kind_containers (copy from to) = []

  pub items_containers : ItemTrees → Containers
  items_containers no_item = []
  items_containers (and_item line kind items) = kind_containers kind ++ items_containers items

  pub states_containers : StateTrees → Containers
  states_containers no_state = []
  states_containers (and_state items exits states) = items_containers items ++ states_containers states

  -- all containers of a graph: its own in order, and then those of its nested graphs in the order of states and items
  pub all_containers : GraphTree → Containers
  all_containers (graph name containers arguments variables symbols states) = containers ++ states_containers states

-- how many elements a container has; a stream has none
abbrev pub elements_in : Container → ℕ
elements_in container = if is_stream container.kind then 0 else product (extents_of container)

-- an extent is negative
abbrev pub has_negative : Container → Bool
has_negative container = list_any (λ extent. int_lt extent.constant (pos 0)) container.extents

-- a container behind others of so many elements is over a limit: it has a negative extent, more than 2^24 elements, or more than 2^26 with the others
abbrev pub is_over : (before : ℕ) → Container → Bool
is_over before container = has_negative container || (nat_lt (2 ^ 24) (elements_in container) || nat_lt (2 ^ 26) (before + elements_in container))

-- how many elements there are with those of these containers, or the name of the first one that is over a limit
abbrev pub tally : (before : ℕ) → Containers → Result ℕ (List ℕ)
tally before [] = Ok before
tally before (entry ∷ entries) = if is_over before entry.1 then Err entry.0 else tally (before + elements_in entry.1) entries
