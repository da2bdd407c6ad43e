-- The items of a list from one on replaced, wherever a path leads.
use Rattle.std.specs.Prelude.{ℕ, zero, suc, List, [], ◌∷◌, ◌++◌, length, if◌then◌else◌}
use Rattle.sd_subset.specs.boxes.Box.{Parameter}
use Rattle.sd_graph.specs.ContainerParts.{Containers}
use Rattle.sd_graph.specs.PlainTree.{KindTree, task, map_scope, consume_scope, nested_graph, reduction, copy, ItemTrees, no_item, and_item, StateTrees, no_state, and_state, GraphTree, graph}
use Rattle.sd_alike.specs.alike.Places.{Replacing, items_then, states_nest}

-- what stands in the place of items in a graph of so many variables, with these containers
abbrev pub Tailing : Type 0
Tailing = (variables : ℕ) → Containers → ItemTrees → ItemTrees

-- the first of them replaced
abbrev pub tail_of : Replacing → Tailing
tail_of replacing variables containers no_item = no_item
tail_of replacing variables containers (and_item line kind items) = items_then (replacing variables line kind) items

-- an item that stays
abbrev pub keep : Replacing
keep variables line kind = and_item line kind no_item

-- the graph with the items replaced from the one on to which the path leads; the graph that has it gets further variables
abbrev mutual
  pub kind_tail : Tailing → (names : List (List ℕ)) → Containers → (variables : ℕ) → KindTree → (path : List ℕ) → KindTree
  kind_tail tailing names containers variables (task code ins outs) path = task code ins outs
  kind_tail tailing names containers variables (map_scope sequential params private body) path = map_scope sequential params private (items_tail tailing names containers variables body path)
  kind_tail tailing names containers variables (consume_scope stream element private body) path = consume_scope stream element private (items_tail tailing names containers variables body path)
  kind_tail tailing names containers variables (nested_graph inner links) path = nested_graph (graph_tail tailing names inner path) links
  kind_tail tailing names containers variables (reduction resolution axis identity from to) path = reduction resolution axis identity from to
  kind_tail tailing names containers variables (copy from to) path = copy from to

  pub items_tail : Tailing → (names : List (List ℕ)) → Containers → (variables : ℕ) → ItemTrees → (path : List ℕ) → ItemTrees
  items_tail tailing names containers variables no_item path = no_item
  items_tail tailing names containers variables (and_item line kind items) [] = and_item line kind items
  items_tail tailing names containers variables (and_item line kind items) (zero ∷ []) = tailing variables containers (and_item line kind items)
  items_tail tailing names containers variables (and_item line kind items) (zero ∷ next ∷ path) = and_item line (kind_tail tailing names containers variables kind (next ∷ path)) items
  items_tail tailing names containers variables (and_item line kind items) (suc number ∷ path) = and_item line kind (items_tail tailing names containers variables items (number ∷ path))

  pub states_tail : Tailing → (names : List (List ℕ)) → Containers → (variables : ℕ) → StateTrees → (path : List ℕ) → StateTrees
  states_tail tailing names containers variables no_state path = no_state
  states_tail tailing names containers variables (and_state items exits states) [] = and_state items exits states
  states_tail tailing names containers variables (and_state items exits states) (zero ∷ path) = and_state (items_tail tailing names containers variables items path) exits states
  states_tail tailing names containers variables (and_state items exits states) (suc number ∷ path) = and_state items exits (states_tail tailing names containers variables states (number ∷ path))

  pub graph_tail : Tailing → (names : List (List ℕ)) → GraphTree → (path : List ℕ) → GraphTree
  graph_tail tailing names (graph name containers arguments variables symbols states) path =
      graph name containers arguments (if states_nest states path then variables else variables ++ names) symbols (states_tail tailing names containers (length variables) states path)

-- what is asked of the items of a list from one on: in a graph with these containers and so many variables, with these parameters in force around them
abbrev pub Asked : Type 1
Asked = Containers → (around : List Parameter) → (variables : ℕ) → ItemTrees → Type 0

-- the path leads to items of which this holds
abbrev mutual
  pub KindLeadsTo : Asked → Containers → (around : List Parameter) → (variables : ℕ) → KindTree → (path : List ℕ) → Type 0
  KindLeadsTo Holds containers around variables (task code ins outs) path = ⊥
  KindLeadsTo Holds containers around variables (map_scope sequential params private body) path = ItemsLeadTo Holds containers (around ++ params) variables body path
  KindLeadsTo Holds containers around variables (consume_scope stream element private body) path = ItemsLeadTo Holds containers around variables body path
  KindLeadsTo Holds containers around variables (nested_graph inner links) path = GraphLeadsTo Holds inner path
  KindLeadsTo Holds containers around variables (reduction resolution axis identity from to) path = ⊥
  KindLeadsTo Holds containers around variables (copy from to) path = ⊥

  pub ItemsLeadTo : Asked → Containers → (around : List Parameter) → (variables : ℕ) → ItemTrees → (path : List ℕ) → Type 0
  ItemsLeadTo Holds containers around variables no_item path = ⊥
  ItemsLeadTo Holds containers around variables (and_item line kind items) [] = ⊥
  ItemsLeadTo Holds containers around variables (and_item line kind items) (zero ∷ []) = Holds containers around variables (and_item line kind items)
  ItemsLeadTo Holds containers around variables (and_item line kind items) (zero ∷ next ∷ path) = KindLeadsTo Holds containers around variables kind (next ∷ path)
  ItemsLeadTo Holds containers around variables (and_item line kind items) (suc number ∷ path) = ItemsLeadTo Holds containers around variables items (number ∷ path)

  pub StatesLeadTo : Asked → Containers → (variables : ℕ) → StateTrees → (path : List ℕ) → Type 0
  StatesLeadTo Holds containers variables no_state path = ⊥
  StatesLeadTo Holds containers variables (and_state items exits states) [] = ⊥
  StatesLeadTo Holds containers variables (and_state items exits states) (zero ∷ path) = ItemsLeadTo Holds containers [] variables items path
  StatesLeadTo Holds containers variables (and_state items exits states) (suc number ∷ path) = StatesLeadTo Holds containers variables states (number ∷ path)

  pub GraphLeadsTo : Asked → GraphTree → (path : List ℕ) → Type 0
  GraphLeadsTo Holds (graph name containers arguments variables symbols states) path = StatesLeadTo Holds containers (length variables) states path
