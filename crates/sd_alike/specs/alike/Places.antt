-- Where a path leads in a graph, and the graph with the item there replaced.
use Rattle.std.specs.Prelude.{ℕ, zero, suc, List, [], ◌∷◌, ◌++◌, length, Bool, true, false, if◌then◌else◌}
use Rattle.sd_graph.specs.PlainTree.{KindTree, task, map_scope, consume_scope, nested_graph, reduction, copy, ItemTrees, no_item, and_item, StateTrees, no_state, and_state, GraphTree, graph}

-- what stands in the place of an item in a graph of so many variables, by its line and what it does
abbrev pub Replacing : Type 0
Replacing = (variables : ℕ) → (line : ℕ) → KindTree → ItemTrees

-- items, and others behind them
abbrev pub items_then : ItemTrees → ItemTrees → ItemTrees
items_then no_item others = others
items_then (and_item line kind items) others = and_item line kind (items_then items others)

-- a path names items by their numbers, and in a graph first the state; it leads on into a graph nested in the one at hand
abbrev mutual
  pub kind_nests : KindTree → (path : List ℕ) → Bool
  kind_nests (task code ins outs) path = false
  kind_nests (map_scope sequential params private body) path = items_nest body path
  kind_nests (consume_scope stream element private body) path = items_nest body path
  kind_nests (nested_graph inner links) path = true
  kind_nests (reduction resolution axis identity from to) path = false
  kind_nests (copy from to) path = false

  pub items_nest : ItemTrees → (path : List ℕ) → Bool
  items_nest no_item path = false
  items_nest (and_item line kind items) [] = false
  items_nest (and_item line kind items) (zero ∷ []) = false
  items_nest (and_item line kind items) (zero ∷ next ∷ path) = kind_nests kind (next ∷ path)
  items_nest (and_item line kind items) (suc number ∷ path) = items_nest items (number ∷ path)

abbrev pub states_nest : StateTrees → (path : List ℕ) → Bool
states_nest no_state path = false
states_nest (and_state items exits states) [] = false
states_nest (and_state items exits states) (zero ∷ path) = items_nest items path
states_nest (and_state items exits states) (suc number ∷ path) = states_nest states (number ∷ path)

-- the graph with the item replaced to which the path leads; the graph that has the item gets further variables. A path that leads to no item replaces none
abbrev mutual
  pub kind_with : Replacing → (names : List (List ℕ)) → (variables : ℕ) → KindTree → (path : List ℕ) → KindTree
  kind_with replacing names variables (task code ins outs) path = task code ins outs
  kind_with replacing names variables (map_scope sequential params private body) path = map_scope sequential params private (items_with replacing names variables body path)
  kind_with replacing names variables (consume_scope stream element private body) path = consume_scope stream element private (items_with replacing names variables body path)
  kind_with replacing names variables (nested_graph inner links) path = nested_graph (graph_with replacing names inner path) links
  kind_with replacing names variables (reduction resolution axis identity from to) path = reduction resolution axis identity from to
  kind_with replacing names variables (copy from to) path = copy from to

  pub items_with : Replacing → (names : List (List ℕ)) → (variables : ℕ) → ItemTrees → (path : List ℕ) → ItemTrees
  items_with replacing names variables no_item path = no_item
  items_with replacing names variables (and_item line kind items) [] = and_item line kind items
  items_with replacing names variables (and_item line kind items) (zero ∷ []) = items_then (replacing variables line kind) items
  items_with replacing names variables (and_item line kind items) (zero ∷ next ∷ path) = and_item line (kind_with replacing names variables kind (next ∷ path)) items
  items_with replacing names variables (and_item line kind items) (suc number ∷ path) = and_item line kind (items_with replacing names variables items (number ∷ path))

  pub states_with : Replacing → (names : List (List ℕ)) → (variables : ℕ) → StateTrees → (path : List ℕ) → StateTrees
  states_with replacing names variables no_state path = no_state
  states_with replacing names variables (and_state items exits states) [] = and_state items exits states
  states_with replacing names variables (and_state items exits states) (zero ∷ path) = and_state (items_with replacing names variables items path) exits states
  states_with replacing names variables (and_state items exits states) (suc number ∷ path) = and_state items exits (states_with replacing names variables states (number ∷ path))

  pub graph_with : Replacing → (names : List (List ℕ)) → GraphTree → (path : List ℕ) → GraphTree
  graph_with replacing names (graph name containers arguments variables symbols states) path =
      graph name containers arguments (if states_nest states path then variables else variables ++ names) symbols (states_with replacing names (length variables) states path)

-- the path leads to an item of which this holds, in a graph of so many variables
abbrev mutual
  pub KindLeads : (ℕ → KindTree → Type 0) → (variables : ℕ) → KindTree → (path : List ℕ) → Type 0
  KindLeads Holds variables (task code ins outs) path = ⊥
  KindLeads Holds variables (map_scope sequential params private body) path = ItemsLead Holds variables body path
  KindLeads Holds variables (consume_scope stream element private body) path = ItemsLead Holds variables body path
  KindLeads Holds variables (nested_graph inner links) path = GraphLeads Holds inner path
  KindLeads Holds variables (reduction resolution axis identity from to) path = ⊥
  KindLeads Holds variables (copy from to) path = ⊥

  pub ItemsLead : (ℕ → KindTree → Type 0) → (variables : ℕ) → ItemTrees → (path : List ℕ) → Type 0
  ItemsLead Holds variables no_item path = ⊥
  ItemsLead Holds variables (and_item line kind items) [] = ⊥
  ItemsLead Holds variables (and_item line kind items) (zero ∷ []) = Holds variables kind
  ItemsLead Holds variables (and_item line kind items) (zero ∷ next ∷ path) = KindLeads Holds variables kind (next ∷ path)
  ItemsLead Holds variables (and_item line kind items) (suc number ∷ path) = ItemsLead Holds variables items (number ∷ path)

  pub StatesLead : (ℕ → KindTree → Type 0) → (variables : ℕ) → StateTrees → (path : List ℕ) → Type 0
  StatesLead Holds variables no_state path = ⊥
  StatesLead Holds variables (and_state items exits states) [] = ⊥
  StatesLead Holds variables (and_state items exits states) (zero ∷ path) = ItemsLead Holds variables items path
  StatesLead Holds variables (and_state items exits states) (suc number ∷ path) = StatesLead Holds variables states (number ∷ path)

  pub GraphLeads : (ℕ → KindTree → Type 0) → GraphTree → (path : List ℕ) → Type 0
  GraphLeads Holds (graph name containers arguments variables symbols states) path = StatesLead Holds (length variables) states path
