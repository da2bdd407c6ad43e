-- What holds of a graph as a whole, of each transition out of a state of it and of each of its items, and so in the graphs nested in it.
use Rattle.std.specs.Prelude.{ℕ, suc, ⊤}
use Rattle.std.specs.List.{AllByRecursion}
use Rattle.sd_graph.specs.PlainTree.{KindTree, task, map_scope, consume_scope, nested_graph, reduction, copy, ItemTrees, no_item, and_item, StateTrees, no_state, and_state, GraphTree, graph, ExitTree}
use Rattle.sd_validity.specs.rules.Places.{Scopes, no_scopes, in_map, in_consume}

-- of a graph; of a transition out of the state of this number; of an item in this state with these scopes about it
module _ (Whole : GraphTree → Type 0) (Leaving : GraphTree → (state : ℕ) → ExitTree → Type 0) (Doing : GraphTree → (state : ℕ) → Scopes → KindTree → Type 0) where
  abbrev mutual
    -- of what is in an item
    pub InKind : KindTree → GraphTree → (state : ℕ) → Scopes → Type 0
    InKind (task code ins outs) tree state scopes = ⊤
    InKind (map_scope sequential params private body) tree state scopes = InItems body tree state (in_map scopes params private)
    InKind (consume_scope stream element private body) tree state scopes = InItems body tree state (in_consume scopes element private)
    InKind (nested_graph inner links) tree state scopes = Throughout inner
    InKind (reduction resolution axis identity from to) tree state scopes = ⊤
    InKind (copy from to) tree state scopes = ⊤

    pub InItems : ItemTrees → GraphTree → (state : ℕ) → Scopes → Type 0
    InItems no_item tree state scopes = ⊤
    InItems (and_item line kind items) tree state scopes = Doing tree state scopes kind × InKind kind tree state scopes × InItems items tree state scopes

    -- of the states from this number on
    pub InStates : StateTrees → GraphTree → (number : ℕ) → Type 0
    InStates no_state tree number = ⊤
    InStates (and_state items exits states) tree number =
        AllByRecursion (Leaving tree number) exits × InItems items tree number no_scopes × InStates states tree (suc number)

    pub Throughout : GraphTree → Type 0
    Throughout (graph name containers arguments variables symbols states) =
        Whole (graph name containers arguments variables symbols states) × InStates states (graph name containers arguments variables symbols states) 0
