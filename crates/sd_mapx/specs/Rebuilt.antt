-- An item of a list with what stands in its place, for the code that goes through the list.
use Rattle.std.specs.Prelude.{ℕ, suc, nat_eq, List, [], ◌∷◌, Bool, true, false, if◌then◌else◌}
use Rattle.sd_graph.specs.PlainTree.{KindTree, task, map_scope, consume_scope, nested_graph, reduction, copy, ItemTrees, no_item, and_item, StateTrees, no_state, and_state}
use Rattle.sd_graph.specs.TreeFold.{PlainState}
use Rattle.sd_alike.specs.alike.Places.{Replacing, items_then, kind_with, items_with}

-- what stands in the place of an item where the rest of a place is empty; else the item, with one in it replaced
abbrev pub item_with : Replacing → (names : List (List ℕ)) → (variables line : ℕ) → KindTree → (rest : List ℕ) → ItemTrees
item_with replacing names variables line kind [] = replacing variables line kind
item_with replacing names variables line kind (next ∷ rest) = and_item line (kind_with replacing names variables kind (next ∷ rest)) no_item

-- a scope with another body; anything else as it is
abbrev pub with_body : KindTree → (body : ItemTrees) → KindTree
with_body (task code ins outs) body = task code ins outs
with_body (map_scope sequential params private old) body = map_scope sequential params private body
with_body (consume_scope stream element private old) body = consume_scope stream element private body
with_body (nested_graph inner links) body = nested_graph inner links
with_body (reduction resolution axis identity from to) body = reduction resolution axis identity from to
with_body (copy from to) body = copy from to

-- an item, or where it is meant, what stands in its place
abbrev pub item_at : Replacing → (names : List (List ℕ)) → (variables : ℕ) → (is_meant : Bool) → (line : ℕ) → KindTree → (rest : List ℕ) → ItemTrees
item_at replacing names variables true line kind rest = item_with replacing names variables line kind rest
item_at replacing names variables false line kind rest = and_item line kind no_item

-- the items from this number on, with the one of that number replaced
abbrev pub items_from : Replacing → (names : List (List ℕ)) → (variables number : ℕ) → (rest : List ℕ) → (at : ℕ) → ItemTrees → ItemTrees
items_from replacing names variables number rest at no_item = no_item
items_from replacing names variables number rest at (and_item line kind items) =
    items_then (item_at replacing names variables (nat_eq at number) line kind rest) (items_from replacing names variables number rest (suc at) items)

-- the state of this number, with an item of it replaced where a place leads into it
abbrev pub state_at : Replacing → (names : List (List ℕ)) → (variables at : ℕ) → PlainState → (place : List ℕ) → PlainState
state_at replacing names variables at state [] = state
state_at replacing names variables at state (number ∷ rest) = if nat_eq at number then (items_with replacing names variables state.0 rest, state.1) else state

-- the states from this number on
abbrev pub states_from : Replacing → (names : List (List ℕ)) → (variables : ℕ) → (place : List ℕ) → (at : ℕ) → StateTrees → StateTrees
states_from replacing names variables place at no_state = no_state
states_from replacing names variables place at (and_state items exits states) =
    and_state (state_at replacing names variables at (items, exits) place).0 (state_at replacing names variables at (items, exits) place).1 (states_from replacing names variables place (suc at) states)

-- states, and others behind them
abbrev pub states_then : StateTrees → StateTrees → StateTrees
states_then no_state others = others
states_then (and_state items exits states) others = and_state items exits (states_then states others)
