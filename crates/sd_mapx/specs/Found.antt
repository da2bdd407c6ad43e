-- The item at a place, with the graph that has it.
use Rattle.std.specs.Prelude.{ℕ, zero, suc, List, [], ◌∷◌, Option, Some, None}
use Rattle.sd_graph.specs.PlainTree.{KindTree, task, map_scope, consume_scope, nested_graph, reduction, copy, ItemTrees, no_item, and_item, StateTrees, no_state, and_state, GraphTree, graph}

-- an item: the graph that has it, not one round that one, and what it does
pub record Found : Type 0 where
  pub tree : GraphTree
  pub kind : KindTree

abbrev mutual
  -- in an item of a graph
  pub found_in : GraphTree → KindTree → (place : List ℕ) → Option Found
  found_in tree (task code ins outs) place = None
  found_in tree (map_scope sequential params private body) place = found_among tree body place
  found_in tree (consume_scope stream element private body) place = found_among tree body place
  found_in tree (nested_graph inner links) place = found_at inner place
  found_in tree (reduction resolution axis identity from to) place = None
  found_in tree (copy from to) place = None

  -- one of these items of a graph, or in one of them
  pub found_among : GraphTree → ItemTrees → (place : List ℕ) → Option Found
  found_among tree no_item place = None
  found_among tree (and_item line kind items) [] = None
  found_among tree (and_item line kind items) (zero ∷ []) = Some (record { tree = tree; kind = kind })
  found_among tree (and_item line kind items) (zero ∷ next ∷ place) = found_in tree kind (next ∷ place)
  found_among tree (and_item line kind items) (suc number ∷ place) = found_among tree items (number ∷ place)

  pub found_in_states : GraphTree → StateTrees → (place : List ℕ) → Option Found
  found_in_states tree no_state place = None
  found_in_states tree (and_state items exits states) [] = None
  found_in_states tree (and_state items exits states) (zero ∷ place) = found_among tree items place
  found_in_states tree (and_state items exits states) (suc number ∷ place) = found_in_states tree states (number ∷ place)

  pub found_at : GraphTree → (place : List ℕ) → Option Found
  found_at (graph name containers arguments variables symbols states) place =
      found_in_states (graph name containers arguments variables symbols states) states place
