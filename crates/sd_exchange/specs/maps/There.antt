-- Graphs whose map parameters are variables of theirs.
use Rattle.std.specs.Prelude.{ℕ, ◌<◌, length, ⊤}
use Rattle.std.specs.List.{AllByRecursion}
use Rattle.sd_subset.specs.boxes.Box.{Parameter}
use Rattle.sd_graph.specs.PlainTree.{KindTree, task, map_scope, consume_scope, nested_graph, reduction, copy, ItemTrees, no_item, and_item, StateTrees, no_state, and_state, GraphTree, graph}

abbrev mutual
  -- each parameter of a map is one of the first so many variables; a nested graph has variables of its own
  pub KindGivesBelow : (count : ℕ) → KindTree → Type 0
  KindGivesBelow count (task code ins outs) = ⊤
  KindGivesBelow count (map_scope sequential params private body) = AllByRecursion (λ (param : Parameter). param.0 < count) params × ItemsGiveBelow count body
  KindGivesBelow count (consume_scope stream element private body) = ItemsGiveBelow count body
  KindGivesBelow count (nested_graph inner links) = GivesItsVariables inner
  KindGivesBelow count (reduction resolution axis identity from to) = ⊤
  KindGivesBelow count (copy from to) = ⊤

  pub ItemsGiveBelow : (count : ℕ) → ItemTrees → Type 0
  ItemsGiveBelow count no_item = ⊤
  ItemsGiveBelow count (and_item line kind items) = KindGivesBelow count kind × ItemsGiveBelow count items

  pub StatesGiveBelow : (count : ℕ) → StateTrees → Type 0
  StatesGiveBelow count no_state = ⊤
  StatesGiveBelow count (and_state items exits states) = ItemsGiveBelow count items × StatesGiveBelow count states

  pub GivesItsVariables : GraphTree → Type 0
  GivesItsVariables (graph name containers arguments variables symbols states) = StatesGiveBelow (length variables) states
