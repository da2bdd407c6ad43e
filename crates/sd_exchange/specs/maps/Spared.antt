-- Items whose parameters are none of some variables.
use Rattle.std.specs.Prelude.{◌≢◌, ℕ, List, ⊤}
use Rattle.std.specs.List.{AllByRecursion}
use Rattle.sd_graph.specs.PlainTree.{KindTree, task, map_scope, consume_scope, nested_graph, reduction, copy, ItemTrees, no_item, and_item}

-- a variable is none of these
abbrev pub IsNoName : (names : List ℕ) → (variable : ℕ) → Type 0
IsNoName names variable = AllByRecursion (λ name. variable ≢ name) names

abbrev mutual
  -- no parameter in an item is one of them; a nested graph has variables of its own
  pub KindSpares : (names : List ℕ) → KindTree → Type 0
  KindSpares names (task code ins outs) = ⊤
  KindSpares names (map_scope sequential params private body) = AllByRecursion (λ param. IsNoName names param.0) params × ItemsSpare names body
  KindSpares names (consume_scope stream element private body) = ItemsSpare names body
  KindSpares names (nested_graph inner links) = ⊤
  KindSpares names (reduction resolution axis identity from to) = ⊤
  KindSpares names (copy from to) = ⊤

  pub ItemsSpare : (names : List ℕ) → ItemTrees → Type 0
  ItemsSpare names no_item = ⊤
  ItemsSpare names (and_item line kind items) = KindSpares names kind × ItemsSpare names items
