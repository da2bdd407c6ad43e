-- Items as the code takes them apart.
use Rattle.std.specs.Prelude.{ℕ, List, [], Option, Some, None, Bool}
use Rattle.sd_range.specs.declared.range.Range.{Range}
use Rattle.sd_graph.specs.PlainTree.{KindTree, map_scope, ItemTrees, no_item, and_item}
use Rattle.sd_graph.specs.TreeFold.{graph_tree, item_trees, kind_tree}
use Rattle.sd_mapx.specs.Found.{Found}
use Rattle.sd_mapx.specs.declared.found.FoundItem.{FoundItem}
use Rattle.sd_mapx.specs.declared.pairs.Pair.{Pair}

-- an item with the graph that has it
abbrev pub found_tree : FoundItem → Found
found_tree found = record { tree = graph_tree found.graph.now; kind = kind_tree found.kind.now }

-- a map without private containers, and the one map that is its body
pub record PlainPair : Type 0 where
  pub outer_sequential : Bool
  pub outer : List (ℕ × Range)
  pub line : ℕ
  pub inner_sequential : Bool
  pub inner : List (ℕ × Range)
  pub private : List ℕ
  pub body : ItemTrees

abbrev pub pair_tree : Pair → PlainPair
pair_tree pair = record {
  outer_sequential = pair.outer_sequential;
  outer = pair.outer.now;
  line = pair.line;
  inner_sequential = pair.inner_sequential;
  inner = pair.inner.now;
  private = pair.private.now;
  body = item_trees pair.body.now;
}

-- those of an item, if it is such a map
abbrev pub pair_in : KindTree → Option PlainPair
pair_in (map_scope outer_sequential outer [] (and_item line (map_scope inner_sequential inner private body) no_item)) =
    Some (record { outer_sequential = outer_sequential; outer = outer; line = line; inner_sequential = inner_sequential; inner = inner; private = private; body = body })
pair_in kind = None
