-- A graph with two states fused is in normal form where the old one is.
use Rattle.std.proofs.Common.{ℕ, zero, suc, List, [], ◌∷◌, Option, Some, None}
use Rattle.std.specs.List.{AllByRecursion}
use Rattle.sd_graph.specs.PlainTree.{KindTree, task, map_scope, consume_scope, nested_graph, reduction, copy, ItemTrees, no_item, and_item, StateTrees, no_state, and_state, GraphTree, graph, ExitTree}
use Rattle.sd_graph.specs.TreeParts.{items_at, exits_at}
use Rattle.sd_safe.specs.normal.NormalForm.{IsExitNormal, IsKindNormal, AreItemsNormal, AreStatesNormal, IsGraphNormal}
use Rattle.sd_alike.specs.alike.Places.{items_then}
use Rattle.sd_statex.specs.states.FusedStates.{exits_lowered, states_lowered, left_out, put_in, graph_fused}
use Rattle.sd_statex.specs.states.ChangedGraphs.{kind_changed, items_changed, states_changed, graph_changed}
use Rattle.sd_statex.specs.StatePaths.{TwoStates, two_states}
use Rattle.sd_statex.specs.StateFusion.{fused_by, fused_at}

-- ---- states

then_normal : (items others : ItemTrees) → AreItemsNormal items → AreItemsNormal others → AreItemsNormal (items_then items others)
then_normal no_item others first rest = rest
then_normal (and_item line kind items) others first rest = (first.0, then_normal items others first.1 rest)

items_normal_at : (states : StateTrees) (state : ℕ) → AreStatesNormal states → AreItemsNormal (items_at states state)
items_normal_at no_state state normal = tt
items_normal_at (and_state items exits states) zero normal = normal.0.0
items_normal_at (and_state items exits states) (suc state) normal = items_normal_at states state normal.1

exits_normal_at : (states : StateTrees) (state : ℕ) → AreStatesNormal states → AllByRecursion IsExitNormal (exits_at states state)
exits_normal_at no_state state normal = tt
exits_normal_at (and_state items exits states) zero normal = normal.0.1
exits_normal_at (and_state items exits states) (suc state) normal = exits_normal_at states state normal.1

exits_lower : (gone : ℕ) (exits : List ExitTree) → AllByRecursion IsExitNormal exits → AllByRecursion IsExitNormal (exits_lowered gone exits)
exits_lower gone [] normal = tt
exits_lower gone (exit ∷ exits) normal = (normal.0, exits_lower gone exits normal.1)

states_lower : (gone : ℕ) (states : StateTrees) → AreStatesNormal states → AreStatesNormal (states_lowered gone states)
states_lower gone no_state normal = tt
states_lower gone (and_state items exits states) normal = ((normal.0.0, exits_lower gone exits normal.0.1), states_lower gone states normal.1)

left_normal : (gone : ℕ) (states : StateTrees) → AreStatesNormal states → AreStatesNormal (left_out gone states)
left_normal gone no_state normal = tt
left_normal zero (and_state items exits states) normal = normal.1
left_normal (suc gone) (and_state items exits states) normal = (normal.0, left_normal gone states normal.1)

put_normal : (number : ℕ) (new : ItemTrees) (new_exits : List ExitTree) (states : StateTrees) → AreItemsNormal new → AllByRecursion IsExitNormal new_exits → AreStatesNormal states →
    AreStatesNormal (put_in number new new_exits states)
put_normal number new new_exits no_state items exits normal = tt
put_normal zero new new_exits (and_state old old_exits states) items exits normal = ((items, exits), normal.1)
put_normal (suc number) new new_exits (and_state old old_exits states) items exits normal = (normal.0, put_normal number new new_exits states items exits normal.1)

graph_fused_normal : (first second : ℕ) (tree : GraphTree) → IsGraphNormal tree → IsGraphNormal (graph_fused first second tree)
graph_fused_normal first second (graph name containers arguments variables symbols states) normal =
    let both : ItemTrees = items_then (items_at states first) (items_at states second) in
    let put : StateTrees = put_in first both (exits_at states second) states in (
      normal.0,
      states_lower second (left_out second put)
          (left_normal second put
          (put_normal first both (exits_at states second) states
          (then_normal (items_at states first) (items_at states second) (items_normal_at states first normal.1) (items_normal_at states second normal.1))
          (exits_normal_at states second normal.1) normal.1)),
    )

-- ---- the graph at a path

module _ (change : GraphTree → GraphTree) (keeps : (tree : GraphTree) → IsGraphNormal tree → IsGraphNormal (change tree)) where
  mutual
    kind_normal : (kind : KindTree) (path : List ℕ) → IsKindNormal kind → IsKindNormal (kind_changed change kind path)
    kind_normal (task code ins outs) path normal = normal
    kind_normal (map_scope sequential params private body) path normal = (normal.0, items_normal body path normal.1)
    kind_normal (consume_scope stream element private body) path normal = items_normal body path normal
    kind_normal (nested_graph inner links) path normal = (normal.0, graph_normal inner path normal.1)
    kind_normal (reduction resolution axis identity from to) path normal = normal
    kind_normal (copy from to) path normal = normal

    items_normal : (items : ItemTrees) (path : List ℕ) → AreItemsNormal items → AreItemsNormal (items_changed change items path)
    items_normal no_item path normal = tt
    items_normal (and_item line kind items) [] normal = normal
    items_normal (and_item line kind items) (zero ∷ path) normal = (kind_normal kind path normal.0, normal.1)
    items_normal (and_item line kind items) (suc number ∷ path) normal = (normal.0, items_normal items (number ∷ path) normal.1)

    states_normal : (states : StateTrees) (path : List ℕ) → AreStatesNormal states → AreStatesNormal (states_changed change states path)
    states_normal no_state path normal = tt
    states_normal (and_state items exits states) [] normal = normal
    states_normal (and_state items exits states) (zero ∷ path) normal = ((items_normal items path normal.0.0, normal.0.1), normal.1)
    states_normal (and_state items exits states) (suc number ∷ path) normal = (normal.0, states_normal states (number ∷ path) normal.1)

    graph_normal : (tree : GraphTree) (path : List ℕ) → IsGraphNormal tree → IsGraphNormal (graph_changed change tree path)
    graph_normal (graph name containers arguments variables symbols states) [] normal = keeps (graph name containers arguments variables symbols states) normal
    graph_normal (graph name containers arguments variables symbols states) (number ∷ path) normal = (normal.0, states_normal states (number ∷ path) normal.1)

by_two_normal : (tree : GraphTree) (two : Option TwoStates) → IsGraphNormal tree → IsGraphNormal (fused_by tree two)
by_two_normal tree None normal = normal
by_two_normal tree (Some two) normal = graph_normal (graph_fused two.first two.second) (graph_fused_normal two.first two.second) tree two.place normal

pub fused_is_normal : (tree : GraphTree) (first second : List ℕ) → IsGraphNormal tree → IsGraphNormal (fused_at tree first second)
fused_is_normal tree first second normal = by_two_normal tree (two_states tree first second) normal
