-- A graph with two states fused keeps the rule of names.
use Rattle.std.proofs.Common.{ℕ, zero, suc, List, [], ◌∷◌}
use Rattle.sd_graph.specs.PlainTree.{KindTree, task, map_scope, consume_scope, nested_graph, reduction, copy, ItemTrees, no_item, and_item, StateTrees, no_state, and_state, GraphTree, graph, ExitTree}
use Rattle.sd_graph.specs.TreeParts.{items_at, exits_at}
use Rattle.sd_validity.specs.rules.Failing.{Holds}
use Rattle.sd_validity.specs.rules.NamesInForce.{rule_1}
use Rattle.sd_alike.specs.alike.Places.{items_then}
use Rattle.sd_alike.proofs.kept_lemmas.Held.{HoldsAll}
use Rattle.sd_alike.proofs.kept_lemmas.NamesAsked.{names_asked, names_local}
use Rattle.sd_alike.proofs.kept_lemmas.Wider.{names_wider}
use Rattle.sd_alike.proofs.kept_lemmas.EachGraph.{InKind, AmongItems, AmongStates, EachGraph}
use Rattle.sd_alike.proofs.kept_lemmas.NumbersKept.{IsOnceGraph}
use Rattle.sd_alike.proofs.kept_lemmas.RuleOfNames.{IsNamedGraph, names_held, each_once, rule_of_names}
use Rattle.sd_statex.specs.states.FusedStates.{states_lowered, left_out, put_in, fused, graph_fused}
use Rattle.sd_statex.specs.states.ChangedGraphs.{kind_changed, items_changed, states_changed, graph_changed, KindHas, ItemsHave, StatesHave, GraphHas}
use Rattle.sd_statex.proofs.kept_lemmas.Seen.{names_seen}
use Rattle.sd_statex.proofs.kept_lemmas.HeldChanged.{graph_stays}
use Rattle.sd_statex.proofs.kept_lemmas.HeldFused.{AreFusibleThere, fused_looks, fused_keeps}
use Rattle.sd_statex.proofs.kept_lemmas.OnceFused.{once_inside, once_fused}

-- ---- what holds of each nested graph

module _ (Holding : GraphTree → Type 0) where
  each_then : (items others : ItemTrees) → AmongItems Holding items → AmongItems Holding others → AmongItems Holding (items_then items others)
  each_then no_item others each rest = rest
  each_then (and_item line kind items) others each rest = (each.0, each_then items others each.1 rest)

  each_at : (states : StateTrees) (state : ℕ) → AmongStates Holding states → AmongItems Holding (items_at states state)
  each_at no_state state each = tt
  each_at (and_state items exits states) zero each = each.0
  each_at (and_state items exits states) (suc state) each = each_at states state each.1

  each_lowered : (gone : ℕ) (states : StateTrees) → AmongStates Holding states → AmongStates Holding (states_lowered gone states)
  each_lowered gone no_state each = tt
  each_lowered gone (and_state items exits states) each = (each.0, each_lowered gone states each.1)

  each_left : (gone : ℕ) (states : StateTrees) → AmongStates Holding states → AmongStates Holding (left_out gone states)
  each_left gone no_state each = tt
  each_left zero (and_state items exits states) each = each.1
  each_left (suc gone) (and_state items exits states) each = (each.0, each_left gone states each.1)

  each_put : (number : ℕ) (new : ItemTrees) (exits : List ExitTree) (states : StateTrees) → AmongItems Holding new → AmongStates Holding states → AmongStates Holding (put_in number new exits states)
  each_put number new exits no_state is each = tt
  each_put zero new exits (and_state items old states) is each = (is, each.1)
  each_put (suc number) new exits (and_state items old states) is each = (each.0, each_put number new exits states is each.1)

  pub each_fused : (first second : ℕ) (states : StateTrees) → AmongStates Holding states → AmongStates Holding (fused first second states)
  each_fused first second states each =
      let both : ItemTrees = items_then (items_at states first) (items_at states second) in
      let put : StateTrees = put_in first both (exits_at states second) states in
      each_lowered second (left_out second put)
      (each_left second put
      (each_put first both (exits_at states second) states
      (each_then (items_at states first) (items_at states second) (each_at states first each) (each_at states second each)) each))

  module _ (Has : GraphTree → Type 0) (change : GraphTree → GraphTree)
      (changes : (tree : GraphTree) → Has tree → EachGraph Holding tree → EachGraph Holding (change tree))
      (stays : (tree : GraphTree) (path : List ℕ) → GraphHas Has tree path → Holding tree → Holding (graph_changed change tree path)) where
    mutual
      kind_each : (kind : KindTree) (path : List ℕ) → KindHas Has kind path → InKind Holding kind → InKind Holding (kind_changed change kind path)
      kind_each (task code ins outs) path has each = elim has [ ]
      kind_each (map_scope sequential params private body) path has each = items_each body path has each
      kind_each (consume_scope stream element private body) path has each = items_each body path has each
      kind_each (nested_graph inner links) path has each = graph_each inner path has each
      kind_each (reduction resolution axis identity from to) path has each = elim has [ ]
      kind_each (copy from to) path has each = elim has [ ]

      items_each : (items : ItemTrees) (path : List ℕ) → ItemsHave Has items path → AmongItems Holding items → AmongItems Holding (items_changed change items path)
      items_each no_item path has each = elim has [ ]
      items_each (and_item line kind items) [] has each = elim has [ ]
      items_each (and_item line kind items) (zero ∷ path) has each = (kind_each kind path has each.0, each.1)
      items_each (and_item line kind items) (suc number ∷ path) has each = (each.0, items_each items (number ∷ path) has each.1)

      states_each : (states : StateTrees) (path : List ℕ) → StatesHave Has states path → AmongStates Holding states → AmongStates Holding (states_changed change states path)
      states_each no_state path has each = elim has [ ]
      states_each (and_state items exits states) [] has each = elim has [ ]
      states_each (and_state items exits states) (zero ∷ path) has each = (items_each items path has each.0, each.1)
      states_each (and_state items exits states) (suc number ∷ path) has each = (each.0, states_each states (number ∷ path) has each.1)

      pub graph_each : (tree : GraphTree) (path : List ℕ) → GraphHas Has tree path → EachGraph Holding tree → EachGraph Holding (graph_changed change tree path)
      graph_each (graph name containers arguments variables symbols states) [] has each = changes (graph name containers arguments variables symbols states) has each
      graph_each (graph name containers arguments variables symbols states) (number ∷ path) has each =
          (stays (graph name containers arguments variables symbols states) (number ∷ path) has each.0, states_each states (number ∷ path) has each.1)

-- ---- the rule

module _ (first second : ℕ) where
  abbrev Fusible : GraphTree → Type 0
  Fusible = AreFusibleThere first second

  named_stays : (tree : GraphTree) (path : List ℕ) → GraphHas Fusible tree path → HoldsAll names_asked tree → HoldsAll names_asked (graph_changed (graph_fused first second) tree path)
  named_stays =
      graph_stays Fusible (graph_fused first second) (fused_looks first second) names_asked names_local names_wider names_seen (fused_keeps first second names_asked names_local names_wider names_seen)

  once_stays : (tree : GraphTree) (path : List ℕ) → GraphHas Fusible tree path → IsOnceGraph tree → IsOnceGraph (graph_changed (graph_fused first second) tree path)
  once_stays (graph name containers arguments variables symbols states) [] has was = once_fused first second name containers arguments variables symbols states has.0 was
  once_stays (graph name containers arguments variables symbols states) (number ∷ path) has was =
      once_inside (graph_fused first second) name containers arguments variables symbols states (number ∷ path) was

  graph_named : (tree : GraphTree) (path : List ℕ) → GraphHas Fusible tree path → IsNamedGraph tree → IsNamedGraph (graph_changed (graph_fused first second) tree path)
  graph_named tree path has was = record { once = once_stays tree path has was.once; named = named_stays tree path has was.named }

  fused_named : (tree : GraphTree) → Fusible tree → EachGraph (λ tree. IsNamedGraph tree) tree → EachGraph (λ tree. IsNamedGraph tree) (graph_fused first second tree)
  fused_named (graph name containers arguments variables symbols states) fusible each =
      (graph_named (graph name containers arguments variables symbols states) [] fusible each.0, each_fused (λ tree. IsNamedGraph tree) first second states each.1)

  pub names_fused : (tree : GraphTree) (path : List ℕ) → GraphHas Fusible tree path → Holds rule_1 tree → Holds rule_1 (graph_changed (graph_fused first second) tree path)
  names_fused tree path has holds =
      rule_of_names (graph_changed (graph_fused first second) tree path) (named_stays tree path has (names_held tree holds))
      (graph_each (λ tree. IsNamedGraph tree) Fusible (graph_fused first second) fused_named graph_named tree path has (each_once tree holds))
