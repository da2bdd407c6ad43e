-- The expressions of a graph with two maps fused are in normal form where those of the old one are.
use Rattle.std.proofs.Common.{ℕ, zero, suc, List, [], ◌∷◌, length, Bool, true, false, if◌then◌else◌}
use Rattle.sd_subset.specs.boxes.Box.{Parameter}
use Rattle.sd_graph.specs.ContainerParts.{Containers}
use Rattle.sd_graph.specs.Wiring.{Use, kind_uses}
use Rattle.sd_graph.specs.PlainTree.{KindTree, task, map_scope, consume_scope, nested_graph, reduction, copy, ItemTrees, no_item, and_item, StateTrees, no_state, and_state, GraphTree, graph}
use Rattle.sd_safe.specs.normal.NormalForm.{IsKindNormal, AreItemsNormal, AreStatesNormal, IsGraphNormal}
use Rattle.sd_alike.specs.alike.Places.{items_then}
use Rattle.sd_exchange.specs.maps.Tails.{Tailing, kind_tail, items_tail, states_tail, graph_tail}
use Rattle.sd_fuse.specs.renamed.Renamed.{items_renamed}
use Rattle.sd_fuse.specs.maps.MapRenamed.{names_for}
use Rattle.sd_fuse.specs.maps.Gathered.{leads_over, early, late}
use Rattle.sd_fuse.specs.maps.FusionRewrite.{items_before, items_from, fused_with, fused_by}
use Rattle.sd_fuse.proofs.normal_lemmas.RenamedNormal.{items-normal}

-- ---- items replaced from one on

-- what comes to stand in the place of items in normal form is in normal form
abbrev KeepsNormal : Tailing → Type 0
KeepsNormal tailing = (variables : ℕ) (containers : Containers) (items : ItemTrees) → AreItemsNormal items → AreItemsNormal (tailing variables containers items)

module _ (tailing : Tailing) (keeps : KeepsNormal tailing) (names : List (List ℕ)) where
  mutual
    kind-tail : (c : Containers) (variables : ℕ) (kind : KindTree) (path : List ℕ) → IsKindNormal kind → IsKindNormal (kind_tail tailing names c variables kind path)
    kind-tail c variables (task code ins outs) path normal = normal
    kind-tail c variables (map_scope sequential params private body) path normal = (normal.0, items-tail c variables body path normal.1)
    kind-tail c variables (consume_scope stream element private body) path normal = items-tail c variables body path normal
    kind-tail c variables (nested_graph inner links) path normal = (normal.0, graph-tail inner path normal.1)
    kind-tail c variables (reduction resolution axis identity from to) path normal = normal
    kind-tail c variables (copy from to) path normal = normal

    items-tail : (c : Containers) (variables : ℕ) (items : ItemTrees) (path : List ℕ) → AreItemsNormal items → AreItemsNormal (items_tail tailing names c variables items path)
    items-tail c variables no_item path normal = normal
    items-tail c variables (and_item line kind items) [] normal = normal
    items-tail c variables (and_item line kind items) (zero ∷ []) normal = keeps variables c (and_item line kind items) normal
    items-tail c variables (and_item line kind items) (zero ∷ next ∷ path) normal = (kind-tail c variables kind (next ∷ path) normal.0, normal.1)
    items-tail c variables (and_item line kind items) (suc number ∷ path) normal = (normal.0, items-tail c variables items (number ∷ path) normal.1)

    states-tail : (c : Containers) (variables : ℕ) (states : StateTrees) (path : List ℕ) → AreStatesNormal states → AreStatesNormal (states_tail tailing names c variables states path)
    states-tail c variables no_state path normal = normal
    states-tail c variables (and_state items exits states) [] normal = normal
    states-tail c variables (and_state items exits states) (zero ∷ path) normal = ((items-tail c variables items path normal.0.0, normal.0.1), normal.1)
    states-tail c variables (and_state items exits states) (suc number ∷ path) normal = (normal.0, states-tail c variables states (number ∷ path) normal.1)

    graph-tail : (tree : GraphTree) (path : List ℕ) → IsGraphNormal tree → IsGraphNormal (graph_tail tailing names tree path)
    graph-tail (graph name containers arguments variables symbols states) path normal = (normal.0, states-tail containers (length variables) states path normal.1)

-- ---- parts of a list

then-normal : (items others : ItemTrees) → AreItemsNormal items → AreItemsNormal others → AreItemsNormal (items_then items others)
then-normal no_item others normal behind = behind
then-normal (and_item line kind items) others normal behind = (normal.0, then-normal items others normal.1 behind)

before-normal : (number : ℕ) (items : ItemTrees) → AreItemsNormal items → AreItemsNormal (items_before number items)
before-normal zero items normal = tt
before-normal (suc number) no_item normal = tt
before-normal (suc number) (and_item line kind items) normal = (normal.0, before-normal number items normal.1)

from-normal : (number : ℕ) (items : ItemTrees) → AreItemsNormal items → AreItemsNormal (items_from number items)
from-normal zero items normal = normal
from-normal (suc number) no_item normal = tt
from-normal (suc number) (and_item line kind items) normal = from-normal number items normal.1

early-normal : (c : Containers) (between : ItemTrees) (target : List Use) → AreItemsNormal between → AreItemsNormal (early c between target)
early-normal c no_item target normal = tt
early-normal c (and_item line kind items) target normal = go (leads_over c (kind_uses kind c) items target) (early-normal c items target normal.1)
  where
    go : (b : Bool) → AreItemsNormal (early c items target) → AreItemsNormal (if b then and_item line kind (early c items target) else early c items target)
    go true rest = (normal.0, rest)
    go false rest = rest

late-normal : (c : Containers) (between : ItemTrees) (target : List Use) → AreItemsNormal between → AreItemsNormal (late c between target)
late-normal c no_item target normal = tt
late-normal c (and_item line kind items) target normal = go (leads_over c (kind_uses kind c) items target) (late-normal c items target normal.1)
  where
    go : (b : Bool) → AreItemsNormal (late c items target) → AreItemsNormal (if b then late c items target else and_item line kind (late c items target))
    go true rest = rest
    go false rest = (normal.0, rest)

-- ---- two maps as one

with-normal : (line : ℕ) (c : Containers) (sequential : Bool) (params : List Parameter) (private : List ℕ) (body between behind : ItemTrees) → IsKindNormal (map_scope sequential params private body) → AreItemsNormal between → AreItemsNormal behind →
    AreItemsNormal (fused_with line c sequential params private body between behind)
with-normal line c sequential params private body between no_item first normal behind = (first, then-normal between no_item normal behind)
with-normal line c sequential params private body between (and_item there (task code ins outs) items) first normal behind = (first, then-normal between (and_item there (task code ins outs) items) normal behind)
with-normal line c sequential params private body between (and_item there (map_scope other_sequential others own other) items) first normal behind =
    let target = kind_uses (map_scope other_sequential others own other) c in
    let renamed = items_renamed (names_for others params) other in
    then-normal (early c between target) _ (early-normal c between target normal) (
      (first.0, then-normal body renamed first.1 (items-normal (names_for others params) other behind.0.1)),
      then-normal (late c between target) items (late-normal c between target normal) behind.1,
    )
with-normal line c sequential params private body between (and_item there (consume_scope stream element own other) items) first normal behind = (first, then-normal between (and_item there (consume_scope stream element own other) items) normal behind)
with-normal line c sequential params private body between (and_item there (nested_graph inner links) items) first normal behind = (first, then-normal between (and_item there (nested_graph inner links) items) normal behind)
with-normal line c sequential params private body between (and_item there (reduction resolution axis identity from to) items) first normal behind = (first, then-normal between (and_item there (reduction resolution axis identity from to) items) normal behind)
with-normal line c sequential params private body between (and_item there (copy from to) items) first normal behind = (first, then-normal between (and_item there (copy from to) items) normal behind)

fused-keeps : (distance : ℕ) → KeepsNormal (fused_by distance)
fused-keeps distance variables c no_item normal = normal
fused-keeps distance variables c (and_item line (task code ins outs) items) normal = normal
fused-keeps distance variables c (and_item line (map_scope sequential params private body) items) normal =
    with-normal line c sequential params private body (items_before distance items) (items_from distance items) normal.0 (before-normal distance items normal.1) (from-normal distance items normal.1)
fused-keeps distance variables c (and_item line (consume_scope stream element private body) items) normal = normal
fused-keeps distance variables c (and_item line (nested_graph inner links) items) normal = normal
fused-keeps distance variables c (and_item line (reduction resolution axis identity from to) items) normal = normal
fused-keeps distance variables c (and_item line (copy from to) items) normal = normal

pub fused-normal : (distance : ℕ) (tree : GraphTree) (path : List ℕ) → IsGraphNormal tree → IsGraphNormal (graph_tail (fused_by distance) [] tree path)
fused-normal distance tree path normal = graph-tail (fused_by distance) (fused-keeps distance) [] tree path normal
