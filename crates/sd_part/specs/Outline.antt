-- The accesses of an item before it is cut into pieces.
use Rattle.std.specs.Prelude.{◌≡◌, ℕ, ℤ, List, [], ◌∷◌, map, Bool, true, false, if◌then◌else◌}
use Rattle.sd_range.specs.declared.range.Range.{Range}
use Rattle.sd_graph.specs.ContainerParts.{Containers}
use Rattle.sd_graph.specs.PlainTree.{KindTree, task, map_scope, consume_scope, nested_graph, reduction, copy, no_item, and_item, no_state, and_state, GraphTree, graph}
use Rattle.sd_graph.specs.TreeFold.{PlainItem}
use Rattle.sd_prop.specs.propagation.ItemNodes.{nodes_behind}
use Rattle.sd_prop.specs.propagation.Accesses.{Access, access_replaced, outside_accesses, item_accesses, kind_accesses}
use Rattle.sd_prop.specs.propagation.Scopes.{Scope}
use Rattle.sd_windows.specs.MapPieces.{params_piece}
use Rattle.sd_part.specs.declared.outline.Outline.{Outline}

-- a map whose points are in any order: an item that is cut into pieces
abbrev pub is_cut : KindTree → Bool
is_cut (task code ins outs) = false
is_cut (map_scope true params private body) = false
is_cut (map_scope false params private body) = true
is_cut (consume_scope stream element private body) = false
is_cut (nested_graph inner links) = false
is_cut (reduction resolution axis identity from to) = false
is_cut (copy from to) = false

-- the parameters of an item of which a piece has some values
abbrev pub cut_params : KindTree → List (ℕ × Range)
cut_params (task code ins outs) = []
cut_params (map_scope true params private body) = []
cut_params (map_scope false params private body) = params
cut_params (consume_scope stream element private body) = []
cut_params (nested_graph inner links) = []
cut_params (reduction resolution axis identity from to) = []
cut_params (copy from to) = []

-- the accesses of an item in which these parameters stand as they are
abbrev pub open_accesses : KindTree → Containers → (nodes : List ℕ) → List Access
open_accesses (task code ins outs) containers nodes = kind_accesses (task code ins outs) containers nodes
open_accesses (map_scope true params private body) containers nodes = kind_accesses (map_scope true params private body) containers nodes
open_accesses (map_scope false params private body) containers nodes = outside_accesses private (item_accesses body containers (nodes_behind nodes))
open_accesses (consume_scope stream element private body) containers nodes = kind_accesses (consume_scope stream element private body) containers nodes
open_accesses (nested_graph inner links) containers nodes = kind_accesses (nested_graph inner links) containers nodes
open_accesses (reduction resolution axis identity from to) containers nodes = kind_accesses (reduction resolution axis identity from to) containers nodes
open_accesses (copy from to) containers nodes = kind_accesses (copy from to) containers nodes

-- the outline of an item, whatever numbers its nodes have
pub record IsOutline (containers : Containers) (kind : KindTree) (outline : Outline) : Type 0 where
  pub nodes : List ℕ
  pub params : outline.params ≡ cut_params kind
  pub accesses : outline.accesses ≡ open_accesses kind containers nodes

-- the accesses of a piece, by the item's outline: those parameters replaced, the first one with so many of its values
abbrev pub piece_accesses : (values : List ℤ) → (first count : ℕ) → Outline → List Access
piece_accesses values first count outline = map (access_replaced (params_piece values first count outline.params)) outline.accesses

-- ---- an item alone

-- an item that is cut, or the map of one point whose body is another one
abbrev pub enclosed : PlainItem → PlainItem
enclosed item = if is_cut item.1 then item else (item.0, map_scope false [] [] (and_item item.0 item.1 no_item))

-- a graph of these containers that has one item alone
abbrev pub graph_of : Containers → PlainItem → GraphTree
graph_of containers item = graph [] containers 0 [] 0 (and_state (and_item item.0 item.1 no_item) [] no_state)

-- the accesses of the first of these scopes
abbrev pub first_accesses : List Scope → List Access
first_accesses [] = []
first_accesses (scope ∷ scopes) = scope.accesses
