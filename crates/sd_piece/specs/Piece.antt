-- Pieces of a graph's items: which there are, and what they touch.
use Rattle.std.specs.Prelude.{◌≡◌, ℕ, zero, suc, ◌+◌, ◌<◌, ◌≤◌, ℤ, List, [], ◌∷◌, map, length, Option, Some, None, true, false}
use Rattle.sd_range.specs.declared.range.Range.{Range}
use Rattle.sd_range.specs.Range.{range_values}
use Rattle.sd_graph.specs.ContainerParts.{Containers}
use Rattle.sd_graph.specs.PlainTree.{KindTree, task, map_scope, consume_scope, nested_graph, reduction, copy, ItemTrees, no_item, and_item, GraphTree}
use Rattle.sd_graph.specs.TreeFold.{PlainItem}
use Rattle.sd_graph.specs.TreeParts.{containers_of}
use Rattle.sd_prop.specs.propagation.Accesses.{kind_accesses}
use Rattle.sd_safe.specs.pieces.ItemPieces.{state_items}
use Rattle.sd_part.specs.Boxes.{NumberBox, number_box}
use Rattle.sd_part.specs.Outline.{IsOutline}
use Rattle.sd_part.specs.declared.outline.Outline.{Outline}
use Rattle.sd_piece.specs.declared.piece.PieceAt.{PieceAt}

-- the item of a number in a list
abbrev pub item_of : ItemTrees → (number : ℕ) → Option PlainItem
item_of no_item number = None
item_of (and_item line kind items) zero = Some (line, kind)
item_of (and_item line kind items) (suc number) = item_of items number

-- how many values the first of these parameters takes; one where there is none
abbrev pub count_params : List ℤ → List (ℕ × Range) → ℕ
count_params values [] = 1
count_params values (param ∷ params) = length (range_values values param.1)

-- how many values an item has for its pieces to share out: those of the first parameter of a map whose points are in any order, else one
abbrev pub value_count : List ℤ → KindTree → ℕ
value_count values (task code ins outs) = 1
value_count values (map_scope true params private body) = 1
value_count values (map_scope false params private body) = count_params values params
value_count values (consume_scope stream element private body) = 1
value_count values (nested_graph inner links) = 1
value_count values (reduction resolution axis identity from to) = 1
value_count values (copy from to) = 1

-- an item has so many values from the one of this number on, at least one
abbrev pub HasValues : List ℤ → (first count : ℕ) → KindTree → Type 0
HasValues values first count kind = (0 < count) × (first + count ≤ value_count values kind)

-- an item that may be there is there, and has them
abbrev pub HasPieceOf : List ℤ → (first count : ℕ) → Option PlainItem → Type 0
HasPieceOf values first count None = ⊥
HasPieceOf values first count (Some item) = HasValues values first count item.1

-- the item that is meant in a graph, if it is there
abbrev pub item_meant : GraphTree → PieceAt → Option PlainItem
item_meant tree at = item_of (state_items tree at.state) at.item

-- the outline of an item of a state, if it is there
abbrev pub IsOutlineOf : GraphTree → (state number : ℕ) → Outline → Type 0
IsOutlineOf tree state number outline = (item : PlainItem) → item_of (state_items tree state) number ≡ Some item → IsOutline (containers_of tree) item.1 outline

-- a graph has the piece that is meant
abbrev pub HasPiece : GraphTree → List ℤ → PieceAt → Type 0
HasPiece tree values at = HasPieceOf values at.first at.count (item_meant tree at)

-- the boxes in numbers of what an item does, whatever numbers its nodes have
abbrev pub boxes_of : Containers → List ℤ → KindTree → (nodes : List ℕ) → List NumberBox
boxes_of containers values kind nodes = map (number_box containers values) (kind_accesses kind containers nodes)
