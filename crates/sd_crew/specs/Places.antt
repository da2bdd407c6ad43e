-- The pieces of a state's items for so many workers, and where each is.
use Rattle.std.specs.Prelude.{ℕ, suc, ℤ, List, [], ◌++◌, map, Option, Some, None}
use Rattle.sd_graph.specs.LoopScope.{numbers_below}
use Rattle.sd_graph.specs.PlainTree.{ItemTrees, no_item, and_item, GraphTree}
use Rattle.sd_graph.specs.TreeFold.{PlainItem}
use Rattle.sd_lower.specs.Pieces.{piece_count, values_before, values_in, values_in_each}
use Rattle.sd_safe.specs.pieces.ItemPieces.{state_items}
use Rattle.sd_piece.specs.Piece.{item_of, value_count}
use Rattle.sd_piece.specs.declared.piece.PieceAt.{PieceAt}

-- how many values an item that may be there has for its pieces to share out
abbrev pub count_at : List ℤ → Option PlainItem → ℕ
count_at values None = 0
count_at values (Some item) = value_count values item.1

-- how many values each piece of an item of a state has
abbrev pub counts_of : GraphTree → (state : ℕ) → List ℤ → (workers : ℕ) → (item : ℕ) → List ℕ
counts_of tree state values workers item = values_in_each (count_at values (item_of (state_items tree state) item)) workers

-- a piece of an item that has so many values
abbrev pub place_of : (state item values workers : ℕ) → (piece : ℕ) → PieceAt
place_of state item values workers piece = record { state = state; item = item; first = values_before values workers piece; count = values_in values workers piece }

-- all its pieces, in order
abbrev pub item_places : (state item values workers : ℕ) → List PieceAt
item_places state item values workers = map (place_of state item values workers) (numbers_below (piece_count values workers))

-- those of the items of a list, which are numbered from this one on
abbrev pub places_from : (state : ℕ) → List ℤ → (workers : ℕ) → (item : ℕ) → ItemTrees → List PieceAt
places_from state values workers item no_item = []
places_from state values workers item (and_item line kind items) =
    item_places state item (value_count values kind) workers ++ places_from state values workers (suc item) items

-- those of a state of a graph
abbrev pub places_of : GraphTree → (state : ℕ) → List ℤ → (workers : ℕ) → List PieceAt
places_of tree state values workers = places_from state values workers 0 (state_items tree state)
