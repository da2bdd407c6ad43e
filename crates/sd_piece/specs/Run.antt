-- Pieces that were cut of a memory, and how they end.
use Rattle.std.specs.Prelude.{◌≡◌, ℕ, ℤ, List, [], Option, Some, None, ⊤}
use Rattle.sd_work.specs.BigStep.{big_step}
use Rattle.sd_pieces.specs.cut.Merged.{AreElementsOfWidth}
use Rattle.sd_graph.specs.PlainTree.{GraphTree}
use Rattle.sd_graph.specs.TreeFold.{PlainItem, item_tree}
use Rattle.sd_graph.specs.TreeParts.{containers_of}
use Rattle.sd_graph.specs.Context.{own_reach}
use Rattle.sd_graph.specs.Upwards.{KindLeadsUpwards}
use Rattle.sd_windows.specs.MapPieces.{kind_piece}
use Rattle.sd_race.specs.cover.Fit.{IsFit}
use Rattle.sd_mem.specs.mem.Shaped.{Shaped, alone}
use Rattle.sd_cut.specs.declared.refusal.CutError.{CutError}
use Rattle.sd_cut.specs.declared.refusal.CutError.TheVariants.{Outside}
use Rattle.sd_cut.specs.declared.refusal.CutError.TheVariants as uncut
use Rattle.sd_cut.specs.declared.window.Window.{Window}
use Rattle.sd_cut.specs.Cutting as cutting
use Rattle.sd_cut.specs.Fits.{AreValuesOfWidth}
use Rattle.sd_cut.specs.Windowed.{window_at}
use Rattle.sd_cut.specs.Overlaid.{Overlaid}
use Rattle.sd_cut.specs.Using.{committed, Agrees}
use Rattle.sd_part.specs.Cut.{IsCutFor, IsJustCut, IsMadeFor, HasShapeOf}
use Rattle.sd_part.specs.Boxes.{NumberBox}
use Rattle.sd_part.specs.Hulls.{AreWindowsFor}
use Rattle.sd_part.specs.Part.{part_term, PartComesTo}
use Rattle.sd_part.specs.declared.part_end.PartEnd.{PartEnd}
use Rattle.sd_piece.specs.declared.piece.Piece.{Piece}
use Rattle.sd_piece.specs.declared.piece.PieceAt.{PieceAt}
use Rattle.sd_piece.specs.declared.error.PieceError.{PieceError}
use Rattle.sd_piece.specs.declared.error.PieceError.TheVariants.{NoItem, Foreign, Memory}
use Rattle.sd_piece.specs.Held.{HasTouched}
use Rattle.sd_piece.specs.Piece.{HasValues, HasPiece, item_meant, boxes_of}

-- a piece may be run: it is fit and its transitions lead upwards, its boxes are those of its accesses, and what was cut is what they ask, untouched
pub record MayRun (tree : GraphTree) (piece : Piece) : Type 0 where
  pub fits : IsFit (item_tree piece.item).1 []
  pub leads : KindLeadsUpwards (item_tree piece.item).1
  pub boxes : (nodes : List ℕ) × (piece.boxes.items ≡ boxes_of (containers_of tree) piece.values.items (item_tree piece.item).1 nodes)
  pub holds : IsCutFor piece.boxes.items piece.cut

-- what is cut of a memory for a piece that is meant: the piece of the item there is, what the memory has of what it touches, as it is
pub record IsCutFrom (tree : GraphTree) (memory : Shaped) (values : List ℤ) (at : PieceAt) (piece : Piece) : Type 0 where
  pub meant : (item : PlainItem) × (item_meant tree at ≡ Some item) × HasValues values at.first at.count item.1
      × (item_tree piece.item ≡ (item.0, kind_piece values at.first at.count item.1))
  pub same_state : piece.state ≡ at.state
  pub same_values : piece.values.items ≡ values
  pub may : MayRun tree piece
  pub touched : HasTouched (containers_of tree) memory piece.boxes.items
  pub just : IsJustCut piece.boxes.items memory piece.cut
  pub made : (over : Shaped) → HasShapeOf over memory → AreElementsOfWidth (alone over) → AreValuesOfWidth (alone over) → IsMadeFor piece.cut (containers_of tree) over

-- a memory has not what a piece of an item that may be there touches
abbrev pub IsForeign : GraphTree → Shaped → (values : List ℤ) → PieceAt → Option PlainItem → Type 0
IsForeign tree memory values at None = ⊥
IsForeign tree memory values at (Some item) =
    (nodes : List ℕ) × (HasTouched (containers_of tree) memory (boxes_of (containers_of tree) values (kind_piece values at.first at.count item.1) nodes) → ⊥)

-- why windows and streams of boxes are not cut: an element of a window is not there, or want of memory
abbrev pub IsUncut : List NumberBox → Shaped → CutError → Type 0
IsUncut boxes memory (Outside container) = (windows : List (Option Window)) × AreWindowsFor boxes windows × cutting.IsRefusal memory (window_at windows) (Outside container)
IsUncut boxes memory (uncut.Memory) = ⊤

-- why a piece is not cut
abbrev pub IsRefusal : GraphTree → Shaped → (values : List ℤ) → PieceAt → PieceError → Type 0
IsRefusal tree memory values at NoItem = HasPiece tree values at → ⊥
IsRefusal tree memory values at Foreign = HasPiece tree values at × IsForeign tree memory values at (item_meant tree at)
IsRefusal tree memory values at Memory = ⊤

-- A piece ended so, with so many turns: over each memory for which it was cut, and with which what is left of the cut agrees, its own work comes to this end, and to the memory in
-- which what is left is committed
abbrev pub IsPieceRun : GraphTree → Piece → (turns : ℕ) → (left : Overlaid) → PartEnd → Type 0
IsPieceRun tree piece turns left end =
    (over : Shaped) → IsMadeFor piece.cut (containers_of tree) over → Agrees left over → (most : ℕ)
    → PartComesTo end turns (alone (committed left over))
    (big_step (part_term tree (own_reach (containers_of tree)) piece.state piece.values.items (item_tree piece.item).1 (item_tree piece.item).0) most (alone over) turns)
