-- The pieces of a board's work, as workers do them.
use Rattle.std.specs.Prelude.{◌≡◌, ℕ, ℤ, List, slice_get, Some}
use Rattle.std.specs.List.{AllZip}
use Rattle.sd_pieces.specs.history.Pieces.{Piece}
use Rattle.sd_graph.specs.PlainTree.{GraphTree}
use Rattle.sd_graph.specs.TreeFold.{PlainItem, graph_tree}
use Rattle.sd_graph.specs.TreeParts.{containers_of}
use Rattle.sd_graph.specs.Context.{own_reach}
use Rattle.sd_graph.specs.declared.graph.Sdfg.{Sdfg}
use Rattle.sd_graph.specs.declared.place.Place.{Place}
use Rattle.sd_validity.specs.rules.Valid.{IsValid}
use Rattle.sd_windows.specs.MapPieces.{kind_piece}
use Rattle.sd_mem.specs.mem.Shaped.{Shaped}
use Rattle.sd_part.specs.Part.{part_term}
use Rattle.sd_piece.specs.Piece.{item_meant, HasValues}
use Rattle.sd_piece.specs.Run.{IsCutFrom}
use Rattle.sd_piece.specs.declared.piece.Piece.{Piece as CutPiece}
use Rattle.sd_piece.specs.declared.piece.PieceAt.{PieceAt}
use Rattle.sd_board.specs.Assignment.{Assignment, IsLikeOpening}

-- what workers have of a board's work: the graph, the values of the variables, where each piece is, and with how many turns each is done
pub record StateWork : Type 0 where
  pub graph : Sdfg
  pub values : List ℤ
  pub places : List PieceAt
  pub turns : ℕ

-- what a piece has to do is the work of its place: that of so many values of the item there
pub record IsWorkAt (tree : GraphTree) (values : List ℤ) (at : PieceAt) (piece : Piece Place) : Type 0 where
  pub item : PlainItem
  pub meant : item_meant tree at ≡ Some item
  pub has : HasValues values at.first at.count item.1
  pub same_item : at.item ≡ piece.item
  pub term : piece.term ≡ part_term tree (own_reach (containers_of tree)) at.state values (kind_piece values at.first at.count item.1) item.0

-- the workers' graph is valid, and they have the place of each piece of the work, and its budget
pub record IsWorkOf (a : Assignment) (work : StateWork) : Type 0 where
  pub valid : IsValid (graph_tree work.graph)
  pub each : AllZip (IsWorkAt (graph_tree work.graph) work.values) work.places a.work.pieces
  pub budget : work.turns ≡ a.budget

-- this was cut for the piece of a number, out of a memory like the one with which the work opens
pub record IsCutOf (a : Assignment) (work : StateWork) (number : ℕ) (piece : CutPiece) : Type 0 where
  pub at : PieceAt
  pub is_at : slice_get work.places number ≡ Some at
  pub memory : Shaped
  pub like : IsLikeOpening a memory
  pub cut : IsCutFrom (graph_tree work.graph) memory work.values at piece
