-- The pieces of the items of a list, each as a part of its item.
use Rattle.std.specs.Prelude.{◌≡◌, ℕ, suc, ◌<◌, ℤ, List, [], ◌++◌, map}
use Rattle.std.specs.List.{AllByRecursion}
use Rattle.sd_work.specs.Exit.{Values}
use Rattle.sd_pieces.specs.history.Pieces.{Piece, Work}
use Rattle.sd_graph.specs.PlainTree.{KindTree, ItemTrees, no_item, and_item, GraphTree, graph}
use Rattle.sd_graph.specs.TreeParts.{containers_of, states_of_graph, items_at}
use Rattle.sd_graph.specs.Context.{Context, own_reach}
use Rattle.sd_graph.specs.Wiring.{before}
use Rattle.sd_graph.specs.Unfold.{at_state, unfold_kind}
use Rattle.sd_graph.specs.declared.place.Place.{Place}
use Rattle.sd_windows.specs.MapPieces.{kind_pieces, pieces_of_items, CutAllItems}
use Rattle.sd_validity.specs.rules.Valid.{IsValid}
use Rattle.sd_race.specs.race.Pairs.{IsGraphAccepted}
use Rattle.sd_safe.specs.normal.NormalForm.{IsGraphNormal}

-- a piece: the number and the line of its item, and the part of the item that it is
pub record ItemPiece : Type 0 where
  pub item : ℕ
  pub line : ℕ
  pub kind : KindTree

-- the pieces of items that are numbered from this one on, in order; for each item there are the numbers of values of its pieces
abbrev pub item_pieces : (values : List ℤ) → (counts : ℕ → List ℕ) → (item : ℕ) → ItemTrees → List ItemPiece
item_pieces values counts item no_item = []
item_pieces values counts item (and_item line kind items) =
    map (λ part. record { item = item; line = line; kind = part }) (kind_pieces values (counts item) kind) ++ item_pieces values counts (suc item) items

-- what a piece has to do
abbrev pub piece_work : Context → ItemPiece → Piece Place
piece_work context piece = record { item = piece.item; term = unfold_kind piece.kind piece.line context }

-- the items of a state of a graph
abbrev pub state_items : GraphTree → (state : ℕ) → ItemTrees
state_items tree state = items_at (states_of_graph tree) state

-- where the items of a state stand in a run of the graph, over the graph's own memory
abbrev pub state_place : GraphTree → (state : ℕ) → Values → Context
state_place (graph name containers arguments variables symbols states) state values = at_state containers variables states (own_reach containers) [] state values

-- the work of a list of items, in pieces
abbrev pub work_in_pieces : (counts : ℕ → List ℕ) → ItemTrees → Context → Work Place
work_in_pieces counts items context = record { pieces = pieces_of_items counts 0 items context; before = before context.containers items }

-- no piece of a map is without values
abbrev pub HaveSomeValues : (counts : ℕ → List ℕ) → Type 0
HaveSomeValues counts = (item : ℕ) → AllByRecursion (λ count. 0 < count) (counts item)

-- a state of a valid graph that is accepted, whose items stand over the graph's own memory and are cut into pieces that have values
pub record IsStateInPieces (tree : GraphTree) (state : ℕ) (counts : ℕ → List ℕ) (context : Context) : Type 0 where
  pub valid : IsValid tree
  pub normal : IsGraphNormal tree
  pub accepted : IsGraphAccepted tree
  pub same : context.containers ≡ containers_of tree
  pub here : (number : ℕ) → context.reach number ≡ own_reach context.containers number
  pub all : CutAllItems context.values counts 0 (state_items tree state)
  pub some : HaveSomeValues counts
