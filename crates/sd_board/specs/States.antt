-- The items of a state of a graph on a board.
use Rattle.std.specs.Prelude.{ℕ, List}
use Rattle.sd_work.specs.Memory.{Memory}
use Rattle.sd_work.specs.Exit.{Values}
use Rattle.sd_work.specs.Residual.{Term}
use Rattle.sd_pieces.specs.history.Pieces.{graph_of_items}
use Rattle.sd_graph.specs.PlainTree.{GraphTree}
use Rattle.sd_graph.specs.Wiring.{before}
use Rattle.sd_graph.specs.Unfold.{unfold_items}
use Rattle.sd_graph.specs.declared.place.Place.{Place}
use Rattle.sd_mem.specs.mem.Shaped.{Shaped}
use Rattle.sd_safe.specs.pieces.ItemPieces.{state_items, state_place, work_in_pieces}
use Rattle.sd_board.specs.Assignment.{Assignment}

-- the items of a state in pieces, as they stand in a run of the graph where the variables have these values; for each item there are the numbers of values of its pieces
abbrev pub state_assignment : GraphTree → (state : ℕ) → Values → (counts : ℕ → List ℕ) → (opening : Shaped) → (budget : ℕ) → Assignment
state_assignment tree state values counts opening budget = record { work = work_in_pieces counts (state_items tree state) (state_place tree state values); opening = opening; budget = budget }

-- the same items as they are, in a graph that has no other state, over this memory
abbrev pub state_run : GraphTree → (state : ℕ) → Values → Memory → Term Place
state_run tree state values own = graph_of_items (before (state_place tree state values).containers (state_items tree state)) (unfold_items (state_items tree state) (state_place tree state values)) own
