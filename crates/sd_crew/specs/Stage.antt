-- The work of a state on a board.
use Rattle.std.specs.Prelude.{ℕ, List}
use Rattle.sd_graph.specs.PlainTree.{GraphTree}
use Rattle.sd_graph.specs.TreeFold.{graph_tree}
use Rattle.sd_mem.specs.mem.Shaped.{Shaped}
use Rattle.sd_safe.specs.pieces.ItemPieces.{state_place, IsStateInPieces}
use Rattle.sd_board.specs.Assignment.{Assignment}
use Rattle.sd_board.specs.States.{state_assignment}
use Rattle.sd_crew.specs.Places.{counts_of}
use Rattle.sd_crew.specs.declared.stage.Stage.{Stage}

-- the graph of a stage
abbrev pub tree_of : Stage → GraphTree
tree_of stage = graph_tree stage.bound.now.graph

-- how many values each piece of an item of its state has
abbrev pub stage_counts : Stage → (item : ℕ) → List ℕ
stage_counts stage = counts_of (tree_of stage) stage.state stage.values.now stage.workers

-- the pieces of its state's items, as they are done on a board that opens with this memory
abbrev pub work_of : Stage → (opening : Shaped) → Assignment
work_of stage opening = state_assignment (tree_of stage) stage.state stage.values.now (stage_counts stage) opening stage.turns

-- its graph is valid and accepted, and its items are cut into these pieces
abbrev pub IsInPieces : Stage → Type 0
IsInPieces stage = IsStateInPieces (tree_of stage) stage.state (stage_counts stage) (state_place (tree_of stage) stage.state stage.values.now)
