-- What a read and an evaluation come to.
use Rattle.std.specs.Prelude.{◌≡◌, ⊤, suc, ℤ, List, length, Vec, Result, Ok, Err}
use Rattle.std.specs.declared.alloc.Global.{Global}
use Rattle.sd_work.specs.Leaf.{Leaf, doing}
use Rattle.sd_work.specs.Move.{Move}
use Rattle.sd_work.specs.BigStep.{Reached}
use Rattle.sd_graph.specs.declared.place.Place.{Place}
use Rattle.sd_mem.specs.declared.machine.end.End.{End}
use Rattle.sd_mem.specs.declared.machine.end.End.TheVariants.{Finished, Fault, OutOfTurns}
use Rattle.sd_leaves.specs.declared.moves.todo.Todo.{Todo}
use Rattle.sd_leaves.specs.moves.Left.{all_told}
use Rattle.sd_leaves.specs.moves.Moved.{IsMoved}

-- the move of an instance that evaluates, whatever was left before it
abbrev pub IsEvaluated : Move Place Leaf → (before after : Reached) → Result (Vec Todo Global) End → Type 0
IsEvaluated move before after (Ok todos) = (old : Leaf) → IsMoved move old before Finished after (doing (all_told todos.items))
IsEvaluated move before after (Err end) = (old left : Leaf) → IsMoved move old before end after left

-- a read that ends well adds one value
abbrev pub IsCounted : End → (before after : List ℤ) → Type 0
IsCounted Finished before after = length after ≡ suc (length before)
IsCounted (Fault place kind) before after = ⊤
IsCounted OutOfTurns before after = ⊤
