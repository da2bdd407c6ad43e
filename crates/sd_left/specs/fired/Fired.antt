-- What a move at a path of what is left comes to.
use Rattle.std.specs.Prelude.{◌≡◌, ℕ, ℤ, List, ◌∷◌, true, false, drop}
use Rattle.sd_work.specs.Memory.{Memory}
use Rattle.sd_work.specs.Change.{innermost}
use Rattle.sd_work.specs.Exit.{Values}
use Rattle.sd_work.specs.Residual.{Term}
use Rattle.sd_work.specs.Moves.{Path}
use Rattle.sd_work.specs.Fire.{fire}
use Rattle.sd_work.specs.BigStep.{Reached}
use Rattle.sd_graph.specs.PlainTree.{KindTree, ItemTrees, GraphTree}
use Rattle.sd_graph.specs.Context.{Reach, Context}
use Rattle.sd_graph.specs.declared.place.Frame.{Frame}
use Rattle.sd_graph.specs.declared.place.Place.{Place}
use Rattle.sd_mem.specs.machine.Coming.{state_term}
use Rattle.sd_mem.specs.declared.machine.end.End.{End}
use Rattle.sd_leaves.specs.moves.Moved.{IsMoved}
use Rattle.sd_left.specs.tree.Standing.{BodyLeft, RunLeft, value_at, body_left, element_term, element_left, state_left}

-- the move at this path of old work comes to this from here
abbrev pub IsFired : (old : Term Place) → Path → (before : Reached) → End → (after : Reached) → (left : Term Place) → Type 0
IsFired old path before end after left = IsMoved (fire old path before.memories) old before end after left

-- inside an owner of this memory, from outside of it
pub record IsEntered (own : Memory) (outside inside : Reached) : Type 0 where
  pub memories : inside.memories ≡ own ∷ outside.memories
  pub turns : inside.turns ≡ outside.turns

-- outside of an owner, from inside of it, and the memory that it has then
pub record IsLeft (inside : Reached) (kept : Memory) (outside : Reached) : Type 0 where
  pub own : kept ≡ innermost inside.memories
  pub memories : outside.memories ≡ drop 1 inside.memories
  pub turns : outside.turns ≡ inside.turns

-- the move at this path of the items of a point, an element or a run, inside its memory, comes to this; its numbers stay
pub record IsBodyFired (old : BodyLeft) (items : ItemTrees) (context : Context) (path : Path) (before : Reached) (end : End) (after : Reached) (new : BodyLeft) : Type 0 where
  pub inside : Reached
  pub behind : Reached
  pub entered : IsEntered old.own before inside
  pub fired : IsFired (body_left old items context) path inside end behind (body_left new items context)
  pub left : IsLeft behind new.own after
  pub at : new.at ≡ old.at

-- an element of a consume scope that begins with this value
pub record IsElementBegun (kind : KindTree) (context : Context) (value : ℤ) (element : BodyLeft) : Type 0 where
  pub at : value_at element.at ≡ value
  pub begun : element_left element kind context ≡ element_term kind context value

-- a run in which this state begins with these values of the variables, over this memory
pub record IsStateBegun (tree : GraphTree) (reach : ℕ → Reach) (around : List Frame) (kept : Memory) (next : ℕ) (behind : Values) (run : RunLeft) : Type 0 where
  pub going : run.ended ≡ false
  pub state : run.state ≡ next
  pub values : run.body.at ≡ behind
  pub own : run.body.own ≡ kept
  pub begun : state_left run tree reach around ≡ state_term tree reach around next behind

-- a run that has ended with this memory
pub record IsEnded (kept : Memory) (run : RunLeft) : Type 0 where
  pub over : run.ended ≡ true
  pub own : run.body.own ≡ kept
