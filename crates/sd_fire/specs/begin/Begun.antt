-- Work that begins, as the code keeps it.
use Rattle.std.specs.Prelude.{◌≡◌, ℕ, ℤ, List}
use Rattle.sd_work.specs.Memory.{Memory}
use Rattle.sd_graph.specs.PlainTree.{KindTree, ItemTrees, GraphTree}
use Rattle.sd_graph.specs.Context.{Reach, Context}
use Rattle.sd_graph.specs.Unfold.{list_of, unfold_kind, unfold_items, unfold_graph}
use Rattle.sd_graph.specs.declared.place.Frame.{Frame}
use Rattle.sd_left.specs.tree.Standing.{BodyLeft, body_left, run_left}
use Rattle.sd_left.specs.declared.left.left.Left.{Left as LeftNow}
use Rattle.sd_left.specs.declared.left.left.Run.{Run as RunNow}
use Rattle.sd_left.specs.left.Kept.{left_of, run_kept}

-- an item in a line has to do what it unfolds to
abbrev pub IsItemBegun : KindTree → (line : ℕ) → Context → LeftNow → Type 0
IsItemBegun kind line context left = left_of left kind line context ≡ unfold_kind kind line context

-- so do items with these numbers, over this memory
pub record IsBodyBegun (items : ItemTrees) (context : Context) (numbers : List ℤ) (memory : Memory) (body : BodyLeft) : Type 0 where
  pub at : body.at ≡ numbers
  pub own : body.own ≡ memory
  pub begun : body_left body items context ≡ list_of context items (unfold_items items context)

-- a run of a graph over this memory, which reaches its containers so and has these frames round it
abbrev pub IsRunBegun : GraphTree → (reach : ℕ → Reach) → (around : List Frame) → (own : Memory) → RunNow → Type 0
IsRunBegun tree reach around own run = run_left (run_kept run) tree reach around ≡ unfold_graph tree reach own around
