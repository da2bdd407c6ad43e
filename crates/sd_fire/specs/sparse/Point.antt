-- The move of a tasklet at a point of a map.
use Rattle.std.specs.Prelude.{ℕ, List, map, Some, Bool}
use Rattle.sd_work.specs.Residual.{list, Items}
use Rattle.sd_work.specs.Moves.{Path}
use Rattle.sd_work.specs.BigStep.{Reached}
use Rattle.sd_graph.specs.PlainTree.{ItemTrees, GraphTree}
use Rattle.sd_graph.specs.TreeParts.{containers_of}
use Rattle.sd_graph.specs.Context.{Context, private_memory}
use Rattle.sd_mem.specs.declared.machine.end.End.{End}
use Rattle.sd_left.specs.tree.Standing.{parts_left}
use Rattle.sd_left.specs.declared.sparse.point.Begun.{Begun}
use Rattle.sd_left.specs.fired.Fired.{IsFired, IsEntered, IsLeft}
use Rattle.sd_left.specs.sparse.Terms.{task_left, memory_or}

-- inside the private containers of the point, which are those that were made or begin now, its tasklets move so
pub record IsPointFired (old : Begun) (private : List ℕ) (items : ItemTrees) (tree : GraphTree) (context : Context) (path : Path) (before after : Reached) (new : Begun) (end : End) : Type 0 where
  pub inside : Reached
  pub behind : Reached
  pub entered : IsEntered (memory_or old.own (private_memory (containers_of tree) private)) before inside
  pub fired : (order : ℕ → ℕ → Bool) → IsFired (list Items order (parts_left (map task_left (map Some old.tasks.items)) items context)) path inside end behind (list Items order (parts_left (map task_left (map Some new.tasks.items)) items context))
  pub left : IsLeft behind (memory_or new.own (private_memory (containers_of tree) private)) after
