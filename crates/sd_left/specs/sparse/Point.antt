-- Points of a map of tasklets, that have begun or not, and what they tell.
use Rattle.std.specs.Prelude.{ℕ, nat_lt, List, [], map, Option, Some, None, Ok, true, false, replicate}
use Rattle.std.specs.List.{sum}
use Rattle.sd_work.specs.Leaf.{is_done}
use Rattle.sd_leaves.specs.moves.Left.{instance_left}
use Rattle.sd_leaves.specs.declared.moves.instance.Instance.{Instance}
use Rattle.sd_order.specs.table.Told.{told}
use Rattle.sd_left.specs.declared.sparse.point.Begun.{Begun}
use Rattle.sd_left.specs.declared.sparse.point.Tasks.{Tasks}
use Rattle.sd_left.specs.left.Telling.{Telling, leaf_tells, unfinished_told, flags_told, ready_moves}

-- what is left of each tasklet of a point; none has begun where the point has not
abbrev pub tasks_at : (count : ℕ) → Option Begun → List (Option Instance)
tasks_at count None = replicate count None
tasks_at count (Some begun) = map Some begun.tasks.items

-- a tasklet has one move until it is done
abbrev pub task_tells : Option Instance → Telling
task_tells None = leaf_tells false
task_tells (Some instance) = leaf_tells (is_done (instance_left (λ values. Ok []) instance))

abbrev pub tellings_at : Tasks → Option Begun → List Telling
tellings_at tasks point = map task_tells (tasks_at tasks.count point)

-- the moves of each tasklet that may go on, and none of another
abbrev pub ready_at : Tasks → Option Begun → List ℕ
ready_at tasks point = ready_moves (told tasks.order) (flags_told (tellings_at tasks point)) 0 (tellings_at tasks point)

-- what a point tells; no consume scope is in it
abbrev pub point_tells : Tasks → Option Begun → Telling
point_tells tasks point = record {
  is_unfinished = nat_lt 0 (sum (unfinished_told (tellings_at tasks point)));
  moves = sum (ready_at tasks point);
  pools = 0;
  is_right = true;
}
