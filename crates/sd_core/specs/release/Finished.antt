-- Finished points of maps of tasklets.
use Rattle.std.specs.Prelude.{List, [], ◌∷◌, Option, Some, None, Ok, Bool, true, false, ◌&&◌}
use Rattle.sd_work.specs.Leaf.{is_done}
use Rattle.sd_leaves.specs.moves.Left.{instance_left}
use Rattle.sd_leaves.specs.declared.moves.instance.Instance.{Instance}
use Rattle.sd_left.specs.declared.sparse.point.Begun.{Begun}

-- nothing is left of each of these tasklets
abbrev pub are_over : List Instance → Bool
are_over [] = true
are_over (task ∷ tasks) = is_done (instance_left (λ values. Ok []) task) && are_over tasks

-- a point has begun, and nothing is left of it
abbrev pub is_over : Option Begun → Bool
is_over None = false
is_over (Some begun) = are_over begun.tasks.items
