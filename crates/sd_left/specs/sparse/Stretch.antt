-- Points that stand one after another, kept as a tree of stretches, and what is counted of them.
use Rattle.std.specs.Prelude.{◌≡◌, ◌<◌, ℕ, ◌+◌, ◌*◌, nat_eq, nat_lt, List, ◌++◌, map, length, take, replicate, slice_index_or, Option, None, Bool, true, cond, ◌&&◌, ◌||◌}
use Rattle.std.specs.List.{sum}
use Rattle.sd_list.specs.tally.Found.{IsFound}
use Rattle.sd_moves.specs.numbered.Counts.{one_if}
use Rattle.sd_left.specs.declared.sparse.point.Begun.{Begun}
use Rattle.sd_left.specs.declared.sparse.point.Tasks.{Tasks}
use Rattle.sd_left.specs.declared.sparse.stretch.Counts.{Counts}
use Rattle.sd_left.specs.declared.sparse.stretch.Way.{Way}
use Rattle.sd_left.specs.declared.sparse.stretch.Stretch.{Stretch}
use Rattle.sd_left.specs.declared.sparse.stretch.Stretch.TheVariants.{Fresh, Each, Halves'}
use Rattle.sd_left.specs.left.Telling.{Telling, moves_told, unfinished_told, count_of_first, map_tells}
use Rattle.sd_left.specs.sparse.Point.{point_tells, ready_at}

-- the points, in order; of a fresh stretch none has begun
abbrev pub points_in : Stretch → List (Option Begun)
points_in (Fresh count) = replicate count None
points_in (Each points) = points.items
points_in (Halves' p first counts q others) = points_in first ++ points_in others

-- the moves of each point, and 1 for each at which something is left
abbrev pub moves_each : Tasks → List (Option Begun) → List ℕ
moves_each tasks points = moves_told (map (point_tells tasks) points)

abbrev pub left_each : Tasks → List (Option Begun) → List ℕ
left_each tasks points = unfinished_told (map (point_tells tasks) points)

-- what is counted of points, one by one
abbrev pub counted : Tasks → List (Option Begun) → Counts
counted tasks points = record { points = length points; moves = sum (moves_each tasks points); is_unfinished = nat_lt 0 (sum (left_each tasks points)) }

-- what is counted of so many points that have not begun
abbrev pub fresh_counts : Tasks → (count : ℕ) → Counts
fresh_counts tasks count = record { points = count; moves = count * tasks.moves; is_unfinished = nat_lt 0 count && nat_lt 0 tasks.count }

-- what a stretch tells of its points
abbrev pub counts_of : Tasks → Stretch → Counts
counts_of tasks (Fresh count) = fresh_counts tasks count
counts_of tasks (Each points) = counted tasks points.items
counts_of tasks (Halves' p first counts q others) = counts

-- both counts together
abbrev pub together : Counts → Counts → Counts
together first others = record { points = first.points + others.points; moves = first.moves + others.moves; is_unfinished = first.is_unfinished || others.is_unfinished }

abbrev pub are_same : Counts → Counts → Bool
are_same counts others = nat_eq counts.points others.points && (nat_eq counts.moves others.moves && nat_eq (one_if counts.is_unfinished) (one_if others.is_unfinished))

-- what each two halves tell together is what is kept of them
abbrev pub is_summed : Tasks → Stretch → Bool
is_summed tasks (Fresh count) = true
is_summed tasks (Each points) = true
is_summed tasks (Halves' p first counts q others) = are_same counts (together (counts_of tasks first) (counts_of tasks others)) && (is_summed tasks first && is_summed tasks others)

-- how many moves come next of the first point at which something is left; 0 where nothing is left
abbrev pub first_in : Tasks → Stretch → ℕ
first_in tasks (Fresh count) = cond (nat_lt 0 count && nat_lt 0 tasks.count) tasks.moves 0
first_in tasks (Each points) = count_of_first (moves_each tasks points.items) (left_each tasks points.items)
first_in tasks (Halves' p first counts q others) = cond (counts_of tasks first).is_unfinished (first_in tasks first) (first_in tasks others)

-- what is kept of a point that has not begun is what it tells
abbrev pub is_told : Tasks → Bool
is_told tasks = nat_eq tasks.moves (point_tells tasks None).moves

-- what the points of a map tell, sequential or not
abbrev pub stretch_tells : (sequential : Bool) → Tasks → Stretch → Telling
stretch_tells sequential tasks points = map_tells sequential (record {
  together = record {
    is_unfinished = (counts_of tasks points).is_unfinished;
    moves = (counts_of tasks points).moves;
    pools = 0;
    is_right = is_told tasks && is_summed tasks points;
  };
  first = first_in tasks points;
})

-- the move of a number among those of the points is this one: of a tasklet of a point
pub record IsWay (tasks : Tasks) (points : List (Option Begun)) (unit : ℕ) (way : Way) : Type 0 where
  pub rest : ℕ
  pub after : ℕ
  pub before : sum (take way.point (moves_each tasks points)) + rest ≡ unit
  pub inside : rest < slice_index_or (moves_each tasks points) way.point 0
  pub task : (point : Option Begun) → point ≡ slice_index_or points way.point point → IsFound (ready_at tasks point) rest (record { number = way.task; rest = after })
