use Rattle.std.proofs.Common.{ℕ, ◌≤◌, ◌<◌, [], length}
use Rattle.std.specs.Prelude.{slice_index_or}
use Rattle.sd_range.specs.Points.{product}
use Rattle.sd_tasklet.proofs.tasklet.whole.have_room.Given as goal

-- those so far have enough
abbrev pub invariant-loop-k : goal.invariant-loop-k
invariant-loop-k l = (j : ℕ) → j < l.k → product (slice_index_or l.all j []) ≤ length (slice_index_or l.values j [])
