use Rattle.std.proofs.Common.{◌+◌, ◌*◌, length}
use Rattle.sd_mapx.proofs.found.+finding.Given as goal

-- the place gets shorter
abbrev pub decreases-found_among : goal.decreases-found_among
decreases-found_among l = 3 * length l.place.now

abbrev pub decreases-found_in_states : goal.decreases-found_in_states
decreases-found_in_states l = 3 * length l.place.now

abbrev pub decreases-found_at : goal.decreases-found_at
decreases-found_at l = 3 * length l.place.now + 1

abbrev pub decreases-found_in : goal.decreases-found_in
decreases-found_in l = 3 * length l.place.now + 2
