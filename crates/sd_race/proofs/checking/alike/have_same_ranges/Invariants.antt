use Rattle.std.proofs.Common.{◌≡◌, length}
use Rattle.sd_race.proofs.checking.alike.have_same_ranges.Given as goal

-- the lists are the same where what is left of them is
abbrev pub invariant-loop-first : goal.invariant-loop-first
invariant-loop-first l = l.left ≡ l.right → l.params ≡ l.others

-- what is left
abbrev pub decreases-loop-first : goal.decreases-loop-first
decreases-loop-first l = length l.left
