use Rattle.std.proofs.Common.{◌≡◌, ◌+◌, length}
use Rattle.sd_chain.specs.Picks.{picks_reading, picks_of, words}
use Rattle.sd_chain.proofs.Reading.{behind}
use Rattle.sd_chain.proofs.picks.read_picks.Given as goal

-- the picks of the rest come behind those that were read
abbrev pub invariant-loop-word : goal.invariant-loop-word
invariant-loop-word l = picks_reading l.text ≡ behind l.picks.items (picks_of (length l.picks.items + 1) (words l.rest))

abbrev pub decreases-loop-word : goal.decreases-loop-word
decreases-loop-word l = length l.rest
