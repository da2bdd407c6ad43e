use Rattle.std.proofs.Common.{◌≡◌, length}
use Rattle.sd_chain.specs.Picks.{words}
use Rattle.sd_chain.specs.Chain.{sizes_of}
use Rattle.sd_chain.proofs.Paths.{before}
use Rattle.sd_chain.proofs.line.sizes_of.Given as goal

-- the sizes of the rest come behind those that were read
abbrev pub invariant-loop-word : goal.invariant-loop-word
invariant-loop-word l = sizes_of (words l.text) ≡ before l.sizes (sizes_of (words l.rest))

abbrev pub decreases-loop-word : goal.decreases-loop-word
decreases-loop-word l = length l.rest
