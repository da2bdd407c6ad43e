use Rattle.std.proofs.Common.{◌≡◌, option_map}
use Rattle.sd_chain.specs.Parts.{parts, parts_left}
use Rattle.sd_chain.specs.Chain.{numbers_of}
use Rattle.sd_chain.proofs.Paths.{before}
use Rattle.sd_chain.proofs.Lines.{left_of}
use Rattle.sd_chain.proofs.line.path_of.Given as goal

-- the numbers of the rest come behind those that were read
abbrev pub invariant-loop-rest : goal.invariant-loop-rest
invariant-loop-rest l = numbers_of (parts 46 l.word) ≡ before l.steps (numbers_of (parts_left 46 (option_map (λ rest. rest.now) l.rest)))

abbrev pub decreases-loop-rest : goal.decreases-loop-rest
decreases-loop-rest l = left_of (option_map (λ rest. rest.now) l.rest)
