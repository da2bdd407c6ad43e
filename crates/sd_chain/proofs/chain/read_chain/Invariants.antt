use Rattle.std.proofs.Common.{◌≡◌, ◌+◌, ◌-◌, ◌≤◌, length, option_map}
use Rattle.sd_chain.specs.Parts.{parts_left}
use Rattle.sd_chain.specs.Chain.{chain_reading, steps_of}
use Rattle.sd_chain.proofs.Lines.{behind, left_of}
use Rattle.sd_chain.proofs.chain.read_chain.Given as goal

-- the steps of the rest come behind those that were read, and no line number passes its end
abbrev pub invariant-loop-rest : goal.invariant-loop-rest
invariant-loop-rest l = record {
  read : chain_reading l.text ≡ behind l.steps (steps_of l.number (256 - length l.steps) (parts_left 10 (option_map (λ rest. rest.now) l.rest)));
  few : length l.steps ≤ 256;
  numbered : l.number + left_of (option_map (λ rest. rest.now) l.rest) ≤ length l.text + 2;
}

abbrev pub decreases-loop-rest : goal.decreases-loop-rest
decreases-loop-rest l = left_of (option_map (λ rest. rest.now) l.rest)
