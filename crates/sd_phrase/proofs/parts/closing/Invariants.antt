use Rattle.std.proofs.Common.{◌≡◌, ◌≤◌, ◌+◌, drop}
use Rattle.sd_phrase.specs.Parts.{closing_from}
use Rattle.sd_phrase.proofs.parts.closing.Given as goal

abbrev pub invariant-loop-at : goal.invariant-loop-at
invariant-loop-at l = record {
  depth_small : l.depth ≤ l.at + 1;
  place : closing_from 1 0 l.tokens ≡ closing_from l.depth l.at (drop l.at l.tokens);
}
