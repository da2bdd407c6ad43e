use Rattle.std.proofs.Common.{◌≡◌, ◌≤◌, drop}
use Rattle.sd_phrase.specs.Parts.{is_balanced, is_balanced_from}
use Rattle.sd_phrase.proofs.parts.is_balanced.Given as goal

abbrev pub invariant-loop-at : goal.invariant-loop-at
invariant-loop-at l = record {
  depth_small : l.depth ≤ l.at;
  same : is_balanced l.tokens ≡ is_balanced_from l.depth (drop l.at l.tokens);
}
