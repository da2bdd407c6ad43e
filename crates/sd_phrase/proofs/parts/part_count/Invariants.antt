use Rattle.std.proofs.Common.{◌≡◌, ◌≤◌, ◌+◌, drop, length}
use Rattle.sd_phrase.specs.Parts.{parts_from, parts_of}
use Rattle.sd_phrase.proofs.parts.part_count.Given as goal

abbrev pub invariant-loop-at : goal.invariant-loop-at
invariant-loop-at l = record {
  depth_small : l.depth ≤ l.at;
  count_small : l.count ≤ l.at + 1;
  count : l.count + length (parts_from l.mark l.depth (drop l.at l.tokens)) ≡ length (parts_of l.mark l.tokens) + 1;
}
