use Rattle.std.proofs.Common.{◌≡◌, ◌≤◌, drop, take}
use Rattle.sd_phrase.specs.Parts.{parts_from, parts_of, mark_from, mark_of}
use Rattle.sd_phrase.proofs.PartLemmas.{behind}
use Rattle.sd_phrase.proofs.parts.mark_of.Given as goal

abbrev pub invariant-loop-at : goal.invariant-loop-at
invariant-loop-at l = record {
  depth_small : l.depth ≤ l.at;
  place : mark_of l.mark l.tokens ≡ mark_from l.mark l.depth l.at (drop l.at l.tokens);
  parts : parts_of l.mark l.tokens ≡ behind (take l.at l.tokens) (parts_from l.mark l.depth (drop l.at l.tokens));
}
