use Rattle.std.proofs.Common.{◌≡◌, ◌≤◌, ◌<◌, drop}
use Rattle.std.specs.Prelude.{IfSome}
use Rattle.sd_phrase.specs.Signs.{cut_from, cut_of}
use Rattle.sd_phrase.proofs.cut.cut_of.Given as goal

abbrev pub invariant-loop-at : goal.invariant-loop-at
invariant-loop-at l = record {
  depth_small : l.depth ≤ l.at;
  inside : IfSome l.best (λ p. p.at < l.at);
  place : cut_from l.depth l.after l.at l.best (drop l.at l.tokens) ≡ cut_of l.tokens;
}
