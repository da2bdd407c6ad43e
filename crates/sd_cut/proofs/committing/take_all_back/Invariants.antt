use Rattle.std.proofs.Common.{◌≡◌, ◌≤◌}
use Rattle.sd_cut.specs.Undo.{all_taken_back}
use Rattle.sd_cut.proofs.committing.take_all_back.Given as goal

-- those of the streams before are left to be taken back
abbrev pub invariant-loop-before : goal.invariant-loop-before
invariant-loop-before l = record {
  within : l.before ≤ l.count;
  same : all_taken_back l.before l.left l.streams l.memory ≡ all_taken_back l.count l.left l.streams l.initial.memory;
}

abbrev pub decreases-loop-before : goal.decreases-loop-before
decreases-loop-before l = l.before
