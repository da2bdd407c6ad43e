use Rattle.std.proofs.Common.{◌≡◌, map, take}
use Rattle.std.specs.Int.{int_min}
use Rattle.std.specs.List.{All, fold}
use Rattle.sd_range.specs.Affine.{affine_value, IsEvaluable}
use Rattle.sd_range.proofs.axis.least_end.Given as goal

-- the least of the first end and those so far
abbrev pub invariant-loop-end : goal.invariant-loop-end
invariant-loop-end l = record {
  evaluable : All (IsEvaluable l.env.values) l.others;
  least : l.least ≡ fold int_min l.initial.least (map (affine_value l.env.values) (take l.end-index l.others));
}
