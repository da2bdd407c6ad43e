use Rattle.std.proofs.Common.{drop}
use Rattle.std.specs.List.{Contains}
use Rattle.sd_range.specs.Arithmetic.{affine_difference}
use Rattle.sd_range.specs.declared.affine.Affine.{Affine}
use Rattle.sd_subset.specs.boxes.Box.{greatest}
use Rattle.sd_subset.specs.boxes.Apart as definition
use Rattle.sd_subset.proofs.boxes.harmless.is_single.Given as goal

-- where the parameter is single, one of the ends that are left shows it
abbrev pub invariant-loop-end : goal.invariant-loop-end
invariant-loop-end l = definition.IsSingle l.around l.parameter →
    (end : Affine) × Contains (drop l.end-index l.parameter.1.ends) end × definition.IsBelow (greatest l.around (affine_difference end l.parameter.1.begin)) l.parameter.1.step
