use Rattle.sd_range.proofs.Weights.{constant-combination, weight-combined}
use Rattle.sd_range.proofs.laws.affine.a_combination_is_no_larger_than_its_parts.Goals as goal

pub returns : goal.returns
returns c = record {
  constant = constant-combination;
  weight = λ a b factor. weight-combined a.terms factor b.terms;
}
