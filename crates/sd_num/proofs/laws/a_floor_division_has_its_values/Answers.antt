use Rattle.sd_num.proofs.FloorValues.{quotient_is, remainder_is, division_of}
use Rattle.sd_num.proofs.laws.a_floor_division_has_its_values.Goals as goal

pub returns : goal.returns
returns c = λ a b quotient remainder some. (λ division. (quotient_is a b quotient remainder some division, remainder_is a b quotient remainder some division), division_of a b quotient remainder some)
