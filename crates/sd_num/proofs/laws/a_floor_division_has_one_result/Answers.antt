use Rattle.sd_num.proofs.FloorUnique.{one_quotient, one_remainder}
use Rattle.sd_num.proofs.laws.a_floor_division_has_one_result.Goals as goal

pub returns : goal.returns
returns c = λ a b quotient remainder other rest first second. (one_quotient a b quotient remainder other rest first second, one_remainder a b quotient remainder other rest first second)
