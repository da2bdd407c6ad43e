use Rattle.sd_json.proofs.Full.{full}
use Rattle.sd_json.proofs.laws.a_shape_has_a_number_for_each_element.Goals as goal

pub returns : goal.returns
returns c = full
