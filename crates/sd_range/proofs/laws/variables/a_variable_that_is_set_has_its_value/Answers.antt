use Rattle.sd_range.proofs.Variables.{variable_set, variable_kept, variable_replaced}
use Rattle.sd_range.proofs.laws.variables.a_variable_that_is_set_has_its_value.Goals as goal

pub returns : goal.returns
returns c = record { set = variable_set; kept = variable_kept; replaced = variable_replaced }
