use Rattle.sd_json.proofs.Shapes.{found_has, has_found}
use Rattle.sd_json.proofs.laws.a_shape_is_that_of_all_items.Goals as goal

pub returns : goal.returns
returns c = λ value shape. (found_has value shape, has_found value shape)
