use Rattle.sd_scope.proofs.even_lemmas.Scalar.{one_element, no_extents}
use Rattle.sd_scope.proofs.even.laws.a_scalar_subset_has_one_element.Goals as goal

pub returns : goal.returns
returns c = record { element = one_element; extents = no_extents }
