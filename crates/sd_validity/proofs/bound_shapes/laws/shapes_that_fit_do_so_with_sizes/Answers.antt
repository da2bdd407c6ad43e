use Rattle.sd_validity.proofs.bound_shapes_lemmas.Moved.{parameter_bound, kind_bound}
use Rattle.sd_validity.proofs.bound_shapes.laws.shapes_that_fit_do_so_with_sizes.Goals as goal

pub returns : goal.returns
returns c = record { links = parameter_bound; moved = kind_bound }
