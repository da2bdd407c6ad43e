use Rattle.sd_made_valid.proofs.fits_lemmas.Read.{read_shaped, nesting_kept, shapes_kept}
use Rattle.sd_made_valid.proofs.fits.laws.the_bound_graph_of_a_program_that_was_read_has_right_shapes.Goals as goal

pub returns : goal.returns
returns c = record { shaped = read_shaped; nesting = nesting_kept; shapes = shapes_kept }
