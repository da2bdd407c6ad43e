use Rattle.sd_made.proofs.shapes_lemmas.Kept.{nesting_bound, shapes_bound}
use Rattle.sd_made.proofs.shapes.laws.the_bound_graph_of_a_program_keeps_the_shapes_of_the_graph.Goals as goal

pub returns : goal.returns
returns c = record { nesting = nesting_bound; shapes = shapes_bound }
