use Rattle.sd_pieces.proofs.course_lemmas.Shapes.{work-shape}
use Rattle.sd_pieces.proofs.course.laws.work_keeps_the_shape_of_its_memories.Goals as goal

pub returns : goal.returns
returns g c = work-shape
