use Rattle.sd_work.specs.Touch.{Touches}
use Rattle.sd_pieces.proofs.course_lemmas.Touched.{course-by}
use Rattle.sd_pieces.proofs.course.laws.a_course_is_of_what_its_work_touches.Goals as goal

pub returns : goal.returns
returns g c = λ term. course-by (Touches term) term (λ touch h. h)
