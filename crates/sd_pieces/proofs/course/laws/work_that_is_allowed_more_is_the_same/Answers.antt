use Rattle.sd_pieces.proofs.course_lemmas.MoreAllowed.{more-allowed}
use Rattle.sd_pieces.proofs.course.laws.work_that_is_allowed_more_is_the_same.Goals as goal

pub returns : goal.returns
returns g c = more-allowed
