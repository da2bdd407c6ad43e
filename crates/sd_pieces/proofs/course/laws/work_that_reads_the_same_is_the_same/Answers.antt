use Rattle.sd_pieces.proofs.course_lemmas.Courses.{told-course, course-depends}
use Rattle.sd_pieces.proofs.course_lemmas.ExactTurns.{course-exact}
use Rattle.sd_pieces.proofs.course_lemmas.MoreTurns.{course-more}
use Rattle.sd_pieces.proofs.course.laws.work_that_reads_the_same_is_the_same.Goals as goal

pub returns-clause-course : goal.returns-clause-course
returns-clause-course g c = told-course

pub returns-clause-same : goal.returns-clause-same
returns-clause-same g c = course-depends

pub returns-clause-more : goal.returns-clause-more
returns-clause-more g c = course-more

pub returns-clause-exact : goal.returns-clause-exact
returns-clause-exact g c = course-exact
