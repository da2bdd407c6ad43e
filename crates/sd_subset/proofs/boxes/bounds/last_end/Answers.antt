use Rattle.sd_range.specs.Arithmetic.{affine_zero}
use Rattle.sd_subset.proofs.boxes_lemmas.Lasts.{last_of-get}
use Rattle.sd_subset.proofs.boxes.bounds.last_end.Goals as goal

pub returns-in-Some : goal.returns-in-Some
returns-in-Some c = rw (last_of-get affine_zero c.args.ends.now c.in-Some.end.now c.in-Some.ensures.value) c.copy_of.ensures.same
