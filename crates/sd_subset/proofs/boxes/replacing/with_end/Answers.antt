use Rattle.std.proofs.Common.{sym}
use Rattle.sd_range.specs.Arithmetic.{affine_zero}
use Rattle.sd_subset.proofs.boxes_lemmas.Lasts.{last_of-get}
use Rattle.sd_subset.proofs.boxes.replacing.with_end.Goals as goal

pub returns-in-Some : goal.returns-in-Some
returns-in-Some c = rw (last_of-get affine_zero c.args.parameter.now.1.ends c.in-Some.end.now (rw (sym c.as_slice.ensures) c.in-Some.ensures.value)) c.with_in_place.ensures
