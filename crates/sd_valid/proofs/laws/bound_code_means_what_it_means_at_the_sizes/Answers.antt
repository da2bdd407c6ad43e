use Rattle.sd_valid.proofs.BoundMeaning.{meaning-bound}
use Rattle.sd_valid.proofs.laws.bound_code_means_what_it_means_at_the_sizes.Goals as goal

pub returns : goal.returns
returns c = λ sizes values code inputs extents fit. meaning-bound sizes values code inputs extents fit
