use Rattle.sd_cut.proofs.Merging.{kept-agree}
use Rattle.sd_cut.proofs.laws.kept_elements_are_as_they_were.Goals as goal

pub returns : goal.returns
returns c = kept-agree
