use Rattle.sd_validity.proofs.rules_lemmas.FirstLemmas.{first_is}
use Rattle.sd_validity.proofs.rules.laws.the_place_that_is_told_is_the_first_that_fails.Goals as goal

pub returns : goal.returns
returns c = first_is
