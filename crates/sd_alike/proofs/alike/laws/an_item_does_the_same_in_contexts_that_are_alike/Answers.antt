use Rattle.sd_alike.proofs.alike_lemmas.SameTrees.{kind_same}
use Rattle.sd_alike.proofs.alike.laws.an_item_does_the_same_in_contexts_that_are_alike.Goals as goal

pub returns : goal.returns
returns c = kind_same
