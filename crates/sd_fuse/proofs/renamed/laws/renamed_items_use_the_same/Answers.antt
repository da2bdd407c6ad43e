use Rattle.sd_fuse.proofs.renamed_lemmas.Uses.{uses-renamed}
use Rattle.sd_fuse.proofs.renamed.laws.renamed_items_use_the_same.Goals as goal

pub returns : goal.returns
returns c = uses-renamed
