use Rattle.sd_fuse.proofs.renamed_lemmas.Renaming.{items-renamed}
use Rattle.sd_fuse.proofs.renamed.laws.renamed_items_do_the_same_at_the_values_of_the_old_names.Goals as goal

pub returns : goal.returns
returns c = items-renamed
