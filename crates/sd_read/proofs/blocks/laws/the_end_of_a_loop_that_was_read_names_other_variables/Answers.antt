use Rattle.sd_read.proofs.blocks_lemmas.Texts.{ends_name_others}
use Rattle.sd_read.proofs.blocks.laws.the_end_of_a_loop_that_was_read_names_other_variables.Goals as goal

pub returns : goal.returns
returns c = ends_name_others
