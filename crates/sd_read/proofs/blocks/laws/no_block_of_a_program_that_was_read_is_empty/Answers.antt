use Rattle.sd_read.proofs.blocks_lemmas.Texts.{blocks_written}
use Rattle.sd_read.proofs.blocks.laws.no_block_of_a_program_that_was_read_is_empty.Goals as goal

pub returns : goal.returns
returns c = blocks_written
