use Rattle.sd_words.proofs.Files.{alone, with_chain}
use Rattle.sd_words.proofs.laws.files_alone_are_a_run.Goals as goal

pub returns : goal.returns
returns c = record { alone = alone; with_chain = with_chain }
