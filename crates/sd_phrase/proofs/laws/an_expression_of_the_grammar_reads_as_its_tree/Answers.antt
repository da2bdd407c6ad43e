use Rattle.sd_phrase.proofs.WrittenReads.{written_reads}
use Rattle.sd_phrase.proofs.WrittenOnce.{written_once}
use Rattle.sd_phrase.proofs.laws.an_expression_of_the_grammar_reads_as_its_tree.Goals as goal

pub returns : goal.returns
returns c = record { reads = written_reads; one_tree = written_once }
