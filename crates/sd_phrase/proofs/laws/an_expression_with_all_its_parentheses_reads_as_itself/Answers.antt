use Rattle.sd_phrase.proofs.ReadsBack.{spelled_reads}
use Rattle.sd_phrase.proofs.laws.an_expression_with_all_its_parentheses_reads_as_itself.Goals as goal

pub returns : goal.returns
returns c = spelled_reads
