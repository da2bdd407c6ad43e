use Rattle.sd_phrase.proofs.GroupedReads.{grouped_reads}
use Rattle.sd_phrase.proofs.laws.operators_join_by_their_ranks.Goals as goal

pub returns : goal.returns
returns c = grouped_reads
