use Rattle.sd_read.proofs.decided_lemmas.Range.{told_first, told_only}
use Rattle.sd_read.proofs.decided.deciding.errors_of_tokens_go_first.Goals as goal

pub returns : goal.returns
returns c = record { first = told_first; only = told_only }
