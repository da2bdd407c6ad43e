use Rattle.sd_words.proofs.OneCall.{turns_are_kept, workers_are_kept}
use Rattle.sd_words.proofs.laws.numbers_keep_their_limits.Goals as goal

pub returns : goal.returns
returns c = record { turns = turns_are_kept; workers = workers_are_kept }
