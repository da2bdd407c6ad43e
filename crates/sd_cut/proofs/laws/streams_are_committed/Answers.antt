use Rattle.sd_cut.proofs.Committed.{committed-stream}
use Rattle.sd_cut.proofs.laws.streams_are_committed.Goals as goal

pub returns : goal.returns
returns c = committed-stream
