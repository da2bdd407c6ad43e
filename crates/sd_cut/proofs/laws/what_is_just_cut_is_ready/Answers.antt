use Rattle.sd_cut.proofs.Fresh.{fresh-ready, left-at}
use Rattle.sd_cut.proofs.laws.what_is_just_cut_is_ready.Goals as goal

pub returns : goal.returns
returns c = record { ready = fresh-ready; left = left-at }
