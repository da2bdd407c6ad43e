use Rattle.sd_moves.proofs.numbered_lemmas.Open.{settled-open}
use Rattle.sd_moves.proofs.numbered.laws.work_without_open_pools_is_settled.Goals as goal

pub returns : goal.returns
returns g c = settled-open
