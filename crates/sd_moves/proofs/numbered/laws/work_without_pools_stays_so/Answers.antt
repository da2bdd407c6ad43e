use Rattle.sd_moves.proofs.numbered_lemmas.PoolFree.{no_open, step-free, count-free, place-free}
use Rattle.sd_moves.proofs.numbered.laws.work_without_pools_stays_so.Goals as goal

pub returns : goal.returns
returns g c = record { settled = no_open; step = step-free; counts = count-free; places = place-free }
