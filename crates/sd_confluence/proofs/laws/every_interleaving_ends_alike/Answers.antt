use Rattle.sd_confluence.proofs.runs.Interleavings.{every-run}
use Rattle.sd_confluence.proofs.laws.every_interleaving_ends_alike.Goals as goal

pub returns : goal.returns
returns g c = every-run
