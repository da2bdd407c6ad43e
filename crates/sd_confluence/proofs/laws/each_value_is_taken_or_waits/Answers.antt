use Rattle.sd_confluence.proofs.taking.RunCounts.{none-lost}
use Rattle.sd_confluence.proofs.laws.each_value_is_taken_or_waits.Goals as goal

pub returns : goal.returns
returns g c = none-lost
