use Rattle.sd_work.proofs.ending.Halting.{run-ends}
use Rattle.sd_work.proofs.ending.HaltingPools.{run-ends_with_pools}
use Rattle.sd_work.proofs.laws.every_run_ends.Goals as goal

pub returns-clause-without_pools : goal.returns-clause-without_pools
returns-clause-without_pools g c = run-ends

pub returns-clause-with_pools : goal.returns-clause-with_pools
returns-clause-with_pools g c = run-ends_with_pools
