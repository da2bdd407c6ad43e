use Rattle.sd_work.proofs.left_to_right.BigRuns.{big_run-sequential, sequential-big_run}
use Rattle.sd_work.proofs.left_to_right.OrderedWithoutPools.{ordered-without-pools}
use Rattle.sd_work.proofs.laws.a_run_from_left_to_right_is_sequential.Goals as goal

pub returns-clause-sequential : goal.returns-clause-sequential
returns-clause-sequential g c = big_run-sequential

pub returns-clause-answers : goal.returns-clause-answers
returns-clause-answers g c = sequential-big_run

pub returns-clause-without_pools : goal.returns-clause-without_pools
returns-clause-without_pools g c = ordered-without-pools
