use Rattle.sd_safe.proofs.pieces_lemmas.StateRuns.{place-is, items-may, items-pools, items-done}
use Rattle.sd_safe.proofs.pieces.laws.items_of_a_state_may_interleave.Goals as goal

pub returns-clause-place : goal.returns-clause-place
returns-clause-place c = place-is

pub returns-clause-safe : goal.returns-clause-safe
returns-clause-safe c = items-may

pub returns-clause-pools : goal.returns-clause-pools
returns-clause-pools c = items-pools

pub returns-clause-done : goal.returns-clause-done
returns-clause-done c = items-done
