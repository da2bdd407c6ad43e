use Rattle.sd_overlay.proofs.StreamLaws.{oldest-committed, pushed-committed, taken-committed}
use Rattle.sd_overlay.proofs.laws.streams_of_a_cut_are_those_of_its_memory.Goals as goal

pub returns-clause-seen : goal.returns-clause-seen
returns-clause-seen c = oldest-committed

pub returns-clause-pushed : goal.returns-clause-pushed
returns-clause-pushed c = pushed-committed

pub returns-clause-taken : goal.returns-clause-taken
returns-clause-taken c = taken-committed
