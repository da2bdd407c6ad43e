use Rattle.sd_promise.proofs.Calls.{printed_is_said, moves_and_said, said_is_printed, done_is_said, fault_was_said, spent_was_said}
use Rattle.sd_promise.proofs.laws.run_prints_what_the_source_says.Goals as goal

pub returns-clause-prints : goal.returns-clause-prints
returns-clause-prints c = printed_is_said

pub returns-clause-moves : goal.returns-clause-moves
returns-clause-moves c = moves_and_said

pub returns-clause-said : goal.returns-clause-said
returns-clause-said c = said_is_printed

pub returns-clause-done : goal.returns-clause-done
returns-clause-done c = done_is_said

pub returns-clause-fault : goal.returns-clause-fault
returns-clause-fault c = fault_was_said

pub returns-clause-spent : goal.returns-clause-spent
returns-clause-spent c = spent_was_said
