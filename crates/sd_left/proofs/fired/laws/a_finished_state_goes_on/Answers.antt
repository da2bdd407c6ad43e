use Rattle.sd_left.proofs.fired_lemmas.Transitions.{exit-taken, exit-unpaid, no-exit, exit-faults}
use Rattle.sd_left.proofs.fired.laws.a_finished_state_goes_on.Goals as goal

pub returns : goal.returns
returns c = record {
  exit = λ old new tree reach around path before inside after exit going over entered. exit-taken old new tree reach around path before inside after going over entered exit;
  spent = λ old new tree reach around path before inside after exit going over entered. exit-unpaid old new tree reach around path before inside after going over entered exit;
  nowhere = no-exit;
  fault = λ old new tree reach around path before inside after place kind going over entered. exit-faults old new tree reach around path before inside after going over entered place kind;
}
