use Rattle.sd_statex.proofs.states_lemmas.More.{more_is_enough}
use Rattle.sd_statex.proofs.states.laws.more_transitions_are_enough.Goals as goal

pub returns : goal.returns
returns c = λ term. more_is_enough term
