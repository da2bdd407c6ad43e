use Rattle.std.proofs.Common.{sym}
use Rattle.sd_validate.proofs.limits_lemmas.Among.{states_counted}
use Rattle.sd_validate.proofs.limits.containers.state_count.Goals as goal

pub returns : goal.returns
returns c = sym (states_counted c.args.states.now)
