use Rattle.sd_safe.proofs.safe_lemmas.GraphSafe.{points-safe}
use Rattle.sd_safe.proofs.safe.laws.points_of_an_accepted_map_do_not_conflict.Goals as goal

pub returns : goal.returns
returns c = λ sequential params private body path nodes around context fresh fit stands accepted.
    points-safe sequential around params private body path nodes context fresh fit stands.in_force stands.once stands.apart accepted
