use Rattle.sd_alike.proofs.alike_lemmas.LiftLaws.{look_in, apply_in}
use Rattle.sd_alike.proofs.alike.laws.a_memory_that_nothing_reaches_is_not_seen.Goals as goal

pub returns : goal.returns
returns c = record { look = look_in; change = apply_in }
