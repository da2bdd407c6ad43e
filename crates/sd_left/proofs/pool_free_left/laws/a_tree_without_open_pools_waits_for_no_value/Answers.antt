use Rattle.sd_left.proofs.pool_free_left_lemmas.Waiting.{left-waits, body-waits, run-waits}
use Rattle.sd_left.proofs.pool_free_left.laws.a_tree_without_open_pools_waits_for_no_value.Goals as goal

pub returns : goal.returns
returns c = record { item = left-waits; body = body-waits; run = run-waits }
