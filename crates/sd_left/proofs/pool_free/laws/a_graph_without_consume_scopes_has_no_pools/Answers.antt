use Rattle.sd_left.proofs.pool_free_lemmas.Free.{graph-free}
use Rattle.sd_left.proofs.pool_free.laws.a_graph_without_consume_scopes_has_no_pools.Goals as goal

pub returns : goal.returns
returns c = graph-free
