use Rattle.std.proofs.Common.{◌≡◌, true}
use Rattle.sd_alike.proofs.alike_lemmas.WholeRuns.{rewritten_runs_same}
use Rattle.sd_alike.proofs.alike.laws.a_graph_with_an_item_replaced_runs_the_same.Goals as goal

pub returns : goal.returns
returns c = λ holds. rewritten_runs_same (λ variables kind. holds variables kind ≡ true)
