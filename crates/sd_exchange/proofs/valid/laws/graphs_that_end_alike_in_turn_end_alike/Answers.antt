use Rattle.sd_exchange.proofs.valid_lemmas.Following.{runs-follow, runs-same, runs-back}
use Rattle.sd_exchange.proofs.valid.laws.graphs_that_end_alike_in_turn_end_alike.Goals as goal

pub returns : goal.returns
returns c = record { follows = runs-follow; same = runs-same; same_back = runs-back }
