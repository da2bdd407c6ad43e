use Rattle.sd_validity.proofs.levels_lemmas.Lower.{graph_ranked}
use Rattle.sd_validity.proofs.levels_lemmas.Bound.{bound_ranked}
use Rattle.sd_validity.proofs.levels.laws.variables_with_levels_have_ranks.Goals as goal

pub returns : goal.returns
returns c = record { plain = graph_ranked; sized = bound_ranked }
