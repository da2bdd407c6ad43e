use Rattle.sd_safe.proofs.fit_lemmas.Fitting.{graph-fit}
use Rattle.sd_safe.proofs.fit.laws.a_valid_graph_is_fit.Goals as goal

pub returns : goal.returns
returns c = graph-fit
