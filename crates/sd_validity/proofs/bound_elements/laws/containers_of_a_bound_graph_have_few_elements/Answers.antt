use Rattle.sd_validity.proofs.bound_elements_lemmas.Elements.{elements_few}
use Rattle.sd_validity.proofs.bound_elements.laws.containers_of_a_bound_graph_have_few_elements.Goals as goal

pub returns : goal.returns
returns c = elements_few
