use Rattle.sd_made.proofs.scopes_lemmas.Scopes.{names_hold}
use Rattle.sd_made.proofs.scopes.laws.the_bound_graph_of_a_program_has_its_names.Goals as goal

pub returns : goal.returns
returns c = names_hold
