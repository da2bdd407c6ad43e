use Rattle.std.proofs.Common.{[], refl}
use Rattle.sd_graph.specs.PlainTree.{no_item}
use Rattle.sd_graph.specs.TreeFold.{states_listed}
use Rattle.sd_elab.specs.elab.Elaboration.{start_of, states_of_function}
use Rattle.sd_tie.proofs.made_lemmas.StatesFound.{has_all}
use Rattle.sd_tie.proofs.made_lemmas.MadeTied.{all_made}
use Rattle.sd_tie.proofs.made.laws.the_states_of_a_block_stand_as_they_are_made.Goals as goal

pub returns : goal.returns
returns c = λ symbols graphs function shows s.
    (let made = all_made graphs (states_listed (states_of_function symbols graphs function)) shows function.body (start_of symbols function) no_item [] [] 0 (has_all (states_of_function symbols graphs function)) s refl in
    (made.0, made.2, made.3))
