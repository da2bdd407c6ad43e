use Rattle.std.proofs.Common.{◌∙◌}
use Rattle.sd_says.proofs.Same.{block-same}
use Rattle.sd_tie.specs.items.Called.{IsCalled}
use Rattle.sd_tie.proofs.states_lemmas.BlocksTied.{all_go}
use Rattle.sd_tie.proofs.states.laws.a_block_of_a_program_does_what_it_says.Goals as goal

pub returns : goal.returns
returns c = λ sizes graphs above calls all follow containers names states reach around first_own owns block most place container variable loops from to table setting values at stands named elements fits made shown memories turns outcome h.
    all_go sizes graphs (IsCalled sizes graphs above) calls all follow containers names states reach around first_own owns block most place container variable loops from to table setting values at stands named elements fits made
    shown memories turns outcome ((λ i. block-same calls all most block container setting i memories turns) ∙ h)
