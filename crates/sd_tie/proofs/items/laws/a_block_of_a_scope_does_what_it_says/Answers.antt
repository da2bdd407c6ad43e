use Rattle.std.proofs.Common.{◌∙◌}
use Rattle.sd_says.proofs.Same.{body-same}
use Rattle.sd_tie.specs.items.Called.{IsCalled}
use Rattle.sd_tie.proofs.items_lemmas.ItemsTied.{body_follows}
use Rattle.sd_tie.proofs.items.laws.a_block_of_a_scope_does_what_it_says.Goals as goal

pub returns : goal.returns
returns c = λ sizes graphs above calls all follow body most place container variable table setting context around stands own fits names elements memories turns outcome h.
    body_follows sizes graphs (IsCalled sizes graphs above) calls all follow body most place container variable table setting context around stands own names elements fits memories turns outcome
    ((λ i. body-same calls all most body container setting i memories turns) ∙ h)
