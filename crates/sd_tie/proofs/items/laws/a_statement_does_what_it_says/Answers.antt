use Rattle.std.proofs.Common.{◌∙◌}
use Rattle.sd_graph.specs.PlainTree.{no_item}
use Rattle.sd_work.specs.BigStep.{reached}
use Rattle.sd_says.proofs.ByLeaves.{says_item}
use Rattle.sd_says.proofs.Same.{item-same}
use Rattle.sd_tie.proofs.items_lemmas.Following.{at-once, ends-with-nothing}
use Rattle.sd_tie.specs.items.Called.{IsCalled}
use Rattle.sd_tie.proofs.items_lemmas.ItemsTied.{item_follows}
use Rattle.sd_tie.proofs.items.laws.a_statement_does_what_it_says.Goals as goal

pub returns : goal.returns
returns c = λ sizes graphs above calls all follow statement in_scope most place container variable table setting context stands here fits names elements memories turns outcome h.
    item_follows sizes graphs (IsCalled sizes graphs above) calls all follow statement in_scope most place container variable table setting context stands here names elements fits no_item reached
    (λ memories turns outcome h. at-once (reached memories turns) outcome h) memories turns outcome
    (ends-with-nothing (says_item calls all statement in_scope container setting most memories turns) ∙ ((λ i. item-same calls all most statement in_scope container setting i memories turns) ∙ h))
