use Rattle.sd_confluence.proofs.taking.TakingOrder.{taking-order}
use Rattle.sd_safe.proofs.safe_lemmas.GraphSafe.{element_term}
use Rattle.sd_safe.proofs.safe_lemmas.Whole.{pool-may_interleave}
use Rattle.sd_safe.proofs.safe.laws.the_order_of_taking_of_an_accepted_scope_makes_no_difference.Goals as goal

pub returns : goal.returns
returns c = λ own other stream element private body path nodes around context turns picks others left happened alone fit itself within alike done.
    taking-order own other (context.reach stream).container (element_term element private body context) turns picks others left happened
    (pool-may_interleave own stream element private body path nodes around context alone fit itself within) alike done
