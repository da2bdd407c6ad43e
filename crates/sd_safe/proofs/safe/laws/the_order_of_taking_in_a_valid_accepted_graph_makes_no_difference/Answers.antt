use Rattle.std.proofs.Common.{sym, subst}
use Rattle.sd_graph.specs.PlainTree.{consume_scope}
use Rattle.sd_graph.specs.ContainerParts.{Containers}
use Rattle.sd_confluence.proofs.taking.TakingOrder.{taking-order}
use Rattle.sd_safe.proofs.fit_lemmas.Fitting.{graph-fit}
use Rattle.sd_safe.specs.safe.Standing.{Spot}
use Rattle.sd_safe.proofs.safe_lemmas.GraphSafe.{element_term}
use Rattle.sd_safe.proofs.safe_lemmas.Whole.{pool-may_interleave}
use Rattle.sd_safe.proofs.safe_lemmas.Standing.{IsItemAccepted, graph-item}
use Rattle.sd_safe.proofs.safe.laws.the_order_of_taking_in_a_valid_accepted_graph_makes_no_difference.Goals as goal

pub returns : goal.returns
returns c = λ tree own other stream element private body at context turns picks others left happened valid normal accepted stands same alone alike done.
    let scope = consume_scope stream element private body in
    let spot : Containers → Spot = λ containers. record { containers = containers; around = at.around } in
    let item : IsItemAccepted (spot context.containers) scope =
    subst (λ containers. IsItemAccepted (spot containers) scope) (sym same) (graph-item scope at tree stands (graph-fit tree valid normal) accepted) in
    taking-order own other (context.reach stream).container (element_term element private body context) turns picks others left happened
    (pool-may_interleave own stream element private body item.path item.nodes at.around context alone item.fit item.itself item.within) alike done
