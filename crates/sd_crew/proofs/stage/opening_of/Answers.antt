use Rattle.std.proofs.Common.{◌∙◌}
use Rattle.sd_piece.proofs.Cutting.{containers_in}
use Rattle.sd_graph.specs.Wiring.{before}
use Rattle.sd_crew.proofs.stage.opening_of.Goals as goal

pub returns-clause-order : goal.returns-clause-order
returns-clause-order c = c.in_ok-order.ensures ∙ (λ i. before (containers_in c.args.stage.now.bound.now.graph i) (c.items_of-items.ensures i))
