use Rattle.std.proofs.Common.{ap}
use Rattle.sd_graph.specs.Wiring.{kind_uses}
use Rattle.sd_graph.specs.Context.{Reach}
use Rattle.sd_safe.proofs.safe_lemmas.Whole.{own-stands}
use Rattle.sd_safe.proofs.safe.laws.an_item_over_a_memory_of_its_graph_stands_alone.Goals as goal

pub returns : goal.returns
returns c = λ kind context own. record { stands = own-stands context (kind_uses kind context.containers) own; here = λ number. ap (λ (r : Reach). r.level) (own number) }
