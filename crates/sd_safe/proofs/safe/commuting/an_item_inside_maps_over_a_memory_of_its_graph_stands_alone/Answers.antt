use Rattle.std.proofs.Common.{ap}
use Rattle.sd_graph.specs.Wiring.{kind_uses}
use Rattle.sd_graph.specs.Context.{Reach}
use Rattle.sd_safe.proofs.safe_lemmas.Whole.{own-stands}
use Rattle.sd_safe.proofs.safe.commuting.an_item_inside_maps_over_a_memory_of_its_graph_stands_alone.Goals as goal

pub returns : goal.returns
returns c = λ kind context around own force.
    let alone = own-stands context (kind_uses kind context.containers) own in record {
      stands = record { in_force = force; once = alone.once; apart = alone.apart };
      here = λ number. ap (λ (r : Reach). r.level) (own number);
    }
