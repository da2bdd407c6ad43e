use Rattle.sd_prop.specs.propagation.ItemNodes.{nodes_behind}
use Rattle.sd_safe.proofs.safe_lemmas.Accepting.{elements-free}
use Rattle.sd_safe.proofs.safe_lemmas.GraphSafe.{elements-compatible}
use Rattle.std.proofs.Common.{◌∷◌}
use Rattle.sd_safe.proofs.safe.laws.elements_of_an_accepted_consume_scope_do_not_conflict.Goals as goal

pub returns : goal.returns
returns c = λ element private body path nodes around context fit stands accepted.
    elements-compatible around element private body (nodes_behind nodes) context fit stands.in_force stands.once stands.apart (elements-free (element ∷ private) body context.containers path around nodes accepted)
