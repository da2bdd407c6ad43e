use Rattle.sd_safe.proofs.safe_lemmas.GraphSafe.{items-compatible}
use Rattle.sd_safe.proofs.safe.laws.items_without_a_path_do_not_conflict.Goals as goal

pub returns : goal.returns
returns c = λ items around context fit holds. items-compatible around items context fit holds.in_force holds.once holds.apart
