use Rattle.sd_exchange.proofs.reorder_lemmas.Alike.{alike-ends, run-alike}
use Rattle.sd_exchange.proofs.reorder.laws.alike_memories_end_alike.Goals as goal

pub returns : goal.returns
returns g c = record { work = alike-ends; runs = run-alike }
