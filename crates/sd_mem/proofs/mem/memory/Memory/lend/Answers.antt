use Rattle.std.proofs.Common.{subst}
use Rattle.sd_mem.specs.mem.Shaped.{Shaped, MayAllHave}
use Rattle.sd_mem.proofs.mem_lemmas.Lending.{all_fit}
use Rattle.sd_mem.proofs.mem.memory.Memory.lend.Goals as goal

pub returns-in_err-holdings-clause-fit : goal.returns-in_err-holdings-clause-fit
returns-in_err-holdings-clause-fit c = subst (λ (memory : Shaped). MayAllHave memory.shapes memory.contents) c.self.view_is (all_fit c.self.inside.holdings.items)

pub returns-clause-fit : goal.returns-clause-fit
returns-clause-fit c = subst (λ (memory : Shaped). MayAllHave memory.shapes memory.contents) c.self.view_is (all_fit c.self.inside.holdings.items)
