use Rattle.sd_confluence.proofs.left.AlikeMemories.{memories-alike}
use Rattle.sd_confluence.proofs.laws.terms_that_are_alike_have_memories_alike.Goals as goal

pub returns : goal.returns
returns g c = memories-alike
