use Rattle.std.proofs.Common.{subst}
use Rattle.sd_cut.specs.Overlaid.{Overlaid}
use Rattle.sd_part.specs.Cut.{StandsFor}
use Rattle.sd_part.proofs.CutStore.{taken-back}
use Rattle.sd_part.proofs.cut.OverlayStore.take_back.Goals as goal

pub returns-clause-stands : goal.returns-clause-stands
returns-clause-stands c = λ containers lent over after may stands.
    taken-back c.args.self.now containers lent c.args.left over after may (subst (λ (o : Overlaid). StandsFor o over after) c.give_back.ensures stands)
