use Rattle.std.proofs.Common.{List, Bool, ap, sym, ◌∙◌}
use Rattle.sd_places.specs.ranks.Lowered.{lowered}
use Rattle.sd_places.proofs.ranks_lemmas.Lowering.{raise_next}
use Rattle.sd_places.proofs.ranks.ranks.raised.Goals as goal

pub loop-naming-preserved : goal.loop-naming-preserved
loop-naming-preserved c =
    c.lower.ensures
    ∙ ap (λ (next : List Bool). lowered c.args.table.now next c.naming-item.result) c.loop-naming.invariant
    ∙ sym (raise_next c.args.table.now c.args.all.now c.loop-naming.naming-index c.naming-item.result c.loop-naming-test.true c.naming-item.is)
