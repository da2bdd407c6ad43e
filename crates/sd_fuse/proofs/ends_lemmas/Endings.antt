-- Parts that end alike are done alike.
use Rattle.std.proofs.Common.{ap, ◌∙◌}
use Rattle.sd_work.specs.Residual.{Terms}
use Rattle.sd_work.specs.BigStep.{big_parts}
use Rattle.sd_exchange.proofs.reorder_lemmas.Nearly.{near-stack, alike-stack}
use Rattle.sd_exchange.proofs.reorder_lemmas.Ends.{EndAlike}
use Rattle.sd_fuse.specs.ends.DoneAlike.{DoneAlike}

pub done-alike : {P : Type 0} (parts others : Terms P) → EndAlike parts others → DoneAlike parts others
done-alike parts others h most turns memories other now alike done =
    let a = (h.end most turns memories other (near-stack memories other alike)).done now done in
    (a.1, ap (big_parts others most other) a.2 ∙ a.3 now.turns, alike-stack now.memories a.1 a.4)
