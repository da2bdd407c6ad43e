use Rattle.sd_json.proofs.Finding.{gives_more}
use Rattle.sd_json.proofs.entries.sizes.Goals as goal

pub loop-symbol-preserved : goal.loop-symbol-preserved
loop-symbol-preserved c = gives_more _ _ _ _ _ _ c.loop-symbol-test.true c.symbol-item.is c.loop-symbol.invariant c.in_ok-push_size.ensures
