use Rattle.sd_places.proofs.ranks_lemmas.Ranked.{ranked_next}
use Rattle.sd_places.proofs.ranks.ranks.ranked.Goals as goal

pub loop-round-preserved : goal.loop-round-preserved
loop-round-preserved c = ranked_next c.args.all.now c.args.count c.loop-round.round c.loop-round.table.items c.in_ok-table-2.table.items c.loop-round.invariant (rw c.deref.ensures.value at c.in_ok-table-2.ensures)
