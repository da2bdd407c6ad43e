use Rattle.std.proofs.Common.{arith}
use Rattle.sd_left.proofs.sparse_lemmas.Ways.{way-fresh}
use Rattle.sd_left.proofs.sparse.stretch.way_in_fresh.Goals as goal

pub returns : goal.returns
returns c = λ count told less.
    way-fresh c.args.tasks.now count c.args.unit c.in_ok-task.task told (omega (arith, c.if-tasks-eq0.false)) less c.in_ok-task.ensures
