use Rattle.std.proofs.Common.{◌≡◌, drop}
use Rattle.sd_core.specs.release.Finished.{are_over}
use Rattle.sd_core.proofs.release.sparse.are_over.Given as goal

abbrev pub invariant-loop-task : goal.invariant-loop-task
invariant-loop-task l = are_over (drop l.task-index l.tasks) ≡ are_over l.tasks
