use Rattle.sd_tcode.proofs.op.running.run_own_ops.Given as goal

abbrev pub ghost-run_ops : goal.ghost-run_ops
ghost-run_ops g a = g.room
