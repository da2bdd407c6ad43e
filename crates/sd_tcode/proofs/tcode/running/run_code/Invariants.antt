use Rattle.sd_tcode.proofs.tcode.running.run_code.Given as goal

abbrev pub ghost-run_own_ops : goal.ghost-run_own_ops
ghost-run_own_ops g a = g.room
