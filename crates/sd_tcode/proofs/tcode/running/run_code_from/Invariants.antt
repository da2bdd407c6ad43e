use Rattle.sd_tcode.proofs.tcode.running.run_code_from.Given as goal

abbrev pub ghost-run_ops : goal.ghost-run_ops
ghost-run_ops g a = g.room
