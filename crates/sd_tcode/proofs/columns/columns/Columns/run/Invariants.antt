use Rattle.sd_tcode.specs.tcode.Compiled.{room_of}
use Rattle.sd_tcode.proofs.columns.columns.Columns.run.Given as goal

abbrev pub ghost-steps : goal.ghost-steps
ghost-steps a = room_of a.code.now
