use Rattle.sd_tcode.specs.tcode.Compiled.{room_of}
use Rattle.sd_tcode.proofs.tcode.running.run_from.Given as goal

abbrev pub ghost-run_code_from : goal.ghost-run_code_from
ghost-run_code_from g a = room_of a.code.now
