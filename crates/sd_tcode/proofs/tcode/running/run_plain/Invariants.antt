use Rattle.sd_tcode.specs.tcode.Compiled.{room_of}
use Rattle.sd_tcode.proofs.tcode.running.run_plain.Given as goal

abbrev pub ghost-run_code : goal.ghost-run_code
ghost-run_code a = room_of a.code.now
