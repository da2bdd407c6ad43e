use Rattle.std.proofs.Common.{ap}
use Rattle.sd_seq.specs.RunEnd.{outcome_of}
use Rattle.sd_report.proofs.stepping.telling.is_done.Goals as goal

pub returns-in-Done : goal.returns-in-Done
returns-in-Done c = λ is. (record { memory = c.in-Done.memory.contents; turns = c.in-Done.turns }, ap outcome_of c.in-Done.is)
