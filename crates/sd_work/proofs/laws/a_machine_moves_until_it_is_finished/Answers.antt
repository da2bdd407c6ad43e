use Rattle.std.proofs.Common.{[]}
use Rattle.sd_work.proofs.Finished.{moves-finished}
use Rattle.sd_work.proofs.going.MemoriesKept.{memories-ordered}
use Rattle.sd_work.proofs.going.Machines.{machine-finished, well_formed-settled, well_formed-step}
use Rattle.sd_work.proofs.laws.a_machine_moves_until_it_is_finished.Goals as goal

pub returns : goal.returns
returns g c = record {
  moves = machine-finished;
  finished = λ machine h. moves-finished machine.term [] h;
  opening = well_formed-settled;
  step = well_formed-step;
  ordered_pools = memories-ordered;
}
