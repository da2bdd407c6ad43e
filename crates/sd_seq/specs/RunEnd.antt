-- The outcome of a whole run that the code's answer stands for.
use Rattle.sd_work.specs.Move.{fault_at}
use Rattle.sd_work.specs.Step.{Outcome, Done, Faulted, Spent}
use Rattle.sd_work.specs.Run.{Left}
use Rattle.sd_graph.specs.declared.place.Place.{Place}
use Rattle.sd_seq.specs.declared.run_end.RunEnd.{RunEnd}
use Rattle.sd_seq.specs.declared.run_end.RunEnd.TheVariants.{Done as Done_now, Fault, Spent as Spent_now}

abbrev pub outcome_of : RunEnd → Outcome Place Left
outcome_of (Done_now memory turns) = Done (record { memory = memory.contents; turns = turns })
outcome_of (Fault place kind) = Faulted (fault_at place kind)
outcome_of Spent_now = Spent
