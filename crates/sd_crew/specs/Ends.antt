-- How a run of a graph by workers ends.
use Rattle.std.specs.Prelude.{◌≡◌, ℕ}
use Rattle.sd_work.specs.Step.{Done}
use Rattle.sd_work.specs.Run.{Left, Sequential}
use Rattle.sd_confluence.specs.Alike.{AreAlike}
use Rattle.sd_graph.specs.PlainTree.{GraphTree}
use Rattle.sd_graph.specs.Unfold.{run_of}
use Rattle.sd_mem.specs.mem.Shaped.{Shaped}
use Rattle.sd_crew.specs.declared.crew_end.CrewEnd.{CrewEnd}
use Rattle.sd_crew.specs.declared.crew_end.CrewEnd.TheVariants as ends

-- the sequential run is done, with a memory like this one but for the order of values in streams, and with so many turns left
pub record IsDoneWith (tree : GraphTree) (opening : Shaped) (turns : ℕ) (memory : Shaped) (left : ℕ) : Type 0 where
  pub end : Left
  pub sequential : Sequential (run_of tree opening.contents) turns (Done end)
  pub alike : AreAlike memory.contents end.memory
  pub turns_left : left ≡ end.turns
  pub shapes : memory.shapes ≡ opening.shapes

-- Workers are done with what the sequential run of the graph leaves; where they are stopped, the sequential run is not done
abbrev pub IsCrewEnd : GraphTree → (opening : Shaped) → (turns : ℕ) → CrewEnd → Type 0
IsCrewEnd tree opening turns (ends.Done memory left) = IsDoneWith tree opening turns memory left
IsCrewEnd tree opening turns ends.Stopped = (end : Left) → Sequential (run_of tree opening.contents) turns (Done end) → ⊥
