-- How a run of a graph by workers goes from state to state.
use Rattle.std.specs.Prelude.{◌≡◌, ℕ, ◌≤◌, ◌^◌}
use Rattle.sd_work.specs.Memory.{Memory}
use Rattle.sd_work.specs.Exit.{Values}
use Rattle.sd_work.specs.Step.{Outcome}
use Rattle.sd_work.specs.Run.{Left, Sequential}
use Rattle.sd_confluence.specs.Alike.{AreAlike}
use Rattle.sd_graph.specs.PlainTree.{GraphTree}
use Rattle.sd_graph.specs.Unfold.{run_of}
use Rattle.sd_graph.specs.declared.place.Place.{Place}
use Rattle.sd_mem.specs.mem.Shaped.{Shaped}
use Rattle.sd_part.specs.Whole.{IsOfWidths}
use Rattle.sd_crew.specs.Stand.{run_from}
use Rattle.sd_crew.specs.Ends.{IsCrewEnd}
use Rattle.sd_crew.specs.declared.crew.Onward.{Onward}
use Rattle.sd_crew.specs.declared.crew.Onward.TheVariants.{To, End}

-- A run by workers stands at the begin of a state, with a memory like one from which the sequential run goes on: what that run comes to from there is what
-- it comes to as a whole.
pub record Stands (tree : GraphTree) (opening : Shaped) (turns : ℕ) (state : ℕ) (values : Values) (memory : Shaped) (left : ℕ) : Type 0 where
  pub own : Memory
  pub alike : AreAlike memory.contents own
  pub forth : (outcome : Outcome Place Left) → Sequential (run_from tree state values own) left outcome → Sequential (run_of tree opening.contents) turns outcome
  pub shapes : memory.shapes ≡ opening.shapes
  pub widths : IsOfWidths memory
  pub few : left ≤ 2 ^ 40

-- it stands at a state again, or has ended
abbrev pub GoesOn : GraphTree → (opening : Shaped) → (turns : ℕ) → Onward → Type 0
GoesOn tree opening turns (To stand) = Stands tree opening turns stand.state stand.values.items stand.memory stand.turns
GoesOn tree opening turns (End end) = IsCrewEnd tree opening turns end
