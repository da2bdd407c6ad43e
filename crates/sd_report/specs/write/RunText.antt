-- The text of a run, each line ended by a newline.
use Rattle.std.specs.Prelude.{ℕ, List, [], ◌∷◌, ◌++◌, map, codes}
use Rattle.std.specs.Fmt.{decimal}
use Rattle.std.specs.List.{flat_map}
use Rattle.sd_work.specs.Memory.{Memory}
use Rattle.sd_work.specs.Move.{Fault}
use Rattle.sd_work.specs.Run.{Left}
use Rattle.sd_work.specs.Step.{Outcome, Done, Faulted, Spent}
use Rattle.sd_graph.specs.PlainTree.{GraphTree}
use Rattle.sd_graph.specs.TreeParts.{containers_of}
use Rattle.sd_graph.specs.declared.place.Place.{Place}
use Rattle.sd_mem.specs.mem.GraphContents.{shapes_of}
use Rattle.sd_json.specs.AnswerText.{text_of_arrays}
use Rattle.sd_print.specs.places.FaultText.{fault_text}
use Rattle.sd_core.specs.declared.run.Chosen.{Chosen}

abbrev pub line : List ℕ → List ℕ
line text = text ++ 10 ∷ []

-- a line for each argument of a graph, in the order of the signature, with what its memory holds
abbrev pub done_text : GraphTree → Memory → List ℕ
done_text tree memory = text_of_arrays tree (record { shapes = shapes_of (containers_of tree); contents = memory })

abbrev pub fault_line : Fault Place → List ℕ
fault_line fault = line (fault_text fault.place fault.kind)

abbrev pub spent_line : (turns : ℕ) → List ℕ
spent_line turns = line (codes "turns spent " ++ decimal turns)

-- how a run of a graph with so many turns has ended
abbrev pub end_text : GraphTree → (turns : ℕ) → Outcome Place Left → List ℕ
end_text tree turns (Done left) = done_text tree left.memory
end_text tree turns (Faulted fault) = fault_line fault
end_text tree turns Spent = spent_line turns

-- a step of a run by picks: the number of the chosen move, and how many there were
abbrev pub pair_of : Chosen → ℕ × ℕ
pair_of chosen = (chosen.number, chosen.moves)

abbrev pub steps_told : List Chosen → List (ℕ × ℕ)
steps_told steps = map pair_of steps

abbrev pub step_text : ℕ × ℕ → List ℕ
step_text step = line (codes "move " ++ decimal step.0 ++ codes " of " ++ decimal step.1)

-- a line for each step
abbrev pub steps_text : List (ℕ × ℕ) → List ℕ
steps_text steps = flat_map step_text steps

-- the steps that are told of a run, and then how it has ended
abbrev pub run_text : (steps : List (ℕ × ℕ)) → GraphTree → (turns : ℕ) → Outcome Place Left → List ℕ
run_text steps tree turns outcome = steps_text steps ++ end_text tree turns outcome
