-- A whole run of a graph, done from left to right.
use Rattle.std.specs.Prelude.{ℕ, [], ◌∷◌, Option, Some, None}
use Rattle.sd_work.specs.Change.{innermost}
use Rattle.sd_work.specs.Residual.{Term, leaf, list, owning, nested, ended, pool}
use Rattle.sd_work.specs.Step.{Outcome, Done, Faulted, Spent}
use Rattle.sd_work.specs.Run.{Left}
use Rattle.sd_work.specs.BigStep.{Coming, and_then, big_step, big_states}

-- what a run leaves that nothing is round
abbrev pub left_by : {P : Type 0} → Coming P → Option (Outcome P Left)
left_by (Some (Done now)) = Some (Done (record { memory = innermost now.memories; turns = now.turns }))
left_by (Some (Faulted fault)) = Some (Faulted fault)
left_by (Some Spent) = Some Spent
left_by None = None

-- how a run ends, done from left to right with at most so many transitions and takes; a term that is no run of a graph has no end
abbrev pub big_run : {P : Type 0} → Term P → (most : ℕ) → (turns : ℕ) → Option (Outcome P Left)
big_run (nested body exits own state values part) most turns =
    left_by (and_then (big_step part most (own ∷ []) turns) (big_states most (λ state values. big_step (body state values) most) exits state values))
big_run (ended own) most turns = Some (Done (record { memory = own; turns = turns }))
big_run (leaf place work) most turns = None
big_run (list kind before parts) most turns = None
big_run (owning own part) most turns = None
big_run (pool level container body active closed) most turns = None
