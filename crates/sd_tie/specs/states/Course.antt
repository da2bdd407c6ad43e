-- What a run of a graph with sizes comes to from the end of a state on.
use Rattle.std.specs.Prelude.{◌≡◌, ℕ, ◌+◌, ◌<◌, ℤ, List, map, length, Some}
use Rattle.sd_range.specs.Affine.{variable_value}
use Rattle.sd_work.specs.Memory.{Memories}
use Rattle.sd_work.specs.Exit.{Values, Exit}
use Rattle.sd_work.specs.Step.{Outcome, Done, Faulted, Spent}
use Rattle.sd_work.specs.BigStep.{Reached, Coming, big_step, big_states}
use Rattle.sd_graph.specs.PlainTree.{StateTrees}
use Rattle.sd_graph.specs.TreeParts.{exits_at}
use Rattle.sd_graph.specs.ContainerParts.{Containers}
use Rattle.sd_graph.specs.LoopScope.{loops_in_force}
use Rattle.sd_graph.specs.Context.{Reach, Context}
use Rattle.sd_graph.specs.Unfold.{in_graph}
use Rattle.sd_graph.specs.declared.place.Frame.{Frame}
use Rattle.sd_graph.specs.declared.place.Place.{Place}
use Rattle.sd_valid.specs.SizedWork.{sized_state, sized_exit}
use Rattle.sd_program.specs.Names.{Name}

-- from some numbers on of transitions and of what is allowed below, it comes to this
abbrev pub Comes : (ℕ → ℕ → Coming Place) → Outcome Place Reached → Type 0
Comes run outcome = (least : ℕ) × ((transitions most : ℕ) → run (least + transitions) (least + most) ≡ Some outcome)

-- other values of the variables are the same below a number
abbrev pub Agree : (bound : ℕ) → (values other : Values) → Type 0
Agree bound values other = (variable : ℕ) → variable < bound → variable_value values variable ≡ variable_value other variable

-- the sizes; the containers, the names of the variables and the states of a graph; how its containers are reached, and the frames round it
module _ (sizes : List ℤ) (containers : Containers) (names : List Name) (states : StateTrees) (reach : ℕ → Reach) (around : List Frame) where
  -- where items stand, where the variables have these values and these loop variables show
  abbrev pub here : (loops : List ℕ) → Values → Context
  here loops values = in_graph containers names loops reach around values

  -- the loop variables that show in a state
  abbrev pub loops_at : (state : ℕ) → List ℕ
  loops_at state = loops_in_force states (length names) state

  -- what a state does
  abbrev pub does : (most state : ℕ) → Values → Memories → (turns : ℕ) → Coming Place
  does most state values = big_step (sized_state sizes states state (here (loops_at state) values)) most

  -- its ways out
  abbrev pub ways_at : (state : ℕ) → Values → List (Exit Place)
  ways_at state values = map (sized_exit sizes (here (loops_at state) values)) (exits_at states state)

  -- on from the end of a state, with at most so many transitions, and so many below
  abbrev pub on_from : (state : ℕ) → Values → Memories → (turns : ℕ) → (transitions most : ℕ) → Coming Place
  on_from state values memories turns transitions most = big_states transitions (does most) ways_at state values memories turns

  abbrev pub EndsAt : (state : ℕ) → Values → Memories → (turns : ℕ) → Outcome Place Reached → Type 0
  EndsAt state values memories turns outcome = Comes (on_from state values memories turns) outcome

  -- From the end of the one state the run goes to the end of the other, as it is told: what it comes to from there it comes to from here, with values that
  -- are the same below a number. A fault or a want of turns it comes to itself.
  abbrev pub Goes : (from to bound : ℕ) → Values → Memories → (turns : ℕ) → Outcome Place Reached → Type 0
  Goes from to bound values memories turns (Done now) =
      (after : Values) × Agree bound after values × ((outcome : Outcome Place Reached) → EndsAt to after now.memories now.turns outcome → EndsAt from values memories turns outcome)
  Goes from to bound values memories turns (Faulted fault) = EndsAt from values memories turns (Faulted fault)
  Goes from to bound values memories turns Spent = EndsAt from values memories turns Spent
