-- Calls that do in the graph what they say.
use Rattle.std.specs.Prelude.{◌≡◌, ℕ, ◌≤◌, ℤ, List, length, Some}
use Rattle.sd_lex.specs.PlainTree.{Dimension, StatementTree, call}
use Rattle.sd_work.specs.Memory.{Memories}
use Rattle.sd_work.specs.Step.{Outcome}
use Rattle.sd_work.specs.BigStep.{Reached, Coming, big_step, big_parts}
use Rattle.sd_graph.specs.PlainTree.{ItemTrees, GraphTree}
use Rattle.sd_graph.specs.TreeParts.{containers_of}
use Rattle.sd_graph.specs.Context.{Context}
use Rattle.sd_graph.specs.Unfold.{run_memory}
use Rattle.sd_graph.specs.declared.place.Frame.{Frame}
use Rattle.sd_graph.specs.declared.place.Place as shown
use Rattle.sd_valid.specs.SizedWork.{sized_containers, sized_items, sized_graph}
use Rattle.sd_program.specs.Names.{Name}
use Rattle.sd_program.specs.Place.{Place}
use Rattle.sd_says.specs.Parts.{Part}
use Rattle.sd_says.specs.Items.{Calls}
use Rattle.sd_tie.specs.items.Follows.{Follows}
use Rattle.sd_tie.specs.items.Passed.{passed_reach}

-- what is told of the items of a context is what they come to
abbrev pub ItemsFollow : (sizes : List ℤ) → ItemTrees → Context → (Memories → ℕ → Coming shown.Place) → Type 0
ItemsFollow sizes items context told =
    (memories : Memories) (turns : ℕ) (outcome : Outcome shown.Place Reached) → told memories turns ≡ Some outcome
    → Follows (λ most. big_parts (sized_items sizes items context) most memories turns) outcome

-- what is told of a call with these parts is what the graph comes to as a nested one
abbrev pub CallFollows : (sizes : List ℤ) → GraphTree → (told : List Part → List Frame → (most : ℕ) → Memories → ℕ → Coming shown.Place) → (count : ℕ) → Type 0
CallFollows sizes inner told count =
    (parts : List Part) → length parts ≡ count → (around : List Frame) (most : ℕ) (memories : Memories) (turns : ℕ) (outcome : Outcome shown.Place Reached) → told parts around most memories turns ≡ Some outcome
    → Follows (λ most. big_step (sized_graph sizes inner (passed_reach (sized_containers sizes (containers_of inner)) parts) (run_memory (sized_containers sizes (containers_of inner))) around) most memories turns) outcome

-- each call that may be made has no more arguments than the graph has containers, and does what it says
abbrev pub CallsDo : (sizes : List ℤ) → (graphs : Name → GraphTree) → (callable : Place → StatementTree → Type 0) → Calls → Type 0
CallsDo sizes graphs callable calls =
    (place : Place) (line : ℕ) (name : Name) (arguments : List (Name × List Dimension)) → callable place (call line name arguments)
    → (length arguments ≤ length (containers_of (graphs name))) × CallFollows sizes (graphs name) (calls name) (length arguments)
