-- What the work of leaves comes to, whatever its place.
use Rattle.std.specs.Prelude.{◌≡◌, ◌≤◌, ℕ, ℤ, List, [], ◌++◌, map, length, Option, Some, None, Ok, false}
use Rattle.std.specs.List.{flat_map, zip}
use Rattle.sd_num.specs.declared.resolution.Resolution.{Resolution}
use Rattle.sd_range.specs.Subset.{whole}
use Rattle.sd_work.specs.declared.fault.FaultKind.{FaultKind}
use Rattle.sd_work.specs.Memory.{Memories}
use Rattle.sd_work.specs.Leaf.{Pending, transfer, identities, Evaluation}
use Rattle.sd_work.specs.Move.{fault_at}
use Rattle.sd_work.specs.Step.{Outcome, Done, Faulted}
use Rattle.sd_work.specs.BigStep.{Reached, Coming, big_doing, big_reading}
use Rattle.sd_graph.specs.PlainTree.{TaskletTree}
use Rattle.sd_graph.specs.TaskletMeaning.{and_then}
use Rattle.sd_graph.specs.Context.{Context, reference_at, link_elements, link_element, link_extents}
use Rattle.sd_graph.specs.Unfold.{meaning_at, pending_of, target_place}
use Rattle.sd_graph.specs.declared.link.Link.{Link}
use Rattle.sd_graph.specs.declared.place.Place.{Place}

-- the outcome of work at a place that ended with a fault of this kind, or with none
abbrev pub outcome_at : Place → Option FaultKind → Reached → Outcome Place Reached
outcome_at place None now = Done now
outcome_at place (Some kind) now = Faulted (fault_at place kind)

-- work at any place comes to this from here, with the memories that there were and no more turns
pub record IsDone (work : Place → Memories → (turns : ℕ) → Coming Place) (before : Reached) (fault : Option FaultKind) (after : Reached) : Type 0 where
  pub comes : (place : Place) → work place before.memories before.turns ≡ Some (outcome_at place fault after)
  pub depth : length after.memories ≡ length before.memories
  pub turns : after.turns ≤ before.turns

-- things to do, one after another
abbrev pub performing : List Pending → Place → Memories → (turns : ℕ) → Coming Place
performing todo place memories turns = big_doing place todo memories turns

-- what a copy does with the elements at a pair of indices
abbrev pub copied_at : Context → (from to : Link) → (indices : List ℤ × List ℤ) → Pending
copied_at context from to indices =
    transfer (reference_at (context.reach from.memlet.container) indices.0) (reference_at (context.reach to.memlet.container) indices.1) None

-- all that a copy does
abbrev pub copied : Context → (from to : Link) → List Pending
copied context from to = map (λ pair. transfer pair.0 pair.1 None) (zip (link_elements context from) (link_elements context to))

-- what a reduction does at a place of its source
abbrev pub resolving : Context → Resolution → (axis : Option ℕ) → (from to : Link) → (at : List ℤ) → Pending
resolving context resolution axis from to at =
    transfer (link_element context from at) (link_element context to (target_place axis at)) (Some resolution)

-- all that a reduction does
abbrev pub reducing : Context → Resolution → (axis : Option ℕ) → (identity : Option ℤ) → (from to : Link) → List Pending
reducing context resolution axis identity from to =
    identities identity (link_elements context to) ++ map (resolving context resolution axis from to) (whole (link_extents context from))

-- what an instance makes of the values that were read
abbrev pub evaluation_of : Context → TaskletTree → (ins outs : List Link) → Evaluation
evaluation_of context code ins outs read = and_then (meaning_at context code ins outs read) (λ effects. Ok (map (pending_of context ins outs) effects))

-- what an instance does once its turn is spent
abbrev pub instance_work : Context → TaskletTree → (ins outs : List Link) → Place → Memories → (turns : ℕ) → Coming Place
instance_work context code ins outs place memories turns =
    big_reading place false (flat_map (link_elements context) ins) [] (evaluation_of context code ins outs) memories turns
