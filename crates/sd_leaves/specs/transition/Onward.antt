-- Where a run goes on.
use Rattle.std.specs.Prelude.{◌≡◌, Option, Some, None, Result, Ok, Err, map}
use Rattle.sd_range.specs.Affine.{affine_value}
use Rattle.sd_range.specs.Variables.{with_variables}
use Rattle.sd_work.specs.Move.{Fault, fault_at}
use Rattle.sd_work.specs.Exit.{Values, Exit}
use Rattle.sd_graph.specs.PlainTree.{ExitTree}
use Rattle.sd_graph.specs.declared.place.Place.{Place}
use Rattle.sd_leaves.specs.declared.transition.onward.Entry.{Entry}
use Rattle.sd_leaves.specs.declared.transition.onward.Onward.{Onward}
use Rattle.sd_leaves.specs.declared.transition.onward.Onward.TheVariants as variants

-- the way out that was chosen, or the fault of a condition
abbrev pub Choice : Type 0
Choice = Result (Option (Exit Place)) (Fault Place)

-- what begins behind this exit
pub record IsEntry (exit : Exit Place) (entry : Entry) : Type 0 where
  pub state : entry.state ≡ exit.state
  pub values : entry.values.items ≡ exit.values
  pub marked : entry.marked ≡ exit.marked

-- what begins behind an exit of a graph, where the variables had these values
pub record IsBehind (exit : ExitTree) (given : Values) (entry : Entry) : Type 0 where
  pub state : entry.state ≡ exit.to
  pub values : entry.values.items ≡ with_variables (map (λ assignment. (assignment.0, affine_value given assignment.1)) exit.set) given
  pub marked : entry.marked ≡ exit.back

-- a run goes on so by the choice of its exit
abbrev pub IsOnward : Choice → Onward → Type 0
IsOnward choice variants.Nowhere = choice ≡ Ok None
IsOnward choice (variants.State entry) = (exit : Exit Place) × (choice ≡ Ok (Some exit)) × IsEntry exit entry
IsOnward choice (variants.Fault place kind) = choice ≡ Err (fault_at place kind)
