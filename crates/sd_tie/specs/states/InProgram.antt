-- Where a statement of a program's own block, or of its loops and branches, stands in its graph.
use Rattle.std.specs.Prelude.{ℕ, ◌<◌, ◌≤◌, ℤ, List, [], ◌∷◌, ⊤}
use Rattle.sd_work.specs.Exit.{Values}
use Rattle.sd_graph.specs.PlainTree.{StateTrees}
use Rattle.sd_graph.specs.ContainerParts.{Containers}
use Rattle.sd_graph.specs.Context.{Reach}
use Rattle.sd_graph.specs.declared.place.Frame.{Frame}
use Rattle.sd_program.specs.Names.{Name, Named}
use Rattle.sd_program.specs.Place.{Holder}
use Rattle.sd_task.specs.task.Table.{Table}
use Rattle.sd_says.specs.Setting.{Setting}
use Rattle.sd_says.specs.Declared.{Declaration}
use Rattle.sd_tie.specs.items.Standing.{Stands}
use Rattle.sd_tie.specs.states.Course.{here}

-- numbers of loop variables below a bound
abbrev pub AllBelow : ℕ → List ℕ → Type 0
AllBelow bound [] = ⊤
AllBelow bound (variable ∷ rest) = (variable < bound) × AllBelow bound rest

-- in a graph with these containers, names of variables and states, reached so; the containers from the first own one on are those of the run's memory
module _ (sizes : List ℤ) (all : List Declaration) (containers : Containers) (names : List Name) (states : StateTrees) (reach : ℕ → Reach) (around : List Frame) (first_own : ℕ) where
  -- where these loop variables show, and the variables have these values
  pub record Standing (known : Named Holder) (container variable : ℕ) (loops : List ℕ) (table : Table) (told : Setting) (values : Values) : Type 0 where
    pub stands : Stands sizes all known container variable table told (here sizes containers names states reach around loops values)
    pub loops_below : AllBelow variable loops
    pub own : first_own ≤ container
