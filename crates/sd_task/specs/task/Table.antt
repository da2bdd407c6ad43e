-- What is in force at a place of a program, by number, with all containers of the program.
use Rattle.std.specs.Prelude.{ℕ, zero, suc, List, [], ◌∷◌}
use Rattle.sd_range.specs.declared.affine.Affine.{Affine}
use Rattle.sd_graph.specs.declared.container.Container.{Container}
use Rattle.sd_program.specs.Names.{Name, Named}
use Rattle.sd_task.specs.in_force.Names.{number_or, with_numbered}

pub record Table : Type 0 where
  -- the containers and the variables in force
  pub containers : Named ℕ
  pub variables : Named ℕ
  -- each container of the program, in force or not, with its name
  pub all : List (Name × Container)

-- one more container is in force, the one of this number
abbrev pub with_container : Name → ℕ → Table → Table
with_container name container table = record { containers = (name, container) ∷ table.containers; variables = table.variables; all = table.all }

-- more variables are in force, the first with this number
abbrev pub with_variables : List Name → (next : ℕ) → Table → Table
with_variables names next table = record { containers = table.containers; variables = with_numbered names next table.variables; all = table.all }

-- the number of a container
abbrev pub container_number : Table → Name → ℕ
container_number table name = number_or 0 table.containers name

-- the extents of the container of a number; a stream has none
abbrev pub extents_at : List (Name × Container) → ℕ → List Affine
extents_at [] container = []
extents_at (first ∷ rest) zero = first.1.extents
extents_at (first ∷ rest) (suc container) = extents_at rest container
