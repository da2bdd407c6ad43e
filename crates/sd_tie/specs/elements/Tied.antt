-- What names stand for where a statement stands is what their numbers stand for in a context of the graph.
use Rattle.std.specs.Prelude.{◌≡◌, ℕ, pos, map, Some, if◌then◌else◌}
use Rattle.sd_range.specs.Affine.{affine_value, variable_value}
use Rattle.sd_graph.specs.ContainerParts.{container_at, is_stream, extents_of}
use Rattle.sd_graph.specs.Context.{Context}
use Rattle.sd_graph.specs.declared.container.Container.{Container}
use Rattle.sd_program.specs.Names.{Name, Named, in_force}
use Rattle.sd_program.specs.Place.{Holder}
use Rattle.sd_task.specs.in_force.Subsets.{are_units}
use Rattle.sd_task.specs.task.Table.{Table, extents_at}
use Rattle.sd_says.specs.Held as held
use Rattle.sd_says.specs.Held.{Shape, array_of, a_stream, Held}
use Rattle.sd_says.specs.Setting.{Setting, with_each}

-- the shape of a container of the graph
abbrev pub shape_of : Container → Shape
shape_of container = if is_stream container.kind then a_stream else array_of (extents_of container)

-- what the container of a number is in a context
abbrev pub held_at : Table → Context → (number : ℕ) → Held
held_at table context number = record {
  shape = shape_of (container_at context.containers number);
  unit = are_units (extents_at table.all number);
  reach = context.reach number;
}

-- A setting is that of a context: by the numbers that a table gives to names the containers and variables are those of the context, and a place shows the same.
-- In the context containers have their extents, none of which is below 0.
pub record Tied (table : Table) (setting : Setting) (context : Context) : Type 0 where
  pub containers : setting.containers ≡ with_each (held_at table context) table.containers
  pub variables : setting.variables ≡ with_each (variable_value context.values) table.variables
  pub shown : setting.shown ≡ context.shown
  pub around : setting.around ≡ context.around
  pub extents : (number : ℕ) → map (affine_value context.values) (extents_at table.all number) ≡ map pos (held.extents_of (held_at table context number))

-- each name that is known has a number
abbrev pub AreNumbered : (known : Named Holder) → (numbers : Named ℕ) → Type 0
AreNumbered known numbers = (name : Name) (holder : Holder) → in_force known name ≡ Some holder → (number : ℕ) × (in_force numbers name ≡ Some number)
