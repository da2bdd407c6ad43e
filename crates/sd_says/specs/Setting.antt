-- Where a statement stands: what names stand for there, and the place that a fault tells.
use Rattle.std.specs.Prelude.{ℕ, ℤ, List, [], ◌∷◌, ◌++◌, map, unwrap_or}
use Rattle.sd_program.specs.Names.{Name, Named, in_force}
use Rattle.sd_graph.specs.declared.place.Frame.{Frame}
use Rattle.sd_graph.specs.declared.place.Place.{Place}
use Rattle.sd_says.specs.Held.{Held, nothing_held, raised_held}

-- what names stand for; what a place shows, the loop variables first and then the parameters from the outermost; and the frames of the calls round this program
pub record Setting : Type 0 where
  pub containers : Named Held
  pub variables : Named ℤ
  pub shown : Named ℤ
  pub around : List Frame

-- more names in force, the last one the newest
abbrev pub taken_in : {A : Type 0} → List (Name × A) → Named A → Named A
taken_in [] known = known
taken_in (entry ∷ entries) known = taken_in entries (entry ∷ known)

-- the same names, each for what is made of what it stood for
abbrev pub with_each : {A B : Type 0} → (A → B) → Named A → Named B
with_each make names = map (λ entry. (entry.0, make entry.1)) names

-- what the name of a container stands for
abbrev pub held_by : Setting → Name → Held
held_by setting name = unwrap_or (in_force setting.containers name) nothing_held

-- ---- places

-- a line here
abbrev pub frames_at : Setting → (line : ℕ) → List Frame
frames_at setting line = setting.around ++ record { line = line; values = setting.shown } ∷ []

abbrev pub place_at : Setting → (line : ℕ) → Place
place_at setting line = record { frames = frames_at setting line }

-- ---- what changes

-- one more container is in force
abbrev pub with_container : Name → Held → Setting → Setting
with_container name held setting = record setting { containers = (name, held) ∷ setting.containers }

-- more variables are in force, and shown
abbrev pub with_variables : List (Name × ℤ) → Setting → Setting
with_variables entries setting = record setting { variables = taken_in entries setting.variables; shown = setting.shown ++ entries }

-- inside a point or an element, which has a memory of its own and shows these names too
abbrev pub inside_showing : Named ℤ → Setting → Setting
inside_showing entries setting = record setting { containers = with_each raised_held setting.containers; shown = setting.shown ++ entries }

-- inside a point of a map
abbrev pub at_point : (parameters : List (Name × ℤ)) → Setting → Setting
at_point parameters setting = record (inside_showing parameters setting) { variables = taken_in parameters setting.variables }
