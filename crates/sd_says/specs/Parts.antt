-- Parts of containers: subsets, their elements, and the views that calls have of them.
use Rattle.std.specs.Prelude.{ℕ, ℤ, pos, ◌+ℤ◌, ◌-ℤ◌, ◌*ℤ◌, List, [], ◌∷◌, map, length, Option, None, Bool, true, if◌then◌else◌}
use Rattle.sd_lex.specs.PlainTree.{Dimension, index, span, Memlet}
use Rattle.sd_range.specs.Range.{stepped}
use Rattle.sd_range.specs.Points.{tuples}
use Rattle.sd_range.specs.Subset.{inside}
use Rattle.sd_work.specs.Memory.{Reference}
use Rattle.sd_graph.specs.Context.{Reach}
use Rattle.sd_program.specs.Names.{Name, Named}
use Rattle.sd_says.specs.Exact.{exact, exact_or, step_or_one}
use Rattle.sd_says.specs.Held.{Held, extents_of, element_in}
use Rattle.sd_says.specs.Setting.{Setting, held_by}

-- one dimension of a subset: one index, or the indices from a begin up to a last one, a step apart
pub data Axis : Type 0 where
  one_index : (at : ℤ) → Axis
  a_range : (begin last step : ℤ) → Axis

-- a part of a container
pub record Part : Type 0 where
  pub held : Held
  pub axes : List Axis

-- ---- what is written

-- one dimension of a container of this extent: a begin that is left out is 0, an end the extent, a step 1
abbrev pub axis_in : Named ℤ → (extent : ℤ) → Dimension → Axis
axis_in variables extent (index at) = one_index (exact variables at)
axis_in variables extent (span begin end step) =
    a_range (exact_or (pos 0) variables begin) (exact_or extent variables end -ℤ pos 1) (step_or_one step)

-- dimensions as they are written, each with its extent
abbrev pub axes_with : Named ℤ → List Dimension → (extents : List ℕ) → List Axis
axes_with variables [] extents = []
axes_with variables (dimension ∷ dimensions) [] = []
axes_with variables (dimension ∷ dimensions) (extent ∷ extents) = axis_in variables (pos extent) dimension ∷ axes_with variables dimensions extents

-- the whole of a container
abbrev pub whole_axes : (extents : List ℕ) → List Axis
whole_axes extents = map (λ extent. a_range (pos 0) (pos extent -ℤ pos 1) (pos 1)) extents

-- a subset; where none is written it is the whole container
abbrev pub axes_in : Named ℤ → List Dimension → (extents : List ℕ) → List Axis
axes_in variables [] extents = whole_axes extents
axes_in variables (dimension ∷ dimensions) extents = axes_with variables (dimension ∷ dimensions) extents

-- the first element of a container
abbrev pub first_axes : (extents : List ℕ) → List Axis
first_axes extents = map (λ extent. one_index (pos 0)) extents

-- the subset of a tasklet's connector: where none is written, of a container whose extents are written as 1 it is the element
abbrev pub connector_axes : Named ℤ → (unit : Bool) → List Dimension → (extents : List ℕ) → List Axis
connector_axes variables true [] extents = first_axes extents
connector_axes variables unit dimensions extents = axes_in variables dimensions extents

abbrev pub part_in : Setting → Name → List Dimension → Part
part_in setting name dimensions =
    let held : Held = held_by setting name in
    record { held = held; axes = axes_in setting.variables dimensions (extents_of held) }

-- what a connector moves
abbrev pub memlet_part : Setting → Memlet → Part
memlet_part setting memlet =
    let held : Held = held_by setting memlet.name in
    record { held = held; axes = connector_axes setting.variables held.unit memlet.dimensions (extents_of held) }

-- ---- elements

abbrev pub axis_values : Axis → List ℤ
axis_values (one_index at) = at ∷ []
axis_values (a_range begin last step) = stepped begin last step

-- how many values each range has
abbrev pub axes_extents : List Axis → List ℕ
axes_extents [] = []
axes_extents (one_index at ∷ axes) = axes_extents axes
axes_extents (a_range begin last step ∷ axes) = length (stepped begin last step) ∷ axes_extents axes

abbrev pub part_extents : Part → List ℕ
part_extents part = axes_extents part.axes

-- the index in the container, at a place in the part, which has a number of steps for each range; without one it is the range's begin
abbrev pub index_at : List Axis → (place : List ℤ) → List ℤ
index_at [] place = []
index_at (one_index at ∷ axes) place = at ∷ index_at axes place
index_at (a_range begin last step ∷ axes) [] = begin ∷ index_at axes []
index_at (a_range begin last step ∷ axes) (steps ∷ place) = (begin +ℤ (step *ℤ steps)) ∷ index_at axes place

-- the elements in row order
abbrev pub part_elements : Part → List (Option Reference)
part_elements part = map (element_in part.held) (tuples (map axis_values part.axes))

-- the element at a place in the part
abbrev pub part_element : Part → (place : List ℤ) → Option Reference
part_element part place = element_in part.held (index_at part.axes place)

-- a part as an array of its own: an element is there where its index is inside these extents, and that in the container is inside
abbrev pub view_of : Part → (extents : List ℕ) → Reach
view_of part extents =
    record part.held.reach { find = λ index. if inside extents index then part.held.reach.find (index_at part.axes index) else None }
