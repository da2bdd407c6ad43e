-- What code is given, in the words of its meaning.
use Rattle.std.specs.Prelude.{ℕ, ◌<◌, ◌≤◌, ◌^◌, min, [], map, length, slice_index_or}
use Rattle.sd_range.specs.Points.{product}
use Rattle.sd_graph.specs.TaskletMeaning as meaning
use Rattle.sd_tasklet.specs.declared.tasklet.inputs.Inputs.{Inputs}

-- the elements, extents and variables
abbrev pub given : Inputs → meaning.Inputs
given inputs = record { values = inputs.values; extents = inputs.extents; variables = inputs.variables }

-- an extent as it may be given: one above 2^63 as 2^63, which no subscript can tell apart
abbrev pub told_extent : (extent : ℕ) → ℕ
told_extent extent = min extent (2 ^ 63)

-- the same with extents as they may be given
abbrev pub told_inputs : meaning.Inputs → meaning.Inputs
told_inputs meant = record meant { extents = map (map told_extent) meant.extents }

-- no connector has more than four dimensions, and each input connector has as many elements as its extents multiply to
pub record IsWhole (inputs : meaning.Inputs) : Type 0 where
  pub dimensions : (connector : ℕ) → length (meaning.extents_of_connector inputs connector) ≤ 4
  pub elements : (connector : ℕ) → connector < length inputs.values → product (meaning.extents_of_connector inputs connector) ≤ length (slice_index_or inputs.values connector [])
