-- What flat code is given at a point of a row, and the memories beside it.
use Rattle.std.specs.Prelude.{◌≡◌, ℕ, ◌<◌, ◌^◌, ℤ, [], ◌∷◌, length, drop, replicate}
use Rattle.std.specs.List.{AllByRecursion}
use Rattle.sd_num.specs.declared.width.Width.{Width}
use Rattle.sd_work.specs.Memory.{absent, Memory, Memories, look, width_of, contents_of}
use Rattle.sd_work.specs.BigStep.{Reached}
use Rattle.sd_graph.specs.TaskletMeaning.{Inputs}
use Rattle.sd_row.specs.declared.row.track.Track.{Track}
use Rattle.sd_row.specs.declared.row.row.Row.{Row}
use Rattle.sd_row.specs.row.Row.{reference_on}

-- the value of a track's element at a point of a row
abbrev pub seen_on : (k : ℕ) → Memories → Track → ℤ
seen_on k memories track = look (reference_on track k) memories

-- the width of its elements
abbrev pub width_on : Memories → Track → Width
width_on memories track = width_of (contents_of track.station.level track.station.container memories)

-- what is given has one element for each read of a row, as many variables as the row has, and scalars as connectors
pub record HasScalars (row : Row) (connectors : ℕ) (inputs : Inputs) : Type 0 where
  pub singles : AllByRecursion (λ values. length values ≡ 1) inputs.values
  pub reads : length inputs.values ≡ length row.reads.items
  pub variables : length inputs.variables ≡ length row.variables.items
  pub extents : inputs.extents ≡ replicate connectors []
  pub few_reads : length row.reads.items < 2 ^ 32
  pub few_variables : length row.variables.items < 2 ^ 32

-- no container of a memory holds anything
abbrev pub IsBare : Memory → Type 0
IsBare memory = AllByRecursion (λ contents. contents ≡ absent) memory

-- the innermost memory is this one
abbrev pub IsOver : Memory → Reached → Type 0
IsOver own now = now.memories ≡ own ∷ drop 1 now.memories

-- the memories below the innermost one
abbrev pub below : Reached → Reached
below now = record { memories = drop 1 now.memories; turns = now.turns }
