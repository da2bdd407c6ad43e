-- The memory of an element. One such memory stands on the stack for all elements, and no value is written into it.
use Rattle.std.specs.Prelude.{◌≡◌, ℕ, ◌<◌, ℤ, [], ◌∷◌, drop, slice_index_or}
use Rattle.sd_num.specs.declared.width.Width.TheVariants.{W64}
use Rattle.sd_work.specs.Memory.{stream, Memory, Memories, elements_of, look}
use Rattle.sd_work.specs.BigStep.{Reached}
use Rattle.sd_mem.specs.machine.Stack.{reference_of}
use Rattle.sd_row.specs.declared.row.track.Track.{Track}
use Rattle.sd_row.specs.row.Row.{reference_on}
use Rattle.sd_rows.specs.declared.consume.source.Source.{Source}
use Rattle.sd_rows.specs.declared.consume.source.Source.TheVariants.{Own, Outside}

-- the same with this innermost memory
abbrev pub with_own : Memory → Reached → Reached
with_own own now = record { memories = own ∷ drop 1 now.memories; turns = now.turns }

-- a memory whose element shows this value
abbrev pub HasValue : Memory → (element : ℕ) → (value : ℤ) → Type 0
HasValue own element value = elements_of (slice_index_or own element (stream W64 [])) ≡ value ∷ []

-- an input that leads here comes from there
abbrev pub IsSource : (element : ℕ) → Track → Source → Type 0
IsSource element track Own = reference_on track 0 ≡ record { level = 0; container = element; element = 0 }
IsSource element track (Outside cell) = (0 < cell.station.level) × (reference_of cell ≡ reference_on track 0)

-- what an input sees, for an element that shows this value
abbrev pub seen_from : (value : ℤ) → Memories → Source → ℤ
seen_from value memories Own = value
seen_from value memories (Outside cell) = look (reference_of cell) memories
