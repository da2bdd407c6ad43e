-- Many points of a row at once.
use Rattle.std.specs.Prelude.{◌≡◌, ℕ, zero, suc, ◌+◌, ℤ, pos, List, [], ◌∷◌, slice_index_or}
use Rattle.std.specs.List.{AllByRecursion}
use Rattle.sd_work.specs.Memory.{Memories}
use Rattle.sd_work.specs.Change.{write, apply}
use Rattle.sd_tcode.specs.declared.columns.columns.Columns.{Columns}
use Rattle.sd_tcode.specs.columns.Columns.{registers_of}
use Rattle.sd_row.specs.declared.row.track.Track.{Track}
use Rattle.sd_row.specs.declared.row.row.Write.{Write}
use Rattle.sd_row.specs.declared.row.row.Row.{Row}
use Rattle.sd_row.specs.row.Row.{reference_on}

-- no write goes to the container of this read
abbrev pub IsApart : List Write → Track → Type 0
IsApart writes read = AllByRecursion (λ write. (read.station ≡ write.to.station) → ⊥) writes

-- a row writes to no container that it reads
abbrev pub AreApart : Row → Type 0
AreApart row = AllByRecursion (IsApart row.writes.items) row.reads.items

-- the value of an output in a run, whose registers stand from one on
abbrev pub column_value : (first : ℕ) → Columns → (run connector : ℕ) → ℤ
column_value first columns run connector = slice_index_or (registers_of columns run) (first + connector) (pos 0)

-- the memories after writes of a point, where the outputs have these values
abbrev pub after_writes : (value : ℕ → ℤ) → (k : ℕ) → List Write → Memories → Memories
after_writes value k [] memories = memories
after_writes value k (next ∷ writes) memories = after_writes value k writes (apply (write (reference_on next.to k) next.by (value next.connector)) memories)

-- the memories after the writes of so many points from one on
abbrev pub after_points : (value : (run connector : ℕ) → ℤ) → List Write → (from count : ℕ) → Memories → Memories
after_points value writes from zero memories = memories
after_points value writes from (suc count) memories = after_writes (value count) (from + count) writes (after_points value writes from count memories)
