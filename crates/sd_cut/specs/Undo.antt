-- Pushes taken back.
use Rattle.std.specs.Prelude.{ℕ, zero, suc, ◌-◌, List, Option, None, length, slice_index_or}
use Rattle.sd_work.specs.Memory.{waiting}
use Rattle.sd_work.specs.Change.{take}
use Rattle.sd_mem.specs.mem.Shaped.{Shaped, alone, changed}
use Rattle.sd_cut.specs.declared.streams.CutStream.{CutStream}
use Rattle.sd_cut.specs.Streams.{pushed_of}

-- a memory without the newest values of a stream, so many
abbrev pub taken_back : (container : ℕ) → (count : ℕ) → Shaped → Shaped
taken_back container zero memory = memory
taken_back container (suc count) memory = taken_back container count (changed (take 0 container (length (waiting 0 container (alone memory)) - 1)) memory)

-- without as many of each of the first streams as were pushed to it, the last stream first
abbrev pub all_taken_back : (count : ℕ) → (left : Shaped) → List (Option CutStream) → Shaped → Shaped
all_taken_back zero left streams memory = memory
all_taken_back (suc count) left streams memory =
    all_taken_back count left streams (taken_back count (length (pushed_of (slice_index_or streams count None) (waiting 0 count (alone left)))) memory)
