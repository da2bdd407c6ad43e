-- The stack of memories, seen from how it is kept, elements in it, and turns.
use Rattle.std.specs.Prelude.{◌≡◌, ℕ, suc, List, map, reverse, Bool, true, false}
use Rattle.sd_work.specs.Memory.{Memories, Reference}
use Rattle.sd_mem.specs.mem.Shaped.{Shaped}
use Rattle.sd_mem.specs.declared.machine.address.Address.{Address}

-- the memories, the innermost first; they are kept with the outermost first
abbrev pub memories_of : List Shaped → Memories
memories_of kept = reverse (map (λ memory. memory.contents) kept)

-- an element
abbrev pub reference_of : Address → Reference
reference_of cell = record { level = cell.station.level; container = cell.station.container; element = cell.element }

-- the turns before and behind what wants one, or none
abbrev pub IsPaid : (turn : Bool) → (old new : ℕ) → Type 0
IsPaid true old new = old ≡ suc new
IsPaid false old new = old ≡ new
