-- Memories of the stack between which and here all earlier points of maps are finished.
use Rattle.std.specs.Prelude.{◌≡◌, ℕ, nat_lt, List, Bool, false, slice_index_or}

-- so it is of the innermost memories, so many, and of no other
abbrev pub ClearsTo : (cleared : List Bool) → (clear : ℕ) → Type 0
ClearsTo cleared clear = (level : ℕ) → slice_index_or cleared level false ≡ nat_lt level clear
