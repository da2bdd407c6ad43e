-- Counting the elements of containers, apart from want of memory.
use Rattle.std.specs.Prelude.{◌≡◌, ℕ, List, Result, Ok, Err, ⊤}
use Rattle.sd_valid.specs.declared.error.BindError.{BindError}
use Rattle.sd_valid.specs.declared.error.BindError.TheVariants.{MissingSize, BadSize, OverLimit, Memory}

-- what was counted, or refused, is that tally
abbrev pub Tallies : Result ℕ BindError → Result ℕ (List ℕ) → Type 0
Tallies (Ok total) tally = tally ≡ Ok total
Tallies (Err (OverLimit name)) tally = tally ≡ Err name
Tallies (Err Memory) tally = ⊤
Tallies (Err (MissingSize name)) tally = ⊥
Tallies (Err (BadSize name)) tally = ⊥
