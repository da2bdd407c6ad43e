-- Devices in memory that fail at listed calls.
use Rattle.std.specs.Prelude.{ℕ, List, Bool, true, false, ⊤, Result, Ok, Err}
use Rattle.sd_io.specs.declared.shelf.ShelfError.{ShelfError}
use Rattle.sd_io.specs.declared.shelf.ShelfError.TheVariants as shelf
use Rattle.sd_io.specs.declared.sink.SinkError.{SinkError}
use Rattle.sd_io.specs.declared.sink.SinkError.TheVariants.{Failed, Memory}

-- the bytes taken, the calls that fail, how many calls there were, and how many of them failed
pub record FailingSink : Type 0 where
  pub taken : List ℕ
  pub failing : List ℕ
  pub calls : ℕ
  pub faults : ℕ

-- the files, the calls that fail, how many calls there were, and how many failed or found a file too long
pub record FailingShelf : Type 0 where
  pub files : List (List ℕ × List ℕ)
  pub failing : List ℕ
  pub calls : ℕ
  pub faults : ℕ
  pub overruns : ℕ

-- a write found a fault
abbrev pub is_failed : Result ⊤ SinkError → Bool
is_failed (Ok _) = false
is_failed (Err Failed) = true
is_failed (Err Memory) = false

-- a read found a fault, or a file that is too long
abbrev pub is_fault : {T : Type 0} → Result T ShelfError → Bool
is_fault (Ok _) = false
is_fault (Err shelf.Failed) = true
is_fault (Err shelf.TooLong) = false
is_fault (Err shelf.Memory) = false

abbrev pub is_overrun : {T : Type 0} → Result T ShelfError → Bool
is_overrun (Ok _) = false
is_overrun (Err shelf.Failed) = false
is_overrun (Err shelf.TooLong) = true
is_overrun (Err shelf.Memory) = false
