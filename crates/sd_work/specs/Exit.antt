-- The ways out of a state, and which of them is taken.
use Rattle.std.specs.Prelude.{ℕ, ℤ, List, [], ◌∷◌, Option, Some, None, Result, Ok, Err, Bool, true, false}
use Rattle.sd_work.specs.declared.fault.FaultKind.{FaultKind}
use Rattle.sd_work.specs.declared.fault.FaultKind.TheVariants.{Subscript}
use Rattle.sd_work.specs.Memory.{Memories, Reference, seen}
use Rattle.sd_work.specs.Move.{Fault, fault_at}

-- the values of the variables
abbrev pub Values : Type 0
Values = List ℤ

-- a condition: its place, the elements that it reads, and whether it holds of their values
pub record Guard (P : Type 0) : Type 0 where
  pub place : P
  pub reads : List (Option Reference)
  pub holds : List ℤ → Result Bool FaultKind

-- a way out of a state: when it is taken, whether it wants a turn, the state that it leads to and the values of the variables there
pub record Exit (P : Type 0) : Type 0 where
  pub when : Option (Guard P)
  pub marked : Bool
  pub state : ℕ
  pub values : Values

-- a value before others, where all of them were seen
abbrev pub with_value : Option ℤ → Option (List ℤ) → Option (List ℤ)
with_value None values = None
with_value (Some value) None = None
with_value (Some value) (Some values) = Some (value ∷ values)

-- the values of elements, where all accesses are inside
abbrev pub all_seen : List (Option Reference) → Memories → Option (List ℤ)
all_seen [] memories = Some []
all_seen (read ∷ reads) memories = with_value (seen read memories) (all_seen reads memories)

-- a fault with its place
abbrev pub placed : {P A : Type 0} → P → Result A FaultKind → Result A (Fault P)
placed place (Ok value) = Ok value
placed place (Err kind) = Err (fault_at place kind)

-- a condition of the values that it reads
abbrev pub decided : {P : Type 0} → Guard P → Option (List ℤ) → Result Bool (Fault P)
decided guard None = Err (fault_at guard.place Subscript)
decided guard (Some values) = placed guard.place (guard.holds values)

-- whether an exit may be taken; one without a condition always may
abbrev pub passed : {P : Type 0} → Option (Guard P) → Memories → Result Bool (Fault P)
passed None memories = Ok true
passed (Some guard) memories = decided guard (all_seen guard.reads memories)

-- this exit where it may be taken, else the first of the later ones
abbrev pub or_later : {P : Type 0} → Result Bool (Fault P) → Exit P → Result (Option (Exit P)) (Fault P) → Result (Option (Exit P)) (Fault P)
or_later (Err fault) exit later = Err fault
or_later (Ok true) exit later = Ok (Some exit)
or_later (Ok false) exit later = later

-- the first exit that may be taken, or the fault of a condition up to it
abbrev pub first_exit : {P : Type 0} → List (Exit P) → Memories → Result (Option (Exit P)) (Fault P)
first_exit [] memories = Ok None
first_exit (exit ∷ exits) memories = or_later (passed exit.when memories) exit (first_exit exits memories)
