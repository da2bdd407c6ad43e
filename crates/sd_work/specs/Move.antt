-- What a move answers.
use Rattle.std.specs.Prelude.{Bool}
use Rattle.sd_work.specs.declared.fault.FaultKind.{FaultKind}
use Rattle.sd_work.specs.Change.{Change}

-- a fault, with its place in the source; what a place is, is for the crates above to say
pub record Fault (P : Type 0) : Type 0 where
  pub place : P
  pub kind : FaultKind

-- a fault of this kind, at this place
abbrev pub fault_at : {P : Type 0} → P → FaultKind → Fault P
fault_at place kind = record { place = place; kind = kind }

-- a move fails by a fault, or goes: it changes the memories and leaves this. Either wants a turn or none; where it wants one and none is left, it neither fails nor goes. Where nothing can move there is no move
pub data Move (P A : Type 0) : Type 0 where
  fails : (turn : Bool) → (fault : Fault P) → Move P A
  goes : (turn : Bool) → (change : Change) → (left : A) → Move P A
  no_move : Move P A

-- a move of a part, as one of the whole that is made of what the part leaves
abbrev pub map_move : {P A B : Type 0} → (A → B) → Move P A → Move P B
map_move whole (fails turn fault) = fails turn fault
map_move whole (goes turn change left) = goes turn change (whole left)
map_move whole no_move = no_move
