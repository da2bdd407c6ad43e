-- The next move of an instance, a copy or a reduction.
use Rattle.std.specs.Prelude.{ℤ, List, [], ◌∷◌, ◌++◌, Option, Some, None, Result, Ok, Err, Bool, true, false, not}
use Rattle.sd_num.specs.declared.resolution.Resolution.{Resolution}
use Rattle.sd_work.specs.declared.fault.FaultKind.{FaultKind}
use Rattle.sd_work.specs.declared.fault.FaultKind.TheVariants.{Subscript}
use Rattle.sd_work.specs.Memory.{Memories, Reference, seen}
use Rattle.sd_work.specs.Change.{nothing, write, push}
use Rattle.sd_work.specs.Leaf.{Pending, write_value, transfer, push_to, Evaluation, Leaf, reading, doing}
use Rattle.sd_work.specs.Move.{fault_at, Move, fails, goes, no_move}

-- a value, where it was seen, is written to an element, where that is inside
abbrev pub write_move : {P : Type 0} → P → Option ℤ → Option Reference → Option Resolution → List Pending → Move P Leaf
write_move place None to by left = fails false (fault_at place Subscript)
write_move place (Some value) None by left = fails false (fault_at place Subscript)
write_move place (Some value) (Some to) by left = goes false (write to by value) (doing left)

-- the first of the things left to do
abbrev pub do_move : {P : Type 0} → P → Pending → Memories → List Pending → Move P Leaf
do_move place (write_value value to by) memories left = write_move place (Some value) to by left
do_move place (transfer from to by) memories left = write_move place (seen from memories) to by left
do_move place (push_to level container value) memories left = goes false (push level container value) (doing left)

-- the next element is read
abbrev pub read_move : {P : Type 0} → P → (turn : Bool) → Option ℤ → List (Option Reference) → List ℤ → Evaluation → Move P Leaf
read_move place turn None left values evaluation = fails turn (fault_at place Subscript)
read_move place turn (Some value) left values evaluation = goes turn nothing (reading true left (values ++ value ∷ []) evaluation)

-- the values that were read are evaluated
abbrev pub evaluation_move : {P : Type 0} → P → (turn : Bool) → Result (List Pending) FaultKind → Move P Leaf
evaluation_move place turn (Err kind) = fails turn (fault_at place kind)
evaluation_move place turn (Ok effects) = goes turn nothing (doing effects)

-- the next move of a leaf at this place; the first one of an instance wants a turn
abbrev pub leaf_move : {P : Type 0} → P → Leaf → Memories → Move P Leaf
leaf_move place (reading begun [] values evaluation) memories = evaluation_move place (not begun) (evaluation values)
leaf_move place (reading begun (next ∷ left) values evaluation) memories = read_move place (not begun) (seen next memories) left values evaluation
leaf_move place (doing []) memories = no_move
leaf_move place (doing (next ∷ left)) memories = do_move place next memories left
