-- What an instance, a copy or a reduction has still to do.
use Rattle.std.specs.Prelude.{ℕ, ℤ, List, [], ◌∷◌, ◌++◌, map, Option, Some, None, Result, Bool, true, false}
use Rattle.sd_num.specs.declared.resolution.Resolution.{Resolution}
use Rattle.sd_work.specs.declared.fault.FaultKind.{FaultKind}
use Rattle.sd_work.specs.Memory.{Reference}

-- one thing that is still to do: a value to write, an element to read and write, a value to push. An element that is not inside is None
pub data Pending : Type 0 where
  write_value : (value : ℤ) → (to : Option Reference) → (by : Option Resolution) → Pending
  transfer : (from to : Option Reference) → (by : Option Resolution) → Pending
  push_to : (level container : ℕ) → (value : ℤ) → Pending

-- what a tasklet makes of the values that were read: its effects in order, or a fault
abbrev pub Evaluation : Type 0
Evaluation = List ℤ → Result (List Pending) FaultKind

-- an instance before its evaluation, with the elements left to read and the values read; or a list of things left to do
pub data Leaf : Type 0 where
  reading : (begun : Bool) → (left : List (Option Reference)) → (values : List ℤ) → (evaluation : Evaluation) → Leaf
  doing : (left : List Pending) → Leaf

-- an instance that has not begun
abbrev pub instance_of : List (Option Reference) → Evaluation → Leaf
instance_of reads evaluation = reading false reads [] evaluation

-- a copy of each first element to the second one
abbrev pub copy_of : List (Option Reference × Option Reference) → Leaf
copy_of pairs = doing (map (λ pair. transfer pair.0 pair.1 None) pairs)

-- the identity written to each target, where there is one
abbrev pub identities : Option ℤ → List (Option Reference) → List Pending
identities None targets = []
identities (Some value) targets = map (λ target. write_value value target None) targets

-- a reduction: the identity, where one is given, written to each target, then each first element resolved into the second one
abbrev pub reduction_of : Resolution → Option ℤ → (targets : List (Option Reference)) → List (Option Reference × Option Reference) → Leaf
reduction_of resolution identity targets pairs =
    doing (identities identity targets ++ map (λ pair. transfer pair.0 pair.1 (Some resolution)) pairs)

-- nothing is left to do
abbrev pub is_done : Leaf → Bool
is_done (reading begun left values evaluation) = false
is_done (doing []) = true
is_done (doing (next ∷ left)) = false
