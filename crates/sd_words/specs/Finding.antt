-- What a search answers.
use Rattle.std.specs.Prelude.{Option, Some, None}

-- it found what is wanted, seen by view, or there is nothing of the kind
abbrev pub Finds : {X Y : Type 0} → (X → Y) → (Y → Type 0) → Option X → Type 0
Finds {X} {Y} view IsWanted None = (other : Y) → IsWanted other → ⊥
Finds view IsWanted (Some found) = IsWanted (view found)
