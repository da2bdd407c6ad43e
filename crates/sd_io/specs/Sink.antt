-- What a sink tells that it took: all the bytes so far, or nothing.
use Rattle.std.specs.Prelude.{◌≡◌, ℕ, List, ◌++◌, take, Option, Some, None, ⊤}

-- where the bytes taken are told, they are those from before, and then this piece
abbrev pub Appends : Option (List ℕ) → Option (List ℕ) → List ℕ → Type 0
Appends None now piece = ⊤
Appends (Some before) now piece = now ≡ Some (before ++ piece)

-- the bytes taken are those from before, and then a prefix of this piece
abbrev pub AppendsPrefix : Option (List ℕ) → Option (List ℕ) → List ℕ → Type 0
AppendsPrefix before now piece = (count : ℕ) × Appends before now (take count piece)
