-- The next moves of residual work, from left to right.
use Rattle.std.specs.Prelude.{ℕ, suc, ℤ, List, [], ◌∷◌, ◌++◌, map, Bool, true, false, cond, not}
use Rattle.sd_work.specs.Memory.{Memories, waiting}
use Rattle.sd_work.specs.Leaf.{is_done}
use Rattle.sd_work.specs.Residual.{Term, leaf, list, owning, nested, ended, pool, Terms, none, also, Actives, idle, busy, finished, flags_of, is_ready}

-- where in a term a move is: the part's number in each list on the way; in a pool 1 and the active term's number, or 0 and the position that is taken
abbrev pub Path : Type 0
Path = List ℕ

-- one move here, or none
abbrev pub here_if : Bool → List Path
here_if true = [] ∷ []
here_if false = []

-- the moves in a part of this number
abbrev pub moves_in : ℕ → List Path → List Path
moves_in number paths = map (λ path. number ∷ path) paths

-- taking each value that waits, from this position on
abbrev pub takes_from : ℕ → List ℤ → List Path
takes_from position [] = []
takes_from position (value ∷ values) = (0 ∷ position ∷ []) ∷ takes_from (suc position) values

abbrev mutual
  pub moves : {P : Type 0} → Term P → Memories → List Path
  moves (leaf place work) memories = here_if (not (is_done work))
  moves (list kind before parts) memories = moves_of_parts before (flags_of parts) 0 parts memories
  moves (owning own part) memories = moves part (own ∷ memories)
  moves (nested body exits own state values part) memories = cond (finished part) ([] ∷ []) (moves part (own ∷ memories))
  moves (ended own) memories = []
  moves (pool level container body active closed) memories =
      cond closed [] (moves_in 1 (moves_of_active 0 active memories) ++ takes_from 0 (waiting level container memories))

  -- those of the parts that may go on, from the part of this number on
  pub moves_of_parts : {P : Type 0} → (ℕ → ℕ → Bool) → (flags : List Bool) → ℕ → Terms P → Memories → List Path
  moves_of_parts before flags number none memories = []
  moves_of_parts before flags number (also part parts) memories =
      cond (is_ready before flags number) (moves_in number (moves part memories)) []
      ++ moves_of_parts before flags (suc number) parts memories

  -- those of the active terms, from the one of this number on
  pub moves_of_active : {P : Type 0} → ℕ → Actives P → Memories → List Path
  moves_of_active number idle memories = []
  moves_of_active number (busy value part active) memories =
      moves_in number (moves part memories) ++ moves_of_active (suc number) active memories
