-- Where the next move of a number is.
use Rattle.std.specs.Prelude.{ℕ, suc, ◌-◌, nat_lt, List, [], ◌∷◌, Bool, cond, if◌then◌else◌}
use Rattle.sd_work.specs.Memory.{Memories}
use Rattle.sd_work.specs.Residual.{Term, leaf, list, owning, nested, ended, pool, Terms, none, also, Actives, idle, busy, finished, flags_of, is_ready}
use Rattle.sd_work.specs.Moves.{Path}
use Rattle.sd_moves.specs.numbered.Counts.{count, count_active}

-- a number below a count is one of these moves, any other one of the later ones, which are counted from there
abbrev pub here_or_later : {A : Type 0} → (move counted : ℕ) → (here : A) → (later : ℕ → A) → A
here_or_later move counted here later = if nat_lt move counted then here else later (move - counted)

abbrev mutual
  -- the place of the next move of this number
  pub place_of : {P : Type 0} → Term P → Memories → (move : ℕ) → Path
  place_of (leaf place work) memories move = []
  place_of (list kind before parts) memories move = place_in_parts before (flags_of parts) 0 parts memories move
  place_of (owning own part) memories move = place_of part (own ∷ memories) move
  place_of (nested body exits own state values part) memories move = cond (finished part) [] (place_of part (own ∷ memories) move)
  place_of (ended own) memories move = []
  place_of (pool level container body active closed) memories move =
      here_or_later move (count_active active memories) (1 ∷ place_in_active 0 active memories move) (λ position. 0 ∷ position ∷ [])

  pub place_in_parts : {P : Type 0} → (ℕ → ℕ → Bool) → (flags : List Bool) → (number : ℕ) → Terms P → Memories → (move : ℕ) → Path
  place_in_parts before flags number none memories move = []
  place_in_parts before flags number (also part parts) memories move =
      here_or_later move (cond (is_ready before flags number) (count part memories) 0)
      (number ∷ place_of part memories move) (place_in_parts before flags (suc number) parts memories)

  pub place_in_active : {P : Type 0} → (number : ℕ) → Actives P → Memories → (move : ℕ) → Path
  place_in_active number idle memories move = []
  place_in_active number (busy value part active) memories move =
      here_or_later move (count part memories) (number ∷ place_of part memories move) (place_in_active (suc number) active memories)
