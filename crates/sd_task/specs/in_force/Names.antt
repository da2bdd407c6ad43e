-- Numbers of names.
use Rattle.std.specs.Prelude.{ℕ, ◌+◌, List, [], ◌∷◌, unwrap_or}
use Rattle.sd_program.specs.Names.{Name, Named, in_force}

-- the number that a name stands for, or another where it is not in force
abbrev pub number_or : ℕ → Named ℕ → Name → ℕ
number_or other names name = unwrap_or (in_force names name) other

-- more names in force, the last one the newest; the first has this number
abbrev pub with_numbered : List Name → (next : ℕ) → Named ℕ → Named ℕ
with_numbered [] next known = known
with_numbered (name ∷ names) next known = with_numbered names (next + 1) ((name, next) ∷ known)
