-- The transitions that statements make.
use Rattle.std.specs.Prelude.{ℕ, ℤ, pos, List, [], ◌∷◌, Option, Some, None, true, false, unwrap_or}
use Rattle.sd_range.specs.declared.affine.Affine.{Affine}
use Rattle.sd_graph.specs.PlainTree.{GuardTree, ExitTree}

-- plainly to a state
abbrev pub plainly : ℕ → ExitTree
plainly state = record { to = state; back = false; when = None; set = [] }

-- to a state, with a variable set
abbrev pub setting : ℕ → (variable : ℕ) → Affine → ExitTree
setting state variable value = record { to = state; back = false; when = None; set = (variable, value) ∷ [] }

-- to a state where a condition holds
abbrev pub if_holds : GuardTree → ℕ → ExitTree
if_holds guard state = record { to = state; back = false; when = Some guard; set = [] }

-- back to a state, with a turn
abbrev pub back_to : ℕ → List (ℕ × Affine) → ExitTree
back_to state set = record { to = state; back = true; when = None; set = set }

-- a loop variable plus its step, which is 1 where none is written
abbrev pub stepped_on : (variable : ℕ) → Option ℤ → Affine
stepped_on variable step = record { constant = unwrap_or step (pos 1); terms = (variable, pos 1) ∷ [] }
