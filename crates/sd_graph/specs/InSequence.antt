-- The moves of points that come one after another.
use Rattle.std.specs.Prelude.{ℕ, suc, List, [], cond}
use Rattle.sd_work.specs.Memory.{Memories}
use Rattle.sd_work.specs.Moves.{Path, moves, moves_in}
use Rattle.sd_work.specs.Residual.{Terms, none, also, finished}

-- those of the first of these parts of which something is left, the parts being numbered from this number on; none where all are finished
abbrev pub moves_of_first : {P : Type 0} → (number : ℕ) → Terms P → Memories → List Path
moves_of_first number none memories = []
moves_of_first number (also part parts) memories = cond (finished part) (moves_of_first (suc number) parts memories) (moves_in number (moves part memories))
