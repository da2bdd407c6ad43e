-- Counts of the states of an `else`.
use Rattle.std.proofs.Common.{◌≡◌, ◌==◌, ◌+◌, List, [], ◌∷◌, length, false, refl}
use Rattle.sd_lex.specs.TreeFold.{block_of}
use Rattle.sd_lex.specs.declared.syntax.statement.Statement.{Statement}
use Rattle.sd_program.specs.Declared.{states_in_all, states_in_other}

-- an `else` that is there
pub other_counted : (other : List Statement) → (length other == 0) ≡ false → states_in_other (block_of other) ≡ 1 + states_in_all (block_of other) + 1
other_counted [] some = cc
other_counted (first ∷ rest) some = refl
