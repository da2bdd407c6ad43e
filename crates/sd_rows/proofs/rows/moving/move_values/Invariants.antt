use Rattle.std.proofs.Common.{◌≡◌, ℕ, ℤ, List, map, take}
use Rattle.sd_num.specs.Wrapped.{wrapped}
use Rattle.sd_range.specs.Affine.{variable_value}
use Rattle.sd_graph.specs.Context.{Context}
use Rattle.sd_tcode.specs.columns.Columns.{value_on}
use Rattle.sd_rows.specs.rows.Along.{IsAlong}
use Rattle.sd_rows.proofs.rows.moving.move_values.Given as goal

-- the values so far
abbrev pub invariant-loop-number : goal.invariant-loop-number
invariant-loop-number l =
    (values : List ℤ) (context : ℕ → Context) → IsAlong l.steps values context →
    map (λ variable. wrapped (variable_value (context 0).values variable)) l.variables ≡ map (λ numbers. value_on numbers l.row) l.near →
    (k : ℕ) → map (λ variable. wrapped (variable_value (context k).values variable)) (take l.number l.variables) ≡ map (λ numbers. value_on numbers k) (take l.number l.numbers)
