use Rattle.std.proofs.Common.{◌≡◌, ℕ, ℤ, List, map, take, length}
use Rattle.sd_num.specs.Wrapped.{wrapped}
use Rattle.sd_range.specs.Affine.{variable_value}
use Rattle.sd_graph.specs.Context.{Context}
use Rattle.sd_rows.specs.rows.Along.{IsAlong}
use Rattle.sd_tcode.specs.columns.Columns.{value_on}
use Rattle.sd_rows.proofs.rows.between.values_of_variables.Given as goal

-- the values so far
abbrev pub invariant-loop-variable : goal.invariant-loop-variable
invariant-loop-variable l = record {
  at : (values : List ℤ) (context : ℕ → Context) → IsAlong l.steps values context → l.first.values ≡ (context 0).values →
      (k : ℕ) → map (λ variable. wrapped (variable_value (context k).values variable)) (take l.variable-index l.variables) ≡ map (λ numbers. value_on numbers k) l.numbers.items;
  many : length l.numbers.items ≡ l.variable-index;
}
