use Rattle.std.proofs.Common.{◌≡◌, ◌+◌, ◌<◌, ℕ, ◌++◌, map, take}
use Rattle.sd_tcode.specs.columns.Columns.{value_on, registers_of, AreKept}
use Rattle.sd_row.proofs.row.block.spread_variables.Given as goal

-- the variables so far
abbrev pub invariant-loop-number : goal.invariant-loop-number
invariant-loop-number l = record {
  kept : AreKept l.fn.columns l.columns;
  set : (run : ℕ) → run < l.count → take (l.first + l.number) (registers_of l.columns run) ≡ take l.first (registers_of l.fn.columns run) ++ map (λ numbers. value_on numbers (l.from + run)) (take l.number l.variables);
}
