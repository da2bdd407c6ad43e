use Rattle.std.proofs.Common.{◌≡◌, ◌++◌, map, take}
use Rattle.sd_tcode.specs.columns.Columns.{value_on}
use Rattle.sd_rows.proofs.consume.setup.values_before.Given as goal

-- the numbers so far
abbrev pub invariant-loop-number : goal.invariant-loop-number
invariant-loop-number l =
    map (λ numbers. value_on numbers 0) l.all.items ≡ map (λ numbers. value_on numbers 0) l.variables ++ take l.number-index l.numbers
