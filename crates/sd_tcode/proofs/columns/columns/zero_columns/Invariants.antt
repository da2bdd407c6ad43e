use Rattle.std.proofs.Common.{◌≡◌, ◌≤◌, ◌-◌, length}
use Rattle.std.specs.List.{AllByRecursion}
use Rattle.sd_tcode.proofs.columns.columns.zero_columns.Given as goal

-- the columns so far
abbrev pub invariant-loop-alloc : goal.invariant-loop-alloc
invariant-loop-alloc l = record {
  few : length l.columns.items ≤ l.registers;
  wide : AllByRecursion (λ column. length column.items ≡ l.runs) l.columns.items;
}

abbrev pub decreases-loop-alloc : goal.decreases-loop-alloc
decreases-loop-alloc l = l.registers - length l.columns.items
