-- The registers of many runs, side by side.
use Rattle.std.specs.Prelude.{◌≡◌, ℕ, ℤ, pos, ◌+ℤ◌, ◌*ℤ◌, List, [], map, length, slice_index_or}
use Rattle.std.specs.List.{AllByRecursion}
use Rattle.sd_num.specs.Wrapped.{wrapped}
use Rattle.sd_tcode.specs.op.Machine.{State}
use Rattle.sd_tcode.specs.declared.columns.spacing.Spaced.{Spaced}
use Rattle.sd_tcode.specs.declared.columns.columns.Columns.{Columns}

-- the number of a run, as an element
abbrev pub value_on : Spaced → (k : ℕ) → ℤ
value_on numbers k = wrapped (numbers.first +ℤ (numbers.step *ℤ pos k))

-- how many registers and runs there are
abbrev pub register_count : Columns → ℕ
register_count columns = length columns.columns.items

abbrev pub run_count : Columns → ℕ
run_count columns = length columns.spare.items

-- each column has a value for each run
abbrev pub AreWide : Columns → Type 0
AreWide columns = AllByRecursion (λ column. length column.items ≡ run_count columns) columns.columns.items

-- there are as many registers and runs as before, with a value for each
pub record AreKept (before after : Columns) : Type 0 where
  pub registers : register_count after ≡ register_count before
  pub runs : run_count after ≡ run_count before
  pub wide : AreWide before → AreWide after

-- what the registers hold in the run of this number
abbrev pub registers_of : Columns → (run : ℕ) → List ℤ
registers_of columns run = map (λ column. slice_index_or column.items run (pos 0)) columns.columns.items

-- where that run stands
abbrev pub state_of : Columns → (run : ℕ) → State
state_of columns run = record { registers = registers_of columns run; effects = [] }
