-- Code that writes one value at one place of an output.
use Rattle.std.specs.Prelude.{◌≡◌, ◌≢◌, ℕ, ◌+◌, ◌-◌, ◌≤◌, ℤ, List, [], ◌∷◌, length, Some, None, slice_get}
use Rattle.sd_work.specs.Memory.{Memories}
use Rattle.sd_tcode.specs.declared.op.op.Op.{Op}
use Rattle.sd_tcode.specs.declared.op.op.Op.TheVariants as ops
use Rattle.sd_tcode.specs.tcode.Compiled.{Compiled, IsSafe}
use Rattle.sd_tcode.specs.columns.Columns.{value_on}
use Rattle.sd_row.specs.row.Point.{seen_on}
use Rattle.sd_row.specs.declared.instance.accesses.Accesses.{Accesses}
use Rattle.sd_row.specs.declared.instance.target.Target.TheVariants.{Among}
use Rattle.sd_row.specs.declared.instance.scatter.Operand.{Operand}
use Rattle.sd_row.specs.declared.instance.scatter.Operand.TheVariants.{Read, Variable, Number}
use Rattle.sd_row.specs.declared.instance.scatter.Parts.{Parts}
use Rattle.sd_row.specs.declared.instance.scatter.Scatter.{Scatter}

-- the value of an operand at a point
abbrev pub operand_on : (k : ℕ) → Memories → Operand → ℤ
operand_on k memories (Read track) = seen_on k memories track
operand_on k memories (Variable numbers) = value_on numbers k
operand_on k memories (Number value) = value

-- an instruction puts an operand into a register
abbrev pub IsPut : Accesses → Op → (to : ℕ) → Operand → Type 0
IsPut accesses op to (Read track) = (number : ℕ) × (op ≡ ops.Copy to number) × (slice_get accesses.reads.items number ≡ Some track)
IsPut accesses op to (Variable numbers) = (number : ℕ) × (op ≡ ops.Copy to (length accesses.reads.items + number)) × (slice_get accesses.variables.items number ≡ Some numbers)
IsPut accesses op to (Number value) = op ≡ ops.Number to value

-- an index is put into a register and tested, then a value into another one, and the effect is kept
abbrev pub ops_of : Parts → List Op
ops_of parts = parts.index ∷ ops.Inside 1 parts.connector parts.at ∷ parts.value ∷ ops.Keep 1 parts.connector parts.at parts.to ∷ []

-- code with these accesses that does no more than this
pub record IsScatter (code : Compiled) (accesses : Accesses) (scatter : Scatter) : Type 0 where
  pub safe : IsSafe code
  pub plain : code.plain ≡ None
  pub inputs : code.layout.inputs ≡ length accesses.reads.items
  pub variables : code.layout.variables ≡ length accesses.variables.items
  pub parts : Parts
  pub ops : code.ops ≡ ops_of parts
  pub differ : parts.at ≢ parts.to
  pub index : IsPut accesses parts.index parts.at scatter.index
  pub value : IsPut accesses parts.value parts.to scatter.value
  pub output : length accesses.reads.items ≤ parts.connector
  pub target : slice_get accesses.targets.items (parts.connector - length accesses.reads.items) ≡ Some (Among scatter.by scatter.to scatter.count)
