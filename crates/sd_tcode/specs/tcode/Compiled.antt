-- Compiled code.
use Rattle.std.specs.Prelude.{◌≡◌, ℕ, ◌+◌, ◌<◌, ◌≤◌, List, ◌++◌, length, map, Option, Some, None, Bool, true, false}
use Rattle.std.specs.List.{AllByRecursion}
use Rattle.sd_graph.specs.PlainTree.{TaskletTree}
use Rattle.sd_tcode.specs.tcode.Named.{IsNamed}
use Rattle.sd_tcode.specs.op.Within.{Room, IsWithin, most_kept}
use Rattle.sd_tcode.specs.tcode.Emitted.{layout_of, tasklet_code}
use Rattle.sd_tcode.specs.tcode.Plain.{plain_of}
use Rattle.sd_tcode.specs.declared.tcode.layout.Layout.{Layout}
use Rattle.sd_tcode.specs.declared.op.op.Op.{Op}

-- the instructions, the registers that are named, the dimensions of each connector, how many registers and how many effects there are, and the outputs of plain code in the order in which they are set
pub record Compiled : Type 0 where
  pub ops : List Op
  pub layout : Layout
  pub dims : List ℕ
  pub registers : ℕ
  pub slots : ℕ
  pub plain : Option (List ℕ)

-- how many outputs plain code has
abbrev pub count_plain : Option (List ℕ) → ℕ
count_plain None = 0
count_plain (Some order) = length order

-- outputs of the code
abbrev pub AreOutputs : Layout → Option (List ℕ) → Type 0
AreOutputs layout None = Unit {0}
AreOutputs layout (Some order) = AllByRecursion (λ connector. connector < layout.connectors) order

-- it is plain
abbrev pub is_plain : Option (List ℕ) → Bool
is_plain None = false
is_plain (Some order) = true

-- what its instructions may name
abbrev pub room_of : Compiled → Room
room_of code = record { given = code.layout.inputs + code.layout.variables; registers = code.registers; inputs = code.layout.inputs; connectors = code.layout.connectors }

-- each register and connector that an instruction names is there, and there is room for all effects
pub record IsSafe (code : Compiled) : Type 0 where
  pub within : AllByRecursion (IsWithin (room_of code)) code.ops
  pub slots : most_kept code.ops + count_plain code.plain ≤ code.slots
  pub inputs : code.layout.inputs ≤ code.layout.connectors
  pub registers : code.layout.variables + code.layout.connectors ≤ code.registers
  pub outputs : AreOutputs code.layout code.plain
  pub dims : length code.dims ≡ code.layout.connectors

-- compiled code is that of a tasklet
pub record IsCodeOf (tree : TaskletTree) (code : Compiled) : Type 0 where
  pub named : IsNamed tree
  pub layout : code.layout ≡ layout_of tree
  pub dims : code.dims ≡ map (λ port. port.dims) (tree.ins ++ tree.outs)
  pub plain : code.plain ≡ plain_of tree
  pub ops : code.ops ≡ tasklet_code (is_plain code.plain) tree
