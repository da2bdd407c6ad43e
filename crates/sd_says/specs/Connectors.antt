-- The connectors of a tasklet.
use Rattle.std.specs.Prelude.{ℕ, ℤ, pos, List, [], ◌∷◌, take, drop, Option, option_map, Ok, slice_index_or}
use Rattle.std.specs.List.{flat_map}
use Rattle.sd_lex.specs.PlainTree.{Memlet, StatementTree, input, output, Block, no_statement, and_statement}
use Rattle.sd_range.specs.Points.{product}
use Rattle.sd_work.specs.Memory.{Reference}
use Rattle.sd_work.specs.Leaf.{Pending}
use Rattle.sd_graph.specs.RowOrder.{row_number}
use Rattle.sd_graph.specs.TaskletMeaning.{Meaning, and_then, checked}
use Rattle.sd_program.specs.Names.{Name}
use Rattle.sd_says.specs.Held.{Held, pending_in, element_in}
use Rattle.sd_says.specs.Setting.{Setting}
use Rattle.sd_says.specs.Operators.{resolution_of}
use Rattle.sd_says.specs.Parts.{Part, memlet_part, part_extents, part_elements, index_at}

-- an input before it is read: its extents, and its elements in row order
pub record Inlet : Type 0 where
  pub extents : List ℕ
  pub elements : List (Option Reference)

-- an input that was read: its extents, and the values of its elements in row order
pub record Input : Type 0 where
  pub extents : List ℕ
  pub values : List ℤ

-- an output: its extents, and what is to be done for a value that is given to a place in it
pub record Outlet : Type 0 where
  pub extents : List ℕ
  pub give : (place : List ℤ) → (value : ℤ) → Pending

-- ---- the connectors of a block, in the order of the text

abbrev pub inlet_of : Part → Inlet
inlet_of part = record { extents = part_extents part; elements = part_elements part }

-- the connector of a line that declares an input, before these
abbrev pub inlet_before : Setting → StatementTree → List (Name × Inlet) → List (Name × Inlet)
inlet_before setting (input line connector memlet) rest = (connector, inlet_of (memlet_part setting memlet)) ∷ rest
inlet_before setting statement rest = rest

abbrev pub inlets_of : Setting → Block → List (Name × Inlet)
inlets_of setting no_statement = []
inlets_of setting (and_statement first rest) = inlet_before setting first (inlets_of setting rest)

-- a value for a place in a part
abbrev pub outlet_of : Setting → Memlet → Outlet
outlet_of setting memlet =
    let part : Part = memlet_part setting memlet in
    record {
      extents = part_extents part;
      give = λ place value. pending_in part.held.shape part.held.reach (index_at part.axes place) (option_map resolution_of memlet.lambda) value;
    }

-- the same of an output
abbrev pub outlet_before : Setting → StatementTree → List (Name × Outlet) → List (Name × Outlet)
outlet_before setting (output line connector memlet) rest = (connector, outlet_of setting memlet) ∷ rest
outlet_before setting statement rest = rest

abbrev pub outlets_of : Setting → Block → List (Name × Outlet)
outlets_of setting no_statement = []
outlets_of setting (and_statement first rest) = outlet_before setting first (outlets_of setting rest)

-- the one element of a container with one extent, as a scalar
abbrev pub element_inlet : Held → Inlet
element_inlet held = record { extents = []; elements = element_in held (pos 0 ∷ []) ∷ [] }

-- ---- what is read

-- the elements of all inputs, one connector after another
abbrev pub elements_read : List (Name × Inlet) → List (Option Reference)
elements_read inlets = flat_map (λ inlet. inlet.1.elements) inlets

-- the inputs with the values that were read
abbrev pub inputs_with : List (Name × Inlet) → (read : List ℤ) → List (Name × Input)
inputs_with [] read = []
inputs_with (inlet ∷ inlets) read =
    let count : ℕ = product inlet.1.extents in
    (inlet.0, record { extents = inlet.1.extents; values = take count read }) ∷ inputs_with inlets (drop count read)

-- the value at a place of an input, where that is inside
abbrev pub value_at : Input → (place : List ℤ) → Meaning ℤ
value_at from place = and_then (checked from.extents place) (λ place. Ok (slice_index_or from.values (row_number from.extents place) (pos 0)))
