-- What a frame holds.
use Rattle.std.specs.Prelude.{◌≡◌, ℕ, ◌+◌, ◌<◌, ◌≤◌, ℤ, pos, List, [], ◌∷◌, length, map, take, drop, Bool, ◌==◌, nat_lt, nat_le, ◌&&◌, ◌||◌, if◌then◌else◌, slice_index_or, slice_set, replicate}
use Rattle.sd_range.specs.Points.{product}
use Rattle.sd_graph.specs.TaskletMeaning as meaning
use Rattle.sd_tasklet.specs.tasklet.Given.{IsWhole}
use Rattle.sd_tasklet.specs.tasklet.Kept.{told}
use Rattle.sd_tasklet.specs.declared.tasklet.effect.Effect.{Effect}
use Rattle.sd_tcode.specs.tcode.Compiled.{Compiled}
use Rattle.sd_tcode.specs.op.Machine.{Held, held}
use Rattle.sd_tcode.specs.declared.tcode.frame.Frame.{Frame}

-- the elements of each input connector; a scalar stands in its register
abbrev pub elements_in : List Held → (scalars : List ℤ) → List (List ℤ)
elements_in [] scalars = []
elements_in (array ∷ arrays) [] = []
elements_in (array ∷ arrays) (value ∷ scalars) = (if length array.extents == 0 then value ∷ [] else array.cells) ∷ elements_in arrays scalars

-- what the registers of the input connectors and the variables, and the arrays, give to the code
abbrev pub given_by : (inputs : ℕ) → (fixed : List ℤ) → List Held → meaning.Inputs
given_by inputs fixed arrays = record {
  values = elements_in arrays (take inputs fixed);
  extents = map (λ array. array.extents) arrays;
  variables = drop inputs fixed;
}

abbrev pub given : Frame → meaning.Inputs
given frame = given_by frame.inputs (take (frame.inputs + frame.variables) frame.registers.items) (map held frame.arrays.items)

-- the elements of each input: those of a scalar as they are given, and any other ones where they stand
abbrev pub values_with : List Held → (values : List (List ℤ)) → List (List ℤ)
values_with connectors [] = []
values_with [] (here ∷ values) = []
values_with (connector ∷ connectors) (here ∷ values) = (if length connector.extents == 0 then here else connector.cells) ∷ values_with connectors values

-- what is given, with connectors that stand elsewhere
abbrev pub given_with : List Held → meaning.Inputs → meaning.Inputs
given_with connectors inputs = record {
  values = values_with connectors inputs.values;
  extents = map (λ connector. connector.extents) connectors;
  variables = inputs.variables;
}

-- connectors have the dimensions that this code has
abbrev pub HaveDims : Compiled → List Held → Type 0
HaveDims code connectors = map (λ connector. length connector.extents) connectors ≡ code.dims

-- the effects of the last run
abbrev pub effects_of : Frame → List meaning.Effect
effects_of frame = map (told (given frame)) frame.log.0

-- the output that plain code left
abbrev pub output_of : Frame → (connector : ℕ) → ℤ
output_of frame connector = slice_index_or frame.registers.items (frame.variables + connector) (pos 0)

-- a frame has room for this code
pub record IsFrameOf (code : Compiled) (frame : Frame) : Type 0 where
  pub registers : length frame.registers.items ≡ code.registers
  pub arrays : map (λ array. length array.extents.items) frame.arrays.items ≡ code.dims
  pub slots : frame.log.1 ≡ code.slots
  pub inputs : frame.inputs ≡ code.layout.inputs
  pub variables : frame.variables ≡ code.layout.variables

-- how many elements an input connector has room for; another connector has none
abbrev pub room_for : meaning.Inputs → (connector : ℕ) → ℕ
room_for inputs connector = length (slice_index_or inputs.values connector [])

-- a connector has at most four dimensions and, as an input, room for as many elements as its extents multiply to
pub record IsWholeAt (inputs : meaning.Inputs) (connector : ℕ) : Type 0 where
  pub dimensions : length (meaning.extents_of_connector inputs connector) ≤ 4
  pub elements : connector < length inputs.values → product (meaning.extents_of_connector inputs connector) ≤ room_for inputs connector

-- a frame that may be run by this code: it has room for it, and what it is given is whole
pub record IsReady (code : Compiled) (frame : Frame) : Type 0 where
  pub fits : IsFrameOf code frame
  pub whole : IsWhole (given frame)

-- the effect of an output that plain code left, as it is kept
abbrev pub kept_output : (variables : ℕ) → (registers : List ℤ) → (connector : ℕ) → Effect
kept_output variables registers connector = record { connector = connector; at = 0 ∷ 0 ∷ 0 ∷ 0 ∷ []; value = slice_index_or registers (variables + connector) (pos 0) }

-- one element of an input connector
abbrev pub with_element : meaning.Inputs → (connector at : ℕ) → (value : ℤ) → meaning.Inputs
with_element inputs connector at value = record inputs { values = slice_set inputs.values connector (slice_set (slice_index_or inputs.values connector []) at value) }

-- the extents of a connector
abbrev pub with_extents : meaning.Inputs → (connector : ℕ) → (extents : List ℕ) → meaning.Inputs
with_extents inputs connector extents = record inputs { extents = slice_set inputs.extents connector extents }

-- a connector may have these extents: as many as it has dimensions and, as an input, with room for as many elements as they multiply to
abbrev pub may_have : meaning.Inputs → (connector : ℕ) → (extents : List ℕ) → Bool
may_have inputs connector extents =
    nat_lt connector (length inputs.extents)
    && ((length extents == length (meaning.extents_of_connector inputs connector))
    && (nat_le (length inputs.values) connector || nat_le (product extents) (room_for inputs connector)))

-- one variable
abbrev pub with_variable : meaning.Inputs → (variable : ℕ) → (value : ℤ) → meaning.Inputs
with_variable inputs variable value = record inputs { variables = slice_set inputs.variables variable value }

-- zeros for the elements of the input connectors: one for a scalar, else as many as are wanted
abbrev pub zero_elements : (dims widest : List ℕ) → List (List ℤ)
zero_elements [] widest = []
zero_elements (count ∷ dims) [] = []
zero_elements (count ∷ dims) (most ∷ widest) = (if count == 0 then pos 0 ∷ [] else replicate most (pos 0)) ∷ zero_elements dims widest

-- zeros for the elements of the connectors that have dimensions
abbrev pub zero_cells : (dims widest : List ℕ) → List (List ℤ)
zero_cells [] widest = []
zero_cells (count ∷ dims) [] = [] ∷ zero_cells dims []
zero_cells (count ∷ dims) (most ∷ widest) = (if count == 0 then [] else replicate most (pos 0)) ∷ zero_cells dims widest

-- nothing but zeros
abbrev pub zeros_for : Compiled → (widest : List ℕ) → meaning.Inputs
zeros_for code widest = record {
  values = zero_elements code.dims widest;
  extents = map (λ count. replicate count 0) code.dims;
  variables = replicate code.layout.variables (pos 0);
}
