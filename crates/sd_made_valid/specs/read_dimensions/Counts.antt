-- Programs whose tasklets name connectors with as many subscripts as these have dimensions.
use Rattle.std.specs.Prelude.{◌≡◌, ◌⊎◌, ℕ, pos, List, [], ◌∷◌, length, Option, Some, unwrap_or, true, false, ⊤}
use Rattle.std.specs.List.{AllByRecursion}
use Rattle.sd_lex.specs.PlainTree.{Expression, Dimension, Memlet, StatementTree, argument_array, local_array, local_stream, tasklet, consume_scope, input, output, Block, no_statement, and_statement, FunctionTree}
use Rattle.sd_lex.specs.StatementKind.{has_connector}
use Rattle.sd_context.specs.context.Declaring.{spans_of}
use Rattle.sd_program.specs.Names.{Name, Named, in_force}
use Rattle.sd_program.specs.Affines.{affine_number, affine_of}
use Rattle.sd_program.specs.Every.{EveryOf}
use Rattle.sd_made_valid.specs.read_shapes.Fits.{extents_written}
use Rattle.sd_made_valid.specs.tasks.Counted.{AreCounted}

-- ---- whole containers

-- an extent is 1, whatever numbers the variables have
abbrev pub AreOne : List Expression → Type 0
AreOne extents = AllByRecursion (λ extent. (variables : Named ℕ) → affine_of variables extent ≡ affine_number (pos 1)) extents

-- so many dimensions has a connector of a whole array: none where each extent is 1, and else one for each
abbrev pub IsWhole : List Expression → (count : ℕ) → Type 0
IsWhole extents count = (AreOne extents × (count ≡ 0)) ⊎ ((AreOne extents → ⊥) × (count ≡ length extents))

-- so many has a connector with this subset: one for each range, where one is written
abbrev pub dimensions_by : List Dimension → (whole : Option ℕ) → ℕ
dimensions_by [] whole = unwrap_or whole 0
dimensions_by (first ∷ rest) whole = spans_of (first ∷ rest)

-- where connectors of whole containers have these dimensions
module _ (wholes : Named ℕ) where
  -- ---- connectors

  abbrev pub dimensions_in : Memlet → ℕ
  dimensions_in memlet = dimensions_by memlet.dimensions (in_force wholes memlet.name)

  -- after these, the inputs that a block declares, the newest first
  abbrev pub input_with : StatementTree → Named ℕ → Named ℕ
  input_with (input line connector memlet) known = (connector, dimensions_in memlet) ∷ known
  input_with statement known = known

  abbrev pub inputs_with : Block → Named ℕ → Named ℕ
  inputs_with no_statement known = known
  inputs_with (and_statement first rest) known = inputs_with rest (input_with first known)

  -- and the outputs
  abbrev pub output_with : StatementTree → Named ℕ → Named ℕ
  output_with (output line connector memlet) known = (connector, dimensions_in memlet) ∷ known
  output_with statement known = known

  abbrev pub outputs_with : Block → Named ℕ → Named ℕ
  outputs_with no_statement known = known
  outputs_with (and_statement first rest) known = outputs_with rest (output_with first known)

  -- a container whose subset is not written is one of these
  abbrev pub IsNotedBy : List Dimension → Name → Type 0
  IsNotedBy [] name = (count : ℕ) × (in_force wholes name ≡ Some count)
  IsNotedBy (first ∷ rest) name = ⊤

  abbrev pub IsNoted : StatementTree → Type 0
  IsNoted (input line connector memlet) = IsNotedBy memlet.dimensions memlet.name
  IsNoted (output line connector memlet) = IsNotedBy memlet.dimensions memlet.name
  IsNoted statement = ⊤

  abbrev pub AreNoted : Block → Type 0
  AreNoted no_statement = ⊤
  AreNoted (and_statement first rest) = IsNoted first × AreNoted rest

  -- ---- statements

  -- an array with these extents is one of these
  abbrev pub IsArray : Name → List Expression → Type 0
  IsArray name extents = (count : ℕ) × ((in_force wholes name ≡ Some count) × IsWhole extents count)

  -- a tasklet with these inputs before those of its block
  abbrev pub IsTask : Named ℕ → Block → Type 0
  IsTask elements body = AreNoted body × AreCounted (inputs_with body elements) (outputs_with body []) body

  -- a stream has no dimensions, and neither has the element of a consume scope
  abbrev pub Counts : StatementTree → Type 0
  Counts (argument_array line name bits extents) = IsArray name (extents_written extents)
  Counts (local_array line name extents bits) = IsArray name (extents_written extents)
  Counts (local_stream line name bits size) = in_force wholes name ≡ Some 0
  Counts (tasklet line body) = IsTask [] body
  Counts (consume_scope line stream size name element worker body) =
      (has_connector body ≡ true → IsTask ((element, 0) ∷ []) body) × (has_connector body ≡ false → in_force wholes element ≡ Some 0)
  Counts statement = ⊤

-- so does each statement of a program, for some containers
abbrev pub CountsOf : FunctionTree → Type 0
CountsOf function = (wholes : Named ℕ) × EveryOf (Counts wholes) function
