-- The limits that need no sizes.
use Rattle.std.specs.Prelude.{ℕ, ◌+◌, ◌<◌, ◌≤◌, ◌^◌, ℤ, pos, length, Option, Some, None, Bool, true, if◌then◌else◌, ⊤, ◌≡◌}
use Rattle.std.specs.List.{AllByRecursion}
use Rattle.sd_lex.specs.PlainTree.{Expression, number, named, element_at, one, two, choice, Dimension, index, span, StatementTree, argument_array, local_array, assign, copy, map_scope, call, for_loop, while_loop, branch, tasklet, consume_scope, input, output, tasklet_branch, Block, no_statement, and_statement, FunctionTree}
use Rattle.sd_lex.specs.StatementKind.{is_connector, has_connector}
use Rattle.sd_program.specs.Place.{Place, Around, program, length_of}
use Rattle.sd_program.specs.Declared.{containers_in_all, states_in_all}

-- ---- of one statement

-- a step is at least 1 and below 2^40
abbrev pub IsStep : Option ℤ → Type 0
IsStep None = ⊤
IsStep (Some step) = (n : ℕ) × ((step ≡ pos n) × ((1 ≤ n) × (n < 2 ^ 40)))

abbrev pub HasStep : Dimension → Type 0
HasStep (index at) = ⊤
HasStep (span begin end step) = IsStep step

abbrev pub HasSteps : StatementTree → Type 0
HasSteps (copy line to to_dimensions from from_dimensions) = AllByRecursion HasStep to_dimensions × AllByRecursion HasStep from_dimensions
HasSteps (map_scope line parameters ranges body) = AllByRecursion HasStep ranges
HasSteps (call line name arguments) = AllByRecursion (λ argument. AllByRecursion HasStep argument.1) arguments
HasSteps (for_loop line name begin end step body) = IsStep step
HasSteps (input line connector memlet) = AllByRecursion HasStep memlet.dimensions
HasSteps (output line connector memlet) = AllByRecursion HasStep memlet.dimensions
HasSteps statement = ⊤

-- at most four dimensions of a container, and at most eight parameters of a map, which has one range for each
abbrev pub HasFewDimensions : StatementTree → Type 0
HasFewDimensions (argument_array line name bits extents) = length_of extents ≤ 4
HasFewDimensions (local_array line name extents bits) = length_of extents ≤ 4
HasFewDimensions statement = ⊤

abbrev pub HasFewParameters : StatementTree → Type 0
HasFewParameters (map_scope line parameters ranges body) = (length parameters ≡ length ranges) × (length parameters ≤ 8)
HasFewParameters statement = ⊤

-- ---- of one element statement

-- how many elements an expression reads
abbrev pub elements_in : Expression → ℕ
elements_in (number value) = 0
elements_in (named name) = 0
elements_in (element_at name at) = 1
elements_in (one sign of) = elements_in of
elements_in (two sign left right) = elements_in left + elements_in right
elements_in (choice value when other) = elements_in value + elements_in when + elements_in other

-- `+=` in a program reads its target; in a scope it does not
abbrev pub own_element : Around → (add : Bool) → ℕ
own_element program true = 1
own_element around add = 0

-- an element statement and a condition have at most 64 connectors: each element that is read, and the output
abbrev pub HasFewReads : Place → StatementTree → Type 0
HasFewReads place (assign line name at add value) = elements_in value + (own_element place.around add + 1) ≤ 64
HasFewReads place (while_loop line when body) = elements_in when + 1 ≤ 64
HasFewReads place (branch line when body other) = elements_in when + 1 ≤ 64
HasFewReads place statement = ⊤

-- ---- of one tasklet

-- how many connectors a block declares
abbrev pub connectors_in : Block → ℕ
connectors_in no_statement = 0
connectors_in (and_statement first rest) = (if is_connector first then 1 else 0) + connectors_in rest

-- the line of an `else`; where its block is one `if`, it may be an `elif`
abbrev pub else_line : StatementTree → (rest : Block) → ℕ
else_line (tasklet_branch line when body other) no_statement = 0
else_line statement rest = 1

abbrev mutual
  -- how many lines a statement of a tasklet has at least
  pub lines_in : StatementTree → ℕ
  lines_in (tasklet_branch line when body other) = 1 + (lines_in_all body + lines_in_other other)
  lines_in statement = 1

  pub lines_in_all : Block → ℕ
  lines_in_all no_statement = 0
  lines_in_all (and_statement first rest) = lines_in first + lines_in_all rest

  -- those of an `else`, or of an `elif`
  pub lines_in_other : Block → ℕ
  lines_in_other no_statement = 0
  lines_in_other (and_statement first rest) = else_line first rest + (lines_in first + lines_in_all rest)

-- at most 64 connectors, the element of a consume scope counted, and at most 1,024 lines
abbrev pub IsSmallTask : (elements : ℕ) → Block → Type 0
IsSmallTask elements body = (elements + connectors_in body ≤ 64) × (lines_in_all body ≤ 1024)

abbrev pub HasSmallTask : StatementTree → Type 0
HasSmallTask (tasklet line body) = IsSmallTask 0 body
HasSmallTask (consume_scope line from size name element worker body) = has_connector body ≡ true → IsSmallTask 1 body
HasSmallTask statement = ⊤

-- ---- of one program

-- at most seven scopes and loops about a statement
abbrev pub HasFewAbout : Place → StatementTree → Type 0
HasFewAbout place statement = place.depth ≤ 7

abbrev pub containers_of : FunctionTree → ℕ
containers_of function = containers_in_all function.arguments + containers_in_all function.body

-- a program begins with an empty state
abbrev pub states_of : FunctionTree → ℕ
states_of function = 1 + states_in_all function.body
