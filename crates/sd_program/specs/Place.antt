-- What is in force where a statement stands.
use Rattle.std.specs.Prelude.{ℕ, ◌+◌, List, [], ◌∷◌, reverse, Bool, true, false, ⊤}
use Rattle.sd_lex.specs.PlainTree.{StatementTree, argument_array, local_array, local_stream, map_scope, tasklet, consume_scope, for_loop, while_loop, branch, tasklet_branch, Expressions, no_expression, and_expression, Block, no_statement, and_statement, FunctionTree, ProgramTree}
use Rattle.sd_lex.specs.StatementKind.{has_connector}
use Rattle.sd_program.specs.Names.{Name, Named}

-- what a container is: an array of so many dimensions, or a stream
pub data Holder : Type 0 where
  of_dimensions : (count : ℕ) → Holder
  of_values : Holder

-- the kinds of blocks: of a program, its loops and branches; of a scope; of a tasklet; and the list of a program's arguments
pub data Around : Type 0 where
  program : Around
  scope : Around
  task : Around
  signature : Around

-- the programs above, the latest first, the kind of block, how many scopes and loops are about the statement, and the containers in force
pub record Place : Type 0 where
  pub programs : List FunctionTree
  pub around : Around
  pub depth : ℕ
  pub containers : Named Holder

abbrev pub length_of : Expressions → ℕ
length_of no_expression = 0
length_of (and_expression first rest) = length_of rest + 1

-- the dimensions of an argument: one where no extent is written
abbrev pub dimensions_of : Expressions → ℕ
dimensions_of no_expression = 1
dimensions_of (and_expression first rest) = length_of rest + 1

-- behind a statement its containers are in force, and those that the blocks of loops and branches declare; those of scopes are not
abbrev mutual
  pub behind : StatementTree → Named Holder → Named Holder
  behind (argument_array line name bits extents) containers = (name, of_dimensions (dimensions_of extents)) ∷ containers
  behind (local_array line name extents bits) containers = (name, of_dimensions (length_of extents)) ∷ containers
  behind (local_stream line name bits size) containers = (name, of_values) ∷ containers
  behind (for_loop line name begin end step body) containers = behind_all body containers
  behind (while_loop line when body) containers = behind_all body containers
  behind (branch line when body other) containers = behind_all other (behind_all body containers)
  behind (tasklet_branch line when body other) containers = behind_all other (behind_all body containers)
  behind statement containers = containers

  pub behind_all : Block → Named Holder → Named Holder
  behind_all no_statement containers = containers
  behind_all (and_statement first rest) containers = behind_all rest (behind first containers)

-- the place behind a statement, and behind a block
abbrev pub past : StatementTree → Place → Place
past statement place = record { programs = place.programs; around = place.around; depth = place.depth; containers = behind statement place.containers }

abbrev pub past_all : Block → Place → Place
past_all block place = record { programs = place.programs; around = place.around; depth = place.depth; containers = behind_all block place.containers }

-- the place in the block of a map, a tasklet or a loop
abbrev pub in_map : Place → Place
in_map place = record { programs = place.programs; around = scope; depth = place.depth + 1; containers = place.containers }

abbrev pub in_tasklet : Place → Place
in_tasklet place = record { programs = place.programs; around = task; depth = place.depth; containers = place.containers }

abbrev pub in_loop : Place → Place
in_loop place = record { programs = place.programs; around = place.around; depth = place.depth + 1; containers = place.containers }

-- the place in the block of a consume scope, which is one tasklet where a connector is declared in it; in a body its element is an array with one element
abbrev pub in_consume : (is_task : Bool) → (element : Name) → Place → Place
in_consume true element place = record { programs = place.programs; around = task; depth = place.depth + 1; containers = place.containers }
in_consume false element place = record { programs = place.programs; around = scope; depth = place.depth + 1; containers = (element, of_dimensions 1) ∷ place.containers }

-- the places of the first argument and of the first statement of a function, where these programs are above it
abbrev pub in_signature : List FunctionTree → Place
in_signature programs = record { programs = programs; around = signature; depth = 0; containers = [] }

abbrev pub in_function : List FunctionTree → (arguments : Block) → Place
in_function programs arguments = record { programs = programs; around = program; depth = 0; containers = behind_all arguments [] }

module _ (Holds : Place → StatementTree → Type 0) where
  abbrev mutual
    -- of a statement in its place, and of those in the blocks below it in theirs
    pub EveryAt : Place → StatementTree → Type 0
    EveryAt place (map_scope line parameters ranges body) = Holds place (map_scope line parameters ranges body) × EveryFrom (in_map place) body
    EveryAt place (tasklet line body) = Holds place (tasklet line body) × EveryFrom (in_tasklet place) body
    EveryAt place (consume_scope line from size name element worker body) =
        Holds place (consume_scope line from size name element worker body) × EveryFrom (in_consume (has_connector body) element place) body
    EveryAt place (for_loop line name begin end step body) = Holds place (for_loop line name begin end step body) × EveryFrom (in_loop place) body
    EveryAt place (while_loop line when body) = Holds place (while_loop line when body) × EveryFrom (in_loop place) body
    EveryAt place (branch line when body other) = Holds place (branch line when body other) × (EveryFrom place body × EveryFrom (past_all body place) other)
    EveryAt place (tasklet_branch line when body other) =
        Holds place (tasklet_branch line when body other) × (EveryFrom place body × EveryFrom (past_all body place) other)
    EveryAt place statement = Holds place statement

    -- of the statements of a block that begins at this place
    pub EveryFrom : Place → Block → Type 0
    EveryFrom place no_statement = ⊤
    EveryFrom place (and_statement first rest) = EveryAt place first × EveryFrom (past first place) rest

  -- of the arguments and statements of a function, and of those of the functions above it
  abbrev pub EveryOfFunction : (above : List FunctionTree) → FunctionTree → Type 0
  EveryOfFunction above function = EveryFrom (in_signature above) function.arguments × EveryFrom (in_function above function.arguments) function.body

  abbrev pub EveryFunction : List FunctionTree → Type 0
  EveryFunction [] = ⊤
  EveryFunction (function ∷ above) = EveryOfFunction above function × EveryFunction above

  -- of all functions of a source, each with those above it
  abbrev pub EveryPlace : ProgramTree → Type 0
  EveryPlace source = EveryFunction (reverse source.functions)
