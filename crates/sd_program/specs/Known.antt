-- Each form stands where it may, and each container that is named is in force there and is what its use asks for.
use Rattle.std.specs.Prelude.{◌≡◌, ◌⊎◌, ℕ, List, [], ◌∷◌, length, Some, ⊤}
use Rattle.std.specs.List.{AllByRecursion}
use Rattle.sd_lex.specs.PlainTree.{Expression, number, named, element_at, one, two, choice, Dimension, StatementTree, argument_array, local_array, local_stream, assign, copy, reduce, map_scope, tasklet, consume_scope, call, for_loop, while_loop, branch, input, output, set, set_at, tasklet_branch}
use Rattle.sd_program.specs.Names.{Name, Named, in_force}
use Rattle.sd_program.specs.Place.{Holder, of_dimensions, of_values, Around, program, scope, task, signature, Place, length_of}

-- ---- where a form may stand

abbrev pub StandsInSignature : StatementTree → Type 0
StandsInSignature (argument_array line name bits extents) = ⊤
StandsInSignature statement = ⊥

abbrev pub StandsInScope : StatementTree → Type 0
StandsInScope (local_array line name extents bits) = ⊤
StandsInScope (local_stream line name bits size) = ⊤
StandsInScope (assign line name at add value) = ⊤
StandsInScope (copy line to to_dimensions from from_dimensions) = ⊤
StandsInScope (reduce line lambda from to axis identity) = ⊤
StandsInScope (map_scope line parameters ranges body) = ⊤
StandsInScope (tasklet line body) = ⊤
StandsInScope (consume_scope line from size name element worker body) = ⊤
StandsInScope (call line name arguments) = ⊤
StandsInScope statement = ⊥

-- loops and branches stand in programs and in their own blocks alone
abbrev pub StandsInProgram : StatementTree → Type 0
StandsInProgram (for_loop line name begin end step body) = ⊤
StandsInProgram (while_loop line when body) = ⊤
StandsInProgram (branch line when body other) = ⊤
StandsInProgram statement = StandsInScope statement

abbrev pub StandsInTasklet : StatementTree → Type 0
StandsInTasklet (input line connector memlet) = ⊤
StandsInTasklet (output line connector memlet) = ⊤
StandsInTasklet (set line name value) = ⊤
StandsInTasklet (set_at line name at value) = ⊤
StandsInTasklet (tasklet_branch line when body other) = ⊤
StandsInTasklet statement = ⊥

abbrev pub StandsIn : Around → StatementTree → Type 0
StandsIn program statement = StandsInProgram statement
StandsIn scope statement = StandsInScope statement
StandsIn task statement = StandsInTasklet statement
StandsIn signature statement = StandsInSignature statement

abbrev pub IsPlaced : Place → StatementTree → Type 0
IsPlaced place statement = StandsIn place.around statement

-- ---- containers in force

module _ (containers : Named Holder) where
  -- an array of so many dimensions
  abbrev pub IsArrayOf : Name → ℕ → Type 0
  IsArrayOf name count = in_force containers name ≡ Some (of_dimensions count)

  abbrev pub IsArray : Name → Type 0
  IsArray name = (count : ℕ) × IsArrayOf name count

  abbrev pub IsStream : Name → Type 0
  IsStream name = in_force containers name ≡ Some of_values

  -- an array with its subset; where no subset is written it is the whole
  abbrev pub IsPart : Name → List Dimension → Type 0
  IsPart name [] = IsArray name
  IsPart name (first ∷ rest) = IsArrayOf name (length (first ∷ rest))

  -- what an output writes: a part of an array, or a stream
  abbrev pub IsTarget : Name → List Dimension → Type 0
  IsTarget name [] = IsArray name ⊎ IsStream name
  IsTarget name (first ∷ rest) = IsArrayOf name (length (first ∷ rest))

  -- each element in an expression outside of tasklets is of an array of as many dimensions as it has subscripts
  abbrev pub KnowsElements : Expression → Type 0
  KnowsElements (number value) = ⊤
  KnowsElements (named name) = ⊤
  KnowsElements (element_at name at) = IsArrayOf name (length_of at)
  KnowsElements (one sign of) = KnowsElements of
  KnowsElements (two sign left right) = KnowsElements left × KnowsElements right
  KnowsElements (choice value when other) = KnowsElements value × (KnowsElements when × KnowsElements other)

  abbrev pub KnowsContainers : StatementTree → Type 0
  KnowsContainers (assign line name at add value) = IsArrayOf name (length_of at) × KnowsElements value
  KnowsContainers (copy line to to_dimensions from from_dimensions) = IsPart to to_dimensions × IsPart from from_dimensions
  KnowsContainers (reduce line lambda from to axis identity) = IsArray from × IsArray to
  KnowsContainers (consume_scope line from size name element worker body) = IsStream from
  KnowsContainers (call line name arguments) = AllByRecursion (λ argument. IsPart argument.0 argument.1) arguments
  KnowsContainers (while_loop line when body) = KnowsElements when
  KnowsContainers (branch line when body other) = KnowsElements when
  KnowsContainers (input line connector memlet) = IsPart memlet.name memlet.dimensions
  KnowsContainers (output line connector memlet) = IsTarget memlet.name memlet.dimensions
  KnowsContainers statement = ⊤

abbrev pub IsKnown : Place → StatementTree → Type 0
IsKnown place statement = KnowsContainers place.containers statement
