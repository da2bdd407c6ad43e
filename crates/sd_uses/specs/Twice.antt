-- Error 7: a name is declared that is reserved, in force, or the name of a container that the program has declared.
use Rattle.std.specs.Prelude.{List, [], ◌∷◌, Bool, true, false, not, ◌||◌, Option, Some, None}
use Rattle.sd_lex.specs.PlainTree.{StatementTree, argument_array, local_array, local_stream, map_scope, for_loop, set}
use Rattle.sd_phrase.specs.Memlet.{LambdaTree}
use Rattle.sd_line.specs.line.Head.{HeadTree, symbol_line, program_head, statement_head, input_head, output_head, consume_head}
use Rattle.sd_names.specs.declared.meaning.Meaning.{Meaning}
use Rattle.sd_names.specs.declared.meaning.Meaning.TheVariants.{Local}
use Rattle.sd_names.specs.Names.{Name, Names, meaning_of, is_free, is_among, noted, reserved, is_input, is_output}
use Rattle.sd_names.specs.Expressions.{optional}
use Rattle.sd_uses.specs.Uses.{lambda_of}

abbrev pub is_local : Option Meaning → Bool
is_local (Some Local) = true
is_local other = false

-- an assignment in a tasklet declares a local, but where the name is one already or an output
abbrev pub declares_local : Option Meaning → Bool
declares_local meaning = not (is_local meaning || is_input meaning || is_output meaning)

abbrev pub if_new : Bool → Name → List Name
if_new true name = name ∷ []
if_new false name = []

abbrev pub statement_declares : Names → StatementTree → List Name
statement_declares names (argument_array line name bits extents) = name ∷ []
statement_declares names (local_array line name extents bits) = name ∷ []
statement_declares names (local_stream line name bits size) = name ∷ []
statement_declares names (map_scope line parameters ranges body) = parameters
statement_declares names (for_loop line name begin end step body) = name ∷ []
statement_declares names (set line name e) = if_new (declares_local (meaning_of names name)) name
statement_declares names other = []

-- the names that a line declares, in their order
abbrev pub declares : Names → HeadTree → List Name
declares names (symbol_line name quoted) = name ∷ []
declares names (program_head name arguments) = name ∷ []
declares names (statement_head s) = statement_declares names s
declares names (input_head connector memlet) = connector ∷ []
declares names (output_head connector memlet) = connector ∷ []
declares names (consume_head name element worker) = element ∷ optional worker
declares names other = []

-- one of the names is not free, or stands earlier in the list too
abbrev pub are_not_new : Names → (earlier : List Name) → List Name → Bool
are_not_new names earlier [] = false
are_not_new names earlier (name ∷ rest) = not (is_free names name) || is_among earlier name || are_not_new names (noted earlier name) rest

abbrev pub lambda_is_reserved : LambdaTree → Bool
lambda_is_reserved lambda = is_among reserved lambda.first || is_among reserved lambda.second

abbrev pub has_reserved : Option LambdaTree → Bool
has_reserved None = false
has_reserved (Some lambda) = lambda_is_reserved lambda

-- the name of a consume's `def` is free, and in force nowhere
abbrev pub names_consume : Names → HeadTree → Bool
names_consume names (consume_head name element worker) = not (is_free names name)
names_consume names other = false

abbrev pub declares_twice : Names → HeadTree → Bool
declares_twice names head = are_not_new names [] (declares names head) || has_reserved (lambda_of head) || names_consume names head
