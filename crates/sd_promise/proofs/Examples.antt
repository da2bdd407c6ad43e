-- What a small source looks for in an arrays file, begins with and prints, computed.
use Rattle.std.proofs.Common.{◌≡◌, ℕ, ◌^◌, pos, List, [], ◌∷◌, ◌++◌, Some, None, refl}
use Rattle.sd_lex.specs.PlainTree.{number, named, Expression, Expressions, no_expression, and_expression, span, argument_array, local_array, local_stream, map_scope, no_statement, and_statement, FunctionTree, ProgramTree}
use Rattle.sd_num.specs.declared.width.Width.TheVariants.{W64}
use Rattle.sd_work.specs.Memory.{Memory, array, stream, absent}
use Rattle.sd_work.specs.Move.{Fault}
use Rattle.sd_work.specs.Step.{Done, Faulted, Spent}
use Rattle.sd_graph.specs.declared.place.Place.{Place}
use Rattle.sd_program.specs.Names.{Name}
use Rattle.sd_json.specs.AnswerText.{line_of}
use Rattle.sd_json.specs.Given.{Contents}
use Rattle.sd_says.specs.Held.{array_of}
use Rattle.sd_says.specs.Declared.{of_caller}
use Rattle.sd_report.specs.write.RunText.{fault_line, spent_line}
use Rattle.sd_promise.specs.Source.{names_sought, held_first, memory_given, text_said, status_said}

abbrev N : Name
N = 78 ∷ []

abbrev X : Name
X = 88 ∷ []

abbrev Y : Name
Y = 89 ∷ []

abbrev L : Name
L = 76 ∷ []

abbrev one_of : Expression → Expressions
one_of extent = and_expression extent no_expression

-- above it stands another program, with another argument
abbrev above : FunctionTree
above = record { name = 102 ∷ []; line = 2; arguments = and_statement (argument_array 2 L 64 no_expression) no_statement; body = no_statement }

-- Y has no extents; a local array and a stream belong to the run, the array in the map to its points
abbrev last : FunctionTree
last = record {
  name = 103 ∷ [];
  line = 4;
  arguments = and_statement (argument_array 4 X 64 (one_of (named N))) (and_statement (argument_array 4 Y 64 no_expression) no_statement);
  body = and_statement (local_array 5 L (and_expression (number (pos 2)) (one_of (named N))) 64)
      (and_statement (local_stream 6 (83 ∷ []) 64 None)
      (and_statement (map_scope 7 ((105 ∷ []) ∷ []) (span None (Some (named N)) None ∷ []) (and_statement (local_array 8 (80 ∷ []) (one_of (named N)) 64) no_statement)) no_statement));
}

abbrev source : ProgramTree
source = record { symbols = N ∷ []; functions = above ∷ last ∷ [] }

abbrev contents : Contents
contents = record {
  sizes = (N, pos 3) ∷ [];
  arrays = record { shape = 3 ∷ []; elements = pos 4 ∷ pos 5 ∷ pos 6 ∷ [] } ∷ record { shape = 1 ∷ []; elements = pos 7 ∷ [] } ∷ [];
}

-- the arguments of the last program, in their order
names_are : names_sought source.symbols (last ∷ above ∷ []) ≡ record { symbols = N ∷ []; arguments = X ∷ Y ∷ [] }
names_are = refl

-- arguments as given, zeros for what belongs to the run, nothing for what belongs to points
memory_is : memory_given source contents ≡ array W64 (pos 4 ∷ pos 5 ∷ pos 6 ∷ []) ∷ array W64 (pos 7 ∷ []) ∷ array W64 (pos 0 ∷ pos 0 ∷ pos 0 ∷ pos 0 ∷ pos 0 ∷ pos 0 ∷ []) ∷ stream W64 [] ∷ absent ∷ []
memory_is = refl

-- what is given to an argument stays as it is, even where it is no element of 64 bits
given_stays : held_first of_caller W64 (array_of (1 ∷ [])) (pos (2 ^ 64) ∷ []) ≡ array W64 (pos (2 ^ 64) ∷ [])
given_stays = refl

abbrev after : Memory
after = array W64 (pos 1 ∷ pos 2 ∷ pos 3 ∷ []) ∷ array W64 (pos 9 ∷ []) ∷ array W64 (pos 8 ∷ []) ∷ []

-- a line for each argument, with its extents
text_is : text_said source contents.sizes 20 (Done (record { memory = after; turns = 5 })) ≡ line_of X (3 ∷ []) (pos 1 ∷ pos 2 ∷ pos 3 ∷ []) ++ (line_of Y (1 ∷ []) (pos 9 ∷ []) ++ [])
text_is = refl

-- the turns that were allowed are told where they are spent
spent_is : text_said source contents.sizes 20 Spent ≡ spent_line 20
spent_is = refl

fault_is : (fault : Fault Place) → text_said source contents.sizes 20 (Faulted fault) ≡ fault_line fault
fault_is fault = refl

abbrev statuses : List ℕ
statuses = status_said (Done (record { memory = []; turns = 0 })) ∷ status_said Spent ∷ []

statuses_are : statuses ≡ 0 ∷ 8 ∷ []
statuses_are = refl
