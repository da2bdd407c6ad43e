-- Which containers a line writes, for what a call of the program does.
use Rattle.std.specs.Prelude.{List, [], ◌∷◌, Option, Some, None, if◌then◌else◌}
use Rattle.std.specs.List.{fold}
use Rattle.sd_lex.specs.PlainTree.{Dimension, StatementTree, assign, copy, call}
use Rattle.sd_line.specs.line.Head.{HeadTree, program_head, statement_head, reduce_head, output_head}
use Rattle.sd_names.specs.declared.meaning.Parameter.{Parameter}
use Rattle.sd_names.specs.declared.meaning.Signature.{Signature}
use Rattle.sd_names.specs.Names.{Name, Names, meaning_of, signature_by, noted}

-- the arguments that stand for parameters which are written
abbrev pub written_arguments : List (Name × List Dimension) → List Parameter → List Name
written_arguments [] parameters = []
written_arguments (argument ∷ arguments) [] = []
written_arguments (argument ∷ arguments) (parameter ∷ parameters) =
    if parameter.is_written then argument.0 ∷ written_arguments arguments parameters else written_arguments arguments parameters

abbrev pub written_by_call : List (Name × List Dimension) → Option Signature → List Name
written_by_call arguments None = []
written_by_call arguments (Some signature) = written_arguments arguments signature.parameters

abbrev pub statement_writes : Names → StatementTree → List Name
statement_writes names (assign line name at add e) = name ∷ []
statement_writes names (copy line to to_dimensions from from_dimensions) = to ∷ []
statement_writes names (call line name arguments) = written_by_call arguments (signature_by (meaning_of names name))
statement_writes names other = []

abbrev pub writes : Names → HeadTree → List Name
writes names (statement_head s) = statement_writes names s
writes names (reduce_head lambda from to axis identity) = to ∷ []
writes names (output_head connector memlet) = memlet.name ∷ []
writes names other = []

abbrev pub noted_all : List Name → List Name → List Name
noted_all = fold noted

-- what the program has written behind a line; a program that begins has written nothing
abbrev pub written_behind : Names → List Name → HeadTree → List Name
written_behind names written (program_head name arguments) = []
written_behind names written head = noted_all written (writes names head)
