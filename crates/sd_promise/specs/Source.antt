-- What a call makes of a source, by the source alone: what it looks for in an arrays file, the memory of its run, and the text of what comes of it.
use Rattle.std.specs.Prelude.{ℕ, suc, ◌+◌, ℤ, List, [], ◌∷◌, ◌++◌, map, reverse, Result, slice_index_or}
use Rattle.sd_lex.specs.PlainTree.{argument_array, Block, no_statement, and_statement, FunctionTree, ProgramTree}
use Rattle.sd_num.specs.declared.width.Width.{Width}
use Rattle.sd_work.specs.Memory.{Contents, array, absent, Memory, elements_of, contents_of}
use Rattle.sd_work.specs.Run.{Left}
use Rattle.sd_work.specs.Step.{Outcome, Done, Faulted, Spent}
use Rattle.sd_graph.specs.declared.place.Place.{Place}
use Rattle.sd_program.specs.Names.{Name, Named}
use Rattle.sd_json.specs.AnswerText.{line_of}
use Rattle.sd_json.specs.ArraysReading.{arrays_reading}
use Rattle.sd_json.specs.Given as file
use Rattle.sd_json.specs.declared.error.InputError.{InputError}
use Rattle.sd_json.specs.declared.names.Names.{Names}
use Rattle.sd_says.specs.Exact.{extents_in}
use Rattle.sd_says.specs.Held.{Shape, opening_contents}
use Rattle.sd_says.specs.Setting.{taken_in}
use Rattle.sd_says.specs.Declared.{Owner, of_caller, of_run, of_scope, Declaration, declared_of}
use Rattle.sd_says.specs.Says.{sizes_of}
use Rattle.sd_report.specs.write.RunText.{fault_line, spent_line}

-- ---- the arrays file

-- the names of a program's arguments
abbrev pub argument_names : Block → List Name
argument_names no_statement = []
argument_names (and_statement (argument_array line name bits extents) rest) = name ∷ argument_names rest
argument_names (and_statement statement rest) = argument_names rest

-- what a source looks for: its size symbols, and the arguments of its last program; the last program goes first here
abbrev pub names_sought : (symbols : List Name) → List FunctionTree → Names
names_sought symbols [] = record { symbols = []; arguments = [] }
names_sought symbols (function ∷ earlier) = record { symbols = symbols; arguments = argument_names function.arguments }

-- the sizes and arrays that a file gives to a source, or the first case that refuses it
abbrev pub file_read : ProgramTree → (arrays : List ℕ) → Result file.Contents InputError
file_read source arrays = arrays_reading (names_sought source.symbols (reverse source.functions)) arrays

-- ---- the memory that its run begins with

-- what a container holds there: an argument what is given, what belongs to the run zeros or nothing, what belongs to a scope nothing
abbrev pub held_first : Owner → Width → Shape → (given : List ℤ) → Contents
held_first of_caller width shape given = array width given
held_first of_run width shape given = opening_contents width shape
held_first of_scope width shape given = absent

-- the containers one after another; the first has this number
abbrev pub memory_from : (given : List (List ℤ)) → (number : ℕ) → List Declaration → Memory
memory_from given number [] = []
memory_from given number (first ∷ rest) = held_first first.owner first.width first.shape (slice_index_or given number []) ∷ memory_from given (suc number) rest

-- those of the last program, whose arguments have these elements
abbrev pub memory_of_last : (sizes : Named ℤ) → List FunctionTree → (given : List (List ℤ)) → Memory
memory_of_last sizes [] given = []
memory_of_last sizes (function ∷ earlier) given = memory_from given 0 (declared_of sizes function)

-- the memory of a source with what its file gives
abbrev pub memory_given : ProgramTree → file.Contents → Memory
memory_given source contents = memory_of_last (sizes_of source contents.sizes) (reverse source.functions) (map (λ one. one.elements) contents.arrays)

-- ---- the text of what comes of it

-- a line for each argument: its name, its extents and its elements; the first has this number
abbrev pub argument_lines : (sizes : Named ℤ) → Block → (number : ℕ) → Memory → List ℕ
argument_lines sizes no_statement number memory = []
argument_lines sizes (and_statement (argument_array line name bits extents) rest) number memory =
    line_of name (extents_in (taken_in sizes []) extents) (elements_of (contents_of 0 number (memory ∷ []))) ++ argument_lines sizes rest (number + 1) memory
argument_lines sizes (and_statement statement rest) number memory = argument_lines sizes rest number memory

abbrev pub lines_of_last : (sizes : Named ℤ) → List FunctionTree → Memory → List ℕ
lines_of_last sizes [] memory = []
lines_of_last sizes (function ∷ earlier) memory = argument_lines sizes function.arguments 0 memory

-- the arguments where all is done, else the fault with its place, or that the turns are spent
abbrev pub text_said : ProgramTree → (sizes : Named ℤ) → (turns : ℕ) → Outcome Place Left → List ℕ
text_said source sizes turns (Done left) = lines_of_last (sizes_of source sizes) (reverse source.functions) left.memory
text_said source sizes turns (Faulted fault) = fault_line fault
text_said source sizes turns Spent = spent_line turns

-- the exit status that tells it
abbrev pub status_said : Outcome Place Left → ℕ
status_said (Done left) = 0
status_said (Faulted fault) = 7
status_said Spent = 8
