-- What a source says: an outcome, by recursion on its statements.
use Rattle.std.specs.Prelude.{◌≡◌, ℕ, ◌+◌, ℤ, pos, List, [], ◌∷◌, map, reverse, Option, Some, None, if◌then◌else◌, slice_get, unwrap_or, bytes_eq}
use Rattle.sd_lex.specs.PlainTree.{argument_array, Block, no_statement, and_statement, FunctionTree, ProgramTree}
use Rattle.sd_work.specs.Memory.{Memory}
use Rattle.sd_work.specs.Step.{Outcome}
use Rattle.sd_work.specs.Run.{Left}
use Rattle.sd_work.specs.BigRun.{left_by}
use Rattle.sd_work.specs.BigStep.{reached}
use Rattle.sd_graph.specs.Context.{Reach, raised}
use Rattle.sd_graph.specs.declared.place.Frame.{Frame}
use Rattle.sd_graph.specs.declared.place.Place.{Place}
use Rattle.sd_program.specs.Names.{Named, in_force}
use Rattle.sd_program.specs.Declared.{containers_in_all}
use Rattle.sd_says.specs.Held.{Shape, extents_of_shape, Held, own_reach}
use Rattle.sd_says.specs.Setting.{Setting, taken_in}
use Rattle.sd_says.specs.Declared.{Declaration, declared_of, declaration_at, held_with, run_memory}
use Rattle.sd_says.specs.Parts.{Part, view_of}
use Rattle.sd_says.specs.Work.{Doing, within}
use Rattle.sd_says.specs.Items.{Calls}
use Rattle.sd_says.specs.Statements.{says_block}

-- ---- programs

abbrev pub shape_at : List Declaration → (number : ℕ) → Shape
shape_at all number = (declaration_at all number).shape

-- an argument is a view of the part that was passed, seen from inside the memory of the call
abbrev pub argument_reach : Shape → (number : ℕ) → Option Part → Reach
argument_reach shape number None = own_reach shape number
argument_reach shape number (Some part) = raised (view_of part (extents_of_shape shape))

abbrev pub reach_passed : List Declaration → (arguments : List Part) → (number : ℕ) → Reach
reach_passed all arguments number = argument_reach (shape_at all number) number (slice_get arguments number)

-- the arguments in force, each reached so; the first has this number
module _ (all : List Declaration) (reach : ℕ → Reach) where
  abbrev pub arguments_held : Block → (next : ℕ) → Named Held → Named Held
  arguments_held no_statement next known = known
  arguments_held (and_statement (argument_array line name bits extents) rest) next known =
      arguments_held rest (next + 1) ((name, held_with all next (reach next)) ∷ known)
  arguments_held (and_statement statement rest) next known = arguments_held rest next known

-- the size symbols with their values
module _ (sizes : Named ℤ) where
  -- where the block of a program begins, with its arguments reached so and these frames round it
  abbrev pub setting_of : FunctionTree → (reach : ℕ → Reach) → (around : List Frame) → Setting
  setting_of function reach around = record {
    containers = arguments_held (declared_of sizes function) reach function.arguments 0 [];
    variables = taken_in sizes [];
    shown = [];
    around = around;
  }

  -- the statements of a program that is given these parts, over memories of which the innermost is its own
  abbrev pub says_function : Calls → FunctionTree → (arguments : List Part) → (around : List Frame) → (most : ℕ) → Doing
  says_function calls function arguments around most =
      let all : List Declaration = declared_of sizes function in
      says_block calls all most function.body (containers_in_all function.arguments) (setting_of function (reach_passed all arguments) around)

  -- a call of the latest of these programs that has a name, each of which calls those behind it; the latest first
  abbrev pub says_call : List FunctionTree → Calls
  says_call [] name arguments around most = reached
  says_call (function ∷ earlier) name arguments around most =
      if bytes_eq name function.name
      then within (run_memory (declared_of sizes function)) (says_function (says_call earlier) function arguments around most)
      else says_call earlier name arguments around most

  -- the last of these programs over its memory, which its arguments are in; the latest first
  abbrev pub says_last : List FunctionTree → (most : ℕ) → Doing
  says_last [] most = reached
  says_last (function ∷ earlier) most = says_function (says_call earlier) function [] [] most

-- ---- sources

-- the size symbols of a source with their values; one without a value is 0
abbrev pub sizes_of : ProgramTree → (sizes : Named ℤ) → Named ℤ
sizes_of source sizes = map (λ symbol. (symbol, unwrap_or (in_force sizes symbol) (pos 0))) source.symbols

-- what a source says with at most so many tests of each loop and takes of each scope; None where they are too few
abbrev pub said_within : (most : ℕ) → ProgramTree → (sizes : Named ℤ) → Memory → (turns : ℕ) → Option (Outcome Place Left)
said_within most source sizes memory turns = left_by (says_last (sizes_of source sizes) (reverse source.functions) most (memory ∷ []) turns)

-- what a source says, with these values of its size symbols, from this memory of its last program and so many turns
abbrev pub Says : ProgramTree → (sizes : Named ℤ) → Memory → (turns : ℕ) → Outcome Place Left → Type 0
Says source sizes memory turns outcome = (most : ℕ) × (said_within most source sizes memory turns ≡ Some outcome)
