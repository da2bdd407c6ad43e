-- What the lines of a tasklet do.
use Rattle.std.specs.Prelude.{◌-◌, ℤ, List, [], ◌∷◌, ◌++◌, length, drop, Option, Some, None, Ok, Err, bytes_eq, is_some, if◌then◌else◌}
use Rattle.sd_lex.specs.PlainTree.{Expression, number, named, element_at, one, two, choice, Expressions, no_expression, and_expression, StatementTree, set, set_at, tasklet_branch, Block, no_statement, and_statement}
use Rattle.sd_num.specs.Wrapped.{wrapped}
use Rattle.sd_work.specs.declared.fault.FaultKind.TheVariants.{Subscript}
use Rattle.sd_work.specs.Leaf.{Pending}
use Rattle.sd_graph.specs.TaskletMeaning.{Meaning, holds, and_then, checked}
use Rattle.sd_program.specs.Names.{Name, Named, in_force}
use Rattle.sd_says.specs.Exact.{variable_in}
use Rattle.sd_says.specs.Operators.{one_value, two_sides}
use Rattle.sd_says.specs.Connectors.{Input, Outlet, value_at}

-- what a tasklet has come to: the values of its locals, the newest first, and what is to be done, in order
pub record Progress : Type 0 where
  pub locals : Named ℤ
  pub effects : List Pending

-- ---- locals

-- another value for the first entry of a name
abbrev pub replaced : Name → ℤ → Named ℤ → Named ℤ
replaced name value [] = []
replaced name value (entry ∷ entries) = if bytes_eq name entry.0 then (entry.0, value) ∷ entries else entry ∷ replaced name value entries

-- a local that is in force gets another value; else it is one more
abbrev pub with_local : Name → ℤ → Named ℤ → Named ℤ
with_local name value locals = if is_some (in_force locals name) then replaced name value locals else (name, value) ∷ locals

-- behind a block its own locals are forgotten: as many are left as stood before it
abbrev pub forgetting : (before : Named ℤ) → Meaning Progress → Meaning Progress
forgetting before made = and_then made (λ now. Ok (record now { locals = drop (length now.locals - length before) now.locals }))

-- ---- names

-- a name is an input, else a local, else a variable, which counts modulo 2^64
abbrev pub named_value : Option Input → (local : Option ℤ) → (variable : ℤ) → Meaning ℤ
named_value (Some from) local variable = value_at from []
named_value None (Some value) variable = Ok value
named_value None None variable = Ok (wrapped variable)

-- the value at a place of an input; what is none has no place
abbrev pub value_from : Option Input → (place : Meaning (List ℤ)) → Meaning ℤ
value_from None place = and_then place (λ place. Err Subscript)
value_from (Some from) place = and_then place (value_at from)

-- a value given to a place of an output: the subscripts, whether they are inside, and then the value
abbrev pub given_to : Outlet → (place : Meaning (List ℤ)) → (value : Meaning ℤ) → Progress → Meaning Progress
given_to outlet place value now =
    and_then (and_then place (checked outlet.extents)) (λ place. and_then value (λ value. Ok (record now { effects = now.effects ++ outlet.give place value ∷ [] })))

-- the same at subscripts; what is no output has no place
abbrev pub given_at : Option Outlet → (place : Meaning (List ℤ)) → (value : Meaning ℤ) → Progress → Meaning Progress
given_at None place value now = and_then place (λ place. Err Subscript)
given_at (Some outlet) place value now = given_to outlet place value now

-- `c = E`: a value for an output, else for a local
abbrev pub set_to : Option Outlet → Name → (value : Meaning ℤ) → Progress → Meaning Progress
set_to (Some outlet) name value now = given_to outlet (Ok []) value now
set_to None name value now = and_then value (λ value. Ok (record now { locals = with_local name value now.locals }))

-- ---- lines

module _ (variables : Named ℤ) (inputs : Named Input) (outlets : Named Outlet) where
  abbrev mutual
    pub task_value : (locals : Named ℤ) → Expression → Meaning ℤ
    task_value locals (number value) = Ok value
    task_value locals (named name) = named_value (in_force inputs name) (in_force locals name) (variable_in variables name)
    task_value locals (element_at name at) = value_from (in_force inputs name) (task_values locals at)
    task_value locals (one sign of) = and_then (task_value locals of) (λ value. Ok (one_value sign value))
    task_value locals (two sign left right) = and_then (task_value locals left) (λ first. two_sides sign first (task_value locals right))
    task_value locals (choice value when other) =
        and_then (task_value locals when) (λ condition. if holds condition then task_value locals value else task_value locals other)

    pub task_values : (locals : Named ℤ) → Expressions → Meaning (List ℤ)
    task_values locals no_expression = Ok []
    task_values locals (and_expression first rest) = and_then (task_value locals first) (λ value. and_then (task_values locals rest) (λ values. Ok (value ∷ values)))

  -- what lines come to, one after another; a line that declares a connector does nothing
  abbrev mutual
    pub task_line : StatementTree → Progress → Meaning Progress
    task_line (set line name value) now = set_to (in_force outlets name) name (task_value now.locals value) now
    task_line (set_at line name at value) now = given_at (in_force outlets name) (task_values now.locals at) (task_value now.locals value) now
    task_line (tasklet_branch line when body other) now =
        and_then (task_value now.locals when) (λ condition. forgetting now.locals (if holds condition then task_lines body now else task_lines other now))
    task_line statement now = Ok now

    pub task_lines : Block → Progress → Meaning Progress
    task_lines no_statement now = Ok now
    task_lines (and_statement first rest) now = and_then (task_line first now) (task_lines rest)
