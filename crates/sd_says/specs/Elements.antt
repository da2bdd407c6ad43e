-- Expressions over elements: what they read, and their values.
use Rattle.std.specs.Prelude.{ℤ, List, [], ◌∷◌, ◌++◌, Option, Ok, Err, is_some, if◌then◌else◌}
use Rattle.std.specs.List.{list_all}
use Rattle.sd_lex.specs.PlainTree.{Expression, number, named, element_at, one, two, choice, Expressions}
use Rattle.sd_num.specs.Wrapped.{wrapped}
use Rattle.sd_work.specs.declared.fault.FaultKind.TheVariants.{Subscript}
use Rattle.sd_work.specs.Memory.{Memories, Reference}
use Rattle.sd_graph.specs.TaskletMeaning.{Meaning, holds, and_then}
use Rattle.sd_program.specs.Names.{Name}
use Rattle.sd_says.specs.Exact.{variable_in, exact_all}
use Rattle.sd_says.specs.Held.{element_in}
use Rattle.sd_says.specs.Setting.{Setting, held_by}
use Rattle.sd_says.specs.Effects.{element_value}
use Rattle.sd_says.specs.Operators.{one_value, two_sides}

module _ (setting : Setting) where
  -- `X[e, e]`
  abbrev pub element_named : Name → Expressions → Option Reference
  element_named name at = element_in (held_by setting name) (exact_all setting.variables at)

  -- the elements of an expression, from left to right
  abbrev pub reads_of : Expression → List (Option Reference)
  reads_of (number value) = []
  reads_of (named name) = []
  reads_of (element_at name at) = element_named name at ∷ []
  reads_of (one sign of) = reads_of of
  reads_of (two sign left right) = reads_of left ++ reads_of right
  reads_of (choice value when other) = reads_of value ++ (reads_of when ++ reads_of other)

-- over these memories
module _ (setting : Setting) (memories : Memories) where
  -- the value of an expression; a variable counts modulo 2^64
  abbrev pub value_in : Expression → Meaning ℤ
  value_in (number value) = Ok value
  value_in (named name) = Ok (wrapped (variable_in setting.variables name))
  value_in (element_at name at) = element_value memories (element_named setting name at)
  value_in (one sign of) = and_then (value_in of) (λ value. Ok (one_value sign value))
  value_in (two sign left right) = and_then (value_in left) (λ first. two_sides sign first (value_in right))
  value_in (choice value when other) = and_then (value_in when) (λ condition. if holds condition then value_in value else value_in other)

  -- all elements are read first, those too that the value does not need, and are to be inside
  abbrev pub value_read : Expression → Meaning ℤ
  value_read expression = if list_all is_some (reads_of setting expression) then value_in expression else Err Subscript
