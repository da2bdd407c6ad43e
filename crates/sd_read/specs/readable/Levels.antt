-- How many levels the expressions of a program have. A tree has no parentheses, so those of the text are not counted here.
use Rattle.std.specs.Prelude.{ℕ, ◌+◌, ◌≤◌, max, Bool, true, ⊤}
use Rattle.std.specs.List.{AllByRecursion}
use Rattle.sd_lex.specs.PlainTree.{Expression, number, named, element_at, one, two, choice, Expressions, no_expression, and_expression, StatementTree, argument_array, local_array, assign, copy, map_scope, call, for_loop, while_loop, branch, input, output, set, set_at, tasklet_branch}
use Rattle.sd_program.specs.Bounds.{EachExpression, IfWritten, EachDimension, EachSubscript}
use Rattle.sd_program.specs.Place.{Around, program, Place}

abbrev mutual
  -- the most operators, conditionals and elements round a number or a name, in an expression of a tasklet
  pub code_levels_in : Expression → ℕ
  code_levels_in (number value) = 0
  code_levels_in (named name) = 0
  code_levels_in (element_at name at) = 1 + code_levels_in_all at
  code_levels_in (one sign of) = 1 + code_levels_in of
  code_levels_in (two sign left right) = 1 + max (code_levels_in left) (code_levels_in right)
  code_levels_in (choice value when other) = 1 + max (code_levels_in value) (max (code_levels_in when) (code_levels_in other))

  -- the most of several
  pub code_levels_in_all : Expressions → ℕ
  code_levels_in_all no_expression = 0
  code_levels_in_all (and_expression first rest) = max (code_levels_in first) (code_levels_in_all rest)

-- the most operators and conditionals round a number, a name or an element, in an expression outside of tasklets
abbrev pub levels_in : Expression → ℕ
levels_in (number value) = 0
levels_in (named name) = 0
levels_in (element_at name at) = 0
levels_in (one sign of) = 1 + levels_in of
levels_in (two sign left right) = 1 + max (levels_in left) (levels_in right)
levels_in (choice value when other) = 1 + max (levels_in value) (max (levels_in when) (levels_in other))

-- an expression of a tasklet, or a subscript of an element outside of one
abbrev pub IsShallowCode : Expression → Type 0
IsShallowCode expression = code_levels_in expression ≤ 64

-- an expression outside of tasklets; the subscripts of its elements are expressions of their own
abbrev pub IsShallow : (most : ℕ) → Expression → Type 0
IsShallow most expression = (levels_in expression ≤ most) × EachSubscript IsShallowCode expression

-- how many the value of an element statement may have: outside of scopes an addition is put round that of `+=`
abbrev pub value_levels : Around → (add : Bool) → ℕ
value_levels program true = 63
value_levels around add = 64

-- at most 64 levels in each expression of a statement, those of the blocks below it aside; the end of a range has one less, for the comparison that stands for it
abbrev pub HasFewLevels : Place → StatementTree → Type 0
HasFewLevels place (argument_array line name bits extents) = EachExpression (IsShallow 64) extents
HasFewLevels place (local_array line name extents bits) = EachExpression (IsShallow 64) extents
HasFewLevels place (assign line name at add value) = EachExpression (IsShallow 64) at × IsShallow (value_levels place.around add) value
HasFewLevels place (copy line to to_dimensions from from_dimensions) = EachDimension (IsShallow 64) to_dimensions × EachDimension (IsShallow 64) from_dimensions
HasFewLevels place (map_scope line parameters ranges body) = EachDimension (IsShallow 64) ranges
HasFewLevels place (call line name arguments) = AllByRecursion (λ argument. EachDimension (IsShallow 64) argument.1) arguments
HasFewLevels place (for_loop line name begin end step body) = IfWritten (IsShallow 64) begin × IsShallow 63 end
HasFewLevels place (while_loop line when body) = IsShallow 64 when
HasFewLevels place (branch line when body other) = IsShallow 64 when
HasFewLevels place (input line connector memlet) = EachDimension (IsShallow 64) memlet.dimensions
HasFewLevels place (output line connector memlet) = EachDimension (IsShallow 64) memlet.dimensions
HasFewLevels place (set line name value) = IsShallowCode value
HasFewLevels place (set_at line name at value) = EachExpression IsShallowCode at × IsShallowCode value
HasFewLevels place (tasklet_branch line when body other) = IsShallowCode when
HasFewLevels place statement = ⊤
