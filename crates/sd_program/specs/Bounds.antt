-- The affine places of a statement: extents, subscripts, ranges and the bounds of loops.
use Rattle.std.specs.Prelude.{List, Option, Some, None, ⊤}
use Rattle.std.specs.List.{AllByRecursion}
use Rattle.sd_lex.specs.PlainTree.{Expression, number, named, element_at, one, two, choice, Expressions, no_expression, and_expression, Dimension, index, span, StatementTree, argument_array, local_array, assign, copy, map_scope, call, for_loop, while_loop, branch, input, output}

module _ (Holds : Expression → Type 0) where
  -- of each expression of a list
  abbrev pub EachExpression : Expressions → Type 0
  EachExpression no_expression = ⊤
  EachExpression (and_expression first rest) = Holds first × EachExpression rest

  -- of one that may be left out
  abbrev pub IfWritten : Option Expression → Type 0
  IfWritten None = ⊤
  IfWritten (Some expression) = Holds expression

  -- of the bounds of a dimension
  abbrev pub EachEnd : Dimension → Type 0
  EachEnd (index at) = Holds at
  EachEnd (span begin end step) = IfWritten begin × IfWritten end

  -- of the bounds of a subset or of a map's ranges
  abbrev pub EachDimension : List Dimension → Type 0
  EachDimension dimensions = AllByRecursion EachEnd dimensions

  -- of the subscripts of each element in an expression outside of tasklets
  abbrev pub EachSubscript : Expression → Type 0
  EachSubscript (number value) = ⊤
  EachSubscript (named name) = ⊤
  EachSubscript (element_at name at) = EachExpression at
  EachSubscript (one sign of) = EachSubscript of
  EachSubscript (two sign left right) = EachSubscript left × EachSubscript right
  EachSubscript (choice value when other) = EachSubscript value × (EachSubscript when × EachSubscript other)

  -- of each affine place of a statement, those of the blocks below it aside
  abbrev pub EachBound : StatementTree → Type 0
  EachBound (argument_array line name bits extents) = EachExpression extents
  EachBound (local_array line name extents bits) = EachExpression extents
  EachBound (assign line name at add value) = EachExpression at × EachSubscript value
  EachBound (copy line to to_dimensions from from_dimensions) = EachDimension to_dimensions × EachDimension from_dimensions
  EachBound (map_scope line parameters ranges body) = EachDimension ranges
  EachBound (call line name arguments) = AllByRecursion (λ argument. EachDimension argument.1) arguments
  EachBound (for_loop line name begin end step body) = IfWritten begin × Holds end
  EachBound (while_loop line when body) = EachSubscript when
  EachBound (branch line when body other) = EachSubscript when
  EachBound (input line connector memlet) = EachDimension memlet.dimensions
  EachBound (output line connector memlet) = EachDimension memlet.dimensions
  EachBound statement = ⊤
