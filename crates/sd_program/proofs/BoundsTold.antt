-- What three facts of each affine place of a statement tell of it.
use Rattle.std.proofs.Common.{List, [], ◌∷◌, Option, Some, None}
use Rattle.std.specs.List.{AllByRecursion}
use Rattle.sd_lex.specs.PlainTree.{Expression, number, named, element_at, one, two, choice, Expressions, no_expression, and_expression, Dimension, index, span, StatementTree, argument_array, local_array, local_stream, assign, copy, reduce, map_scope, tasklet, consume_scope, call, for_loop, while_loop, branch, input, output, set, set_at, tasklet_branch}
use Rattle.sd_program.specs.Names.{Name}
use Rattle.sd_program.specs.Bounds.{EachExpression, IfWritten, EachEnd, EachDimension, EachSubscript, EachBound}

module _ (A B C Told : Expression → Type 0) (tells : (e : Expression) → A e → B e → C e → Told e) where
  in_expressions : (es : Expressions) → EachExpression A es → EachExpression B es → EachExpression C es → EachExpression Told es
  in_expressions no_expression a b c = tt
  in_expressions (and_expression first rest) a b c = (tells first a.0 b.0 c.0, in_expressions rest a.1 b.1 c.1)

  if_written : (e : Option Expression) → IfWritten A e → IfWritten B e → IfWritten C e → IfWritten Told e
  if_written None a b c = tt
  if_written (Some e) a b c = tells e a b c

  in_ends : (d : Dimension) → EachEnd A d → EachEnd B d → EachEnd C d → EachEnd Told d
  in_ends (index at) a b c = tells at a b c
  in_ends (span begin end step) a b c = (if_written begin a.0 b.0 c.0, if_written end a.1 b.1 c.1)

  in_dimensions : (ds : List Dimension) → EachDimension A ds → EachDimension B ds → EachDimension C ds → EachDimension Told ds
  in_dimensions [] a b c = tt
  in_dimensions (first ∷ rest) a b c = (in_ends first a.0 b.0 c.0, in_dimensions rest a.1 b.1 c.1)

  in_subscripts : (e : Expression) → EachSubscript A e → EachSubscript B e → EachSubscript C e → EachSubscript Told e
  in_subscripts (number value) a b c = tt
  in_subscripts (named name) a b c = tt
  in_subscripts (element_at name at) a b c = in_expressions at a b c
  in_subscripts (one sign of) a b c = in_subscripts of a b c
  in_subscripts (two sign left right) a b c = (in_subscripts left a.0 b.0 c.0, in_subscripts right a.1 b.1 c.1)
  in_subscripts (choice value when other) a b c = (in_subscripts value a.0 b.0 c.0, (in_subscripts when a.1.0 b.1.0 c.1.0, in_subscripts other a.1.1 b.1.1 c.1.1))

  in_arguments : (arguments : List (Name × List Dimension)) → AllByRecursion (λ argument. EachDimension A argument.1) arguments → AllByRecursion (λ argument. EachDimension B argument.1) arguments →
      AllByRecursion (λ argument. EachDimension C argument.1) arguments → AllByRecursion (λ argument. EachDimension Told argument.1) arguments
  in_arguments [] a b c = tt
  in_arguments (first ∷ rest) a b c = (in_dimensions first.1 a.0 b.0 c.0, in_arguments rest a.1 b.1 c.1)

  pub told-bounds : (s : StatementTree) → EachBound A s → EachBound B s → EachBound C s → EachBound Told s
  told-bounds (argument_array line name bits extents) a b c = in_expressions extents a b c
  told-bounds (local_array line name extents bits) a b c = in_expressions extents a b c
  told-bounds (local_stream line name bits size) a b c = tt
  told-bounds (assign line name at add value) a b c = (in_expressions at a.0 b.0 c.0, in_subscripts value a.1 b.1 c.1)
  told-bounds (copy line to to_dimensions from from_dimensions) a b c = (in_dimensions to_dimensions a.0 b.0 c.0, in_dimensions from_dimensions a.1 b.1 c.1)
  told-bounds (reduce line lambda from to axis identity) a b c = tt
  told-bounds (map_scope line parameters ranges body) a b c = in_dimensions ranges a b c
  told-bounds (tasklet line body) a b c = tt
  told-bounds (consume_scope line from size name element worker body) a b c = tt
  told-bounds (call line name arguments) a b c = in_arguments arguments a b c
  told-bounds (for_loop line name begin end step body) a b c = (if_written begin a.0 b.0 c.0, tells end a.1 b.1 c.1)
  told-bounds (while_loop line when body) a b c = in_subscripts when a b c
  told-bounds (branch line when body other) a b c = in_subscripts when a b c
  told-bounds (input line connector memlet) a b c = in_dimensions memlet.dimensions a b c
  told-bounds (output line connector memlet) a b c = in_dimensions memlet.dimensions a b c
  told-bounds (set line name value) a b c = tt
  told-bounds (set_at line name at value) a b c = tt
  told-bounds (tasklet_branch line when body other) a b c = tt
