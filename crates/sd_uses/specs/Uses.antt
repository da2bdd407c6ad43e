-- What a line uses: expressions by their places, and names by what they have to be.
use Rattle.std.specs.Prelude.{List, [], ◌∷◌, ◌++◌, map, Option, Some, None}
use Rattle.sd_lex.specs.PlainTree.{Expression, Dimension, index, StatementTree, argument_array, local_array, assign, copy, map_scope, call, for_loop, while_loop, branch, set, set_at, tasklet_branch}
use Rattle.sd_line.specs.declared.line.head.BlockKind.{BlockKind}
use Rattle.sd_line.specs.declared.line.head.BlockKind.TheVariants.{Tasklet}
use Rattle.sd_phrase.specs.Memlet.{LambdaTree}
use Rattle.sd_line.specs.line.Head.{HeadTree, statement_head, reduce_head, input_head, output_head, consume_decorator, elif_head}
use Rattle.sd_names.specs.Names.{Name}
use Rattle.sd_names.specs.Expressions.{expression_list, optional, expressions_of_dimensions}

pub data Use : Type 0 where
  -- an expression outside of tasklets, and one in a tasklet
  value : Expression → Use
  code : Expression → Use
  -- an affine place, and the extent of a container
  bound : Expression → Use
  extent : Expression → Use
  -- an array, with its subset where one is written
  part : Name → List Dimension → Use
  -- what an output writes: the same, or a stream
  target : Name → List Dimension → Use
  -- a program that is called, and a stream that is consumed
  called : Name → Use
  consumed : Name → Use

-- an argument of a call
abbrev pub argument : Name × List Dimension → Use
argument passed = part passed.0 passed.1

abbrev pub condition : BlockKind → Expression → Use
condition Tasklet when = code when
condition kind when = value when

abbrev pub statement_uses : BlockKind → StatementTree → List Use
statement_uses kind (argument_array line name bits extents) = map extent (expression_list extents)
statement_uses kind (local_array line name extents bits) = map extent (expression_list extents)
statement_uses kind (assign line name at add e) = part name (map index (expression_list at)) ∷ value e ∷ []
statement_uses kind (copy line to to_dimensions from from_dimensions) = part to to_dimensions ∷ part from from_dimensions ∷ []
statement_uses kind (map_scope line parameters ranges body) = map bound (expressions_of_dimensions ranges)
statement_uses kind (call line name arguments) = called name ∷ map argument arguments
statement_uses kind (for_loop line name begin end step body) = map bound (optional begin ++ end ∷ [])
statement_uses kind (while_loop line when body) = value when ∷ []
statement_uses kind (branch line when body other) = value when ∷ []
statement_uses kind (tasklet_branch line when body other) = code when ∷ []
statement_uses kind (set line name e) = code e ∷ []
statement_uses kind (set_at line name at e) = map code (expression_list at) ++ code e ∷ []
statement_uses kind other = []

-- what a line uses that stands in a block of a kind
abbrev pub uses : BlockKind → HeadTree → List Use
uses kind (statement_head s) = statement_uses kind s
uses kind (reduce_head lambda from to axis identity) = part from [] ∷ part to [] ∷ []
uses kind (input_head connector memlet) = part memlet.name memlet.dimensions ∷ []
uses kind (output_head connector memlet) = target memlet.name memlet.dimensions ∷ []
uses kind (consume_decorator stream size) = consumed stream ∷ []
uses kind (elif_head when) = condition kind when ∷ []
uses kind other = []

-- the lambda of a line
abbrev pub lambda_of : HeadTree → Option LambdaTree
lambda_of (reduce_head lambda from to axis identity) = Some lambda
lambda_of (input_head connector memlet) = memlet.lambda
lambda_of (output_head connector memlet) = memlet.lambda
lambda_of other = None
