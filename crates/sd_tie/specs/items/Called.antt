-- Which calls a program makes.
use Rattle.std.specs.Prelude.{ℤ, List, ⊤}
use Rattle.sd_lex.specs.PlainTree.{StatementTree, call, FunctionTree}
use Rattle.sd_graph.specs.PlainTree.{GraphTree}
use Rattle.sd_program.specs.Names.{Name}
use Rattle.sd_program.specs.Calls.{IsCallable}
use Rattle.sd_program.specs.Place.{Place, in_signature}
use Rattle.sd_tie.specs.items.Extents.{HasExtentsThroughout}

module _ (sizes : List ℤ) (graphs : Name → GraphTree) where
  -- no container of the graph that is called has a negative extent
  abbrev pub IsCallSized : StatementTree → Type 0
  IsCallSized (call line name arguments) = HasExtentsThroughout sizes (graphs name)
  IsCallSized statement = ⊤

  -- a call is of one of these programs, with as many arguments, and of such a graph
  abbrev pub IsCalled : (above : List FunctionTree) → Place → StatementTree → Type 0
  IsCalled above place statement = IsCallable (in_signature above) statement × IsCallSized statement
