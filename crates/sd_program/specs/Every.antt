-- What holds of every statement of a program.
use Rattle.std.specs.Prelude.{⊤}
use Rattle.std.specs.List.{AllByRecursion}
use Rattle.sd_lex.specs.PlainTree.{StatementTree, map_scope, tasklet, consume_scope, for_loop, while_loop, branch, tasklet_branch, Block, no_statement, and_statement, FunctionTree, ProgramTree}

module _ (Holds : StatementTree → Type 0) where
  abbrev mutual
    -- of a statement and of those in the blocks below it
    pub Every : StatementTree → Type 0
    Every (map_scope line parameters ranges body) = Holds (map_scope line parameters ranges body) × EveryIn body
    Every (tasklet line body) = Holds (tasklet line body) × EveryIn body
    Every (consume_scope line from size name element worker body) = Holds (consume_scope line from size name element worker body) × EveryIn body
    Every (for_loop line name begin end step body) = Holds (for_loop line name begin end step body) × EveryIn body
    Every (while_loop line when body) = Holds (while_loop line when body) × EveryIn body
    Every (branch line when body other) = Holds (branch line when body other) × (EveryIn body × EveryIn other)
    Every (tasklet_branch line when body other) = Holds (tasklet_branch line when body other) × (EveryIn body × EveryIn other)
    Every statement = Holds statement

    -- of each statement of a block
    pub EveryIn : Block → Type 0
    EveryIn no_statement = ⊤
    EveryIn (and_statement first rest) = Every first × EveryIn rest

  -- of the arguments and statements of a function
  abbrev pub EveryOf : FunctionTree → Type 0
  EveryOf function = EveryIn function.arguments × EveryIn function.body

  -- of those of all functions
  abbrev pub Everywhere : ProgramTree → Type 0
  Everywhere program = AllByRecursion EveryOf program.functions
