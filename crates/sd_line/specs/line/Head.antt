-- What a line says by its tokens alone, without the block below it.
use Rattle.std.specs.Prelude.{ℕ, ℤ, List, Option}
use Rattle.sd_lex.specs.PlainTree.{Expression, StatementTree, Block}
use Rattle.sd_phrase.specs.Memlet.{LambdaTree, MemletTree}

-- what a line says
pub data HeadTree : Type 0 where
  -- `import dace`, `import numpy as np`
  import_line : HeadTree
  -- `N = dace.symbol('N')`: both names as they are written, which may differ
  symbol_line : (name : List ℕ) → (quoted : List ℕ) → HeadTree
  -- `@dace.program`
  program_decorator : HeadTree
  -- `def f(X: dace.int64[N], Y: dace.int64):` at top level; each argument is an argument_array of this line
  program_head : (name : List ℕ) → (arguments : Block) → HeadTree
  -- a statement whose blocks are empty: in bodies a local_array, local_stream, assign, copy, map_scope, tasklet, call, for_loop, while_loop or branch,
  -- in tasklets a set, set_at or tasklet_branch
  statement_head : StatementTree → HeadTree
  -- `dace.reduce(L, X, Y, axis=n, identity=c)`
  reduce_head : LambdaTree → (from : List ℕ) → (to : List ℕ) → (axis : Option ℤ) → (identity : Option ℤ) → HeadTree
  -- `c << m` and `c >> m`
  input_head : (connector : List ℕ) → MemletTree → HeadTree
  output_head : (connector : List ℕ) → MemletTree → HeadTree
  -- `@dace.consume(S, n)`
  consume_decorator : (stream : List ℕ) → (size : ℤ) → HeadTree
  -- `def g(x):`, `def g(x, p):` in a body
  consume_head : (name : List ℕ) → (element : List ℕ) → (worker : Option (List ℕ)) → HeadTree
  -- `elif E:`, `else:` (in bodies and in tasklets)
  elif_head : (when : Expression) → HeadTree
  else_head : HeadTree
