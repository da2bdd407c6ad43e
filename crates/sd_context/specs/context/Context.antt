-- What is known between two lines: the names in force, the open blocks, what was counted and what has to come.
use Rattle.std.specs.Prelude.{ℕ, ℤ, List, [], length, Bool, false, Option}
use Rattle.sd_range.specs.declared.affine.Affine.{Affine}
use Rattle.sd_lex.specs.PlainTree.{Expression, StatementTree, FunctionTree}
use Rattle.sd_line.specs.declared.line.head.BlockKind.{BlockKind}
use Rattle.sd_line.specs.declared.line.head.BlockKind.TheVariants.{Top}
use Rattle.sd_refusal.specs.declared.site.Counts.{Counts}
use Rattle.sd_refusal.specs.declared.site.Site.{Site}
use Rattle.sd_names.specs.Names.{Name, Names}
use Rattle.sd_context.specs.declared.context.block.InForce.{InForce}

-- a branch of an `if` whose block has ended
pub record Branch : Type 0 where
  pub line : ℕ
  pub when : Expression
  pub statements : List StatementTree

-- what opened a block
pub data Opener : Type 0 where
  -- the file itself
  file : Opener
  function : (name : Name) → Opener
  -- a map, a tasklet or a loop
  statement : StatementTree → Opener
  -- the `def` of a consume: the line of its decorator, its stream and number, and its names
  consumer : (line : ℕ) → (stream : Name) → (size : ℤ) → (name element : Name) → (worker : Option Name) → Opener
  -- an `if` or `elif`, with the branches before it
  if_block : (earlier : List Branch) → (when : Expression) → Opener
  -- an `else`, with the branches before it
  else_block : (earlier : List Branch) → Opener

pub record OpenBlock : Type 0 where
  pub opener : Opener
  pub kind : BlockKind
  -- the line of its statement; of a function that of its decorator
  pub line : ℕ
  -- how many scopes and loops are about its statements
  pub depth : ℕ
  -- how many names were in force before its own
  pub before : InForce
  -- its statements so far
  pub statements : List StatementTree

-- what has to come next
pub data Awaited : Type 0 where
  nothing : Awaited
  block : Awaited
  -- the `def` of a program, with the line of its decorator
  function_def : (line : ℕ) → Awaited
  -- the `def` of a consume, with the line of its decorator, the stream and the number
  consume_def : (line : ℕ) → (stream : Name) → (size : ℤ) → Awaited

pub record Context : Type 0 where
  pub names : Names
  pub counts : Counts
  -- of the program: its arguments, its parameters with their extents, and the containers that it has written
  pub arguments : List StatementTree
  pub parameters : List (Name × List Affine)
  pub written : List Name
  -- whether a connector line may come
  pub connects : Bool
  pub awaited : Awaited
  -- the innermost block, and those about it, the innermost first
  pub block : OpenBlock
  pub outer : List OpenBlock
  -- of the file: its symbols, and the programs that have ended
  pub symbols : List Name
  pub functions : List FunctionTree

abbrev pub no_counts : Counts
no_counts = record { containers = 0; states = 0; calls = 0; connectors = 0; lines = 0 }

-- how many names are in force
abbrev pub in_force : Names → InForce
in_force names = record { meanings = length names.meanings; containers = length names.containers }

-- the block that the file is
abbrev pub file_block : OpenBlock
file_block = record { opener = file; kind = Top; line = 0; depth = 0; before = record { meanings = 0; containers = 0 }; statements = [] }

-- before the first line
abbrev pub opening : Context
opening = record {
  names = record { meanings = []; containers = []; declared = [] };
  counts = no_counts;
  arguments = [];
  parameters = [];
  written = [];
  connects = false;
  awaited = nothing;
  block = file_block;
  outer = [];
  symbols = [];
  functions = [];
}

-- where the next line stands
abbrev pub site_of : Context → Site
site_of context = record { kind = context.block.kind; depth = context.block.depth; connects = context.connects; counts = context.counts }
