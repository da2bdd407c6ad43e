-- The code's values as those of the definition.
use Rattle.std.specs.Prelude.{map, option_map, string_bytes, reverse}
use Rattle.sd_lex.specs.TreeFold.{expression_of, statement_of, function_of}
use Rattle.sd_names.specs.Names.{named_entries}
use Rattle.sd_context.specs.declared.context.context.Awaited.{Awaited}
use Rattle.sd_context.specs.declared.context.context.Awaited.TheVariants.{Nothing, Block, FunctionDef, ConsumeDef}
use Rattle.sd_context.specs.declared.context.block.Branch.{Branch}
use Rattle.sd_context.specs.declared.context.context.Context.{Context}
use Rattle.sd_context.specs.declared.context.block.OpenBlock.{OpenBlock}
use Rattle.sd_context.specs.declared.context.block.Opener.{Opener}
use Rattle.sd_context.specs.declared.context.block.Opener.TheVariants.{File, Function, Statement, Consumer, If, Else}
use Rattle.sd_context.specs.context.Context as definition

abbrev pub branch_of : Branch → definition.Branch
branch_of b = record { line = b.line; when = expression_of b.when; statements = map statement_of b.statements.items }

abbrev pub opener_of : Opener → definition.Opener
opener_of File = definition.file
opener_of (Function name) = definition.function (string_bytes name)
opener_of (Statement s) = definition.statement (statement_of s)
opener_of (Consumer line stream size name element worker) = definition.consumer line (string_bytes stream) size (string_bytes name) (string_bytes element) (option_map string_bytes worker)
opener_of (If earlier when) = definition.if_block (map branch_of earlier.items) (expression_of when)
opener_of (Else earlier) = definition.else_block (map branch_of earlier.items)

abbrev pub open_block_of : OpenBlock → definition.OpenBlock
open_block_of b = record {
  opener = opener_of b.opener;
  kind = b.kind;
  line = b.line;
  depth = b.depth;
  before = b.before;
  statements = map statement_of b.statements.items;
}

abbrev pub awaited_of : Awaited → definition.Awaited
awaited_of Nothing = definition.nothing
awaited_of Block = definition.block
awaited_of (FunctionDef line) = definition.function_def line
awaited_of (ConsumeDef line stream size) = definition.consume_def line (string_bytes stream) size

abbrev pub context_of : Context → definition.Context
context_of c = record {
  names = c.names;
  counts = c.counts;
  arguments = map statement_of c.arguments.items;
  parameters = named_entries c.parameters.items;
  written = c.written;
  connects = c.connects;
  awaited = awaited_of c.awaited;
  block = open_block_of c.block;
  outer = reverse (map open_block_of c.outer.items);
  symbols = map string_bytes c.symbols.items;
  functions = map function_of c.functions.items;
}
