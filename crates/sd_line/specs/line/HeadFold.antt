-- The plain forms of the code's heads.
use Rattle.std.specs.Prelude.{option_map, string_bytes}
use Rattle.sd_lex.specs.TreeFold.{expression_of, statement_of, block_of}
use Rattle.sd_phrase.specs.Memlet.{lambda_tree_of, memlet_tree_of}
use Rattle.sd_line.specs.line.Head.{HeadTree, import_line, symbol_line, program_decorator, program_head, statement_head, reduce_head, input_head, output_head, consume_decorator, consume_head, elif_head, else_head}
use Rattle.sd_line.specs.declared.line.head.Head.{Head}
use Rattle.sd_line.specs.declared.line.head.Head.TheVariants.{Import, Symbol, ProgramDecorator, Program, Statement, Reduce, Input, Output, ConsumeDecorator, Consume, Elif, Else}

-- the plain form of a head
abbrev pub head_tree : Head → HeadTree
head_tree Import = import_line
head_tree (Symbol name quoted) = symbol_line (string_bytes name) (string_bytes quoted)
head_tree ProgramDecorator = program_decorator
head_tree (Program name arguments) = program_head (string_bytes name) (block_of arguments.items)
head_tree (Statement statement) = statement_head (statement_of statement)
head_tree (Reduce lambda from to axis identity) = reduce_head (lambda_tree_of lambda) (string_bytes from) (string_bytes to) axis identity
head_tree (Input connector memlet) = input_head (string_bytes connector) (memlet_tree_of memlet)
head_tree (Output connector memlet) = output_head (string_bytes connector) (memlet_tree_of memlet)
head_tree (ConsumeDecorator stream size) = consume_decorator (string_bytes stream) size
head_tree (Consume name element worker) = consume_head (string_bytes name) (string_bytes element) (option_map string_bytes worker)
head_tree (Elif when) = elif_head (expression_of when)
head_tree Else = else_head
