-- The limits on nodes stand against a source as a whole: at the least line at which its program, as far as it is read, passes one.
use Rattle.std.specs.Prelude.{ℕ, nat_eq, nat_lt, List, ◌&&◌, ◌||◌, Option, Some, None, Result, Ok, Err, if◌then◌else◌}
use Rattle.sd_lex.specs.PlainTree.{ProgramTree}
use Rattle.sd_source.specs.nodes.NodeLimits.{nodes_over, node_limits}
use Rattle.sd_context.specs.declared.blocks.refusal.Refusal.{Refusal}
use Rattle.sd_line.specs.lines.Lines.{Line}
use Rattle.sd_source.specs.source.Prefix.{program_before_refusal}

-- of two refusals the one of the lesser line counts, on one line that with the lesser number
abbrev pub first_of : Refusal → Refusal → Refusal
first_of a b = if nat_lt a.line b.line || nat_eq a.line b.line && nat_lt a.number b.number then a else b

abbrev pub node_refusal : (line : ℕ) → Refusal
node_refusal line = record { number = 8; line = line }

-- what the lines of a source say, where a limit on nodes is passed at this line
abbrev pub limited : Option ℕ → Result ProgramTree Refusal → Result ProgramTree Refusal
limited None read = read
limited (Some line) (Ok program) = Err (node_refusal line)
limited (Some line) (Err refusal) = Err (first_of (node_refusal line) refusal)

-- the program as far as it is read: where a line is refused, that of the lines before it
abbrev pub program_so_far : List Line → Result ProgramTree Refusal → ProgramTree
program_so_far lines (Ok program) = program
program_so_far lines (Err refusal) = program_before_refusal lines

abbrev pub within_nodes : List Line → Result ProgramTree Refusal → Result ProgramTree Refusal
within_nodes lines read = limited (nodes_over node_limits (program_so_far lines read)) read
