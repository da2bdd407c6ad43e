-- The context behind a line that is not refused.
use Rattle.std.specs.Prelude.{ℕ, List, [], ◌∷◌, ◌++◌, Bool, true, false, if◌then◌else◌}
use Rattle.sd_range.specs.declared.affine.Affine.{Affine}
use Rattle.sd_lex.specs.PlainTree.{StatementTree, argument_array, tasklet}
use Rattle.sd_line.specs.declared.line.head.BlockKind.{BlockKind}
use Rattle.sd_line.specs.line.Head.{HeadTree, program_head, statement_head, consume_head}
use Rattle.sd_refusal.specs.Counting.{is_connector, counts_behind}
use Rattle.sd_refusal.specs.declared.site.Counts.{Counts}
use Rattle.sd_names.specs.Names.{Name, Names}
use Rattle.sd_names.specs.Expressions.{affine_list}
use Rattle.sd_names.specs.Extents.{or_one}
use Rattle.sd_context.specs.context.Awaiting.{awaited_behind}
use Rattle.sd_context.specs.context.Context.{no_counts, in_force, Context}
use Rattle.sd_context.specs.context.Declaring.{names_behind}
use Rattle.sd_context.specs.context.Placing.{placed}
use Rattle.sd_context.specs.context.Writing.{written_behind}

-- the parameters of the program with their extents
abbrev pub statement_parameters : Names → List (Name × List Affine) → StatementTree → List (Name × List Affine)
statement_parameters names parameters (argument_array line name bits extents) = parameters ++ (name, or_one (affine_list names extents)) ∷ []
statement_parameters names parameters other = parameters

abbrev pub parameters_behind : Names → List (Name × List Affine) → HeadTree → List (Name × List Affine)
parameters_behind names parameters (program_head name arguments) = []
parameters_behind names parameters (statement_head s) = statement_parameters names parameters s
parameters_behind names parameters other = parameters

abbrev pub is_tasklet_statement : StatementTree → Bool
is_tasklet_statement (tasklet line body) = true
is_tasklet_statement other = false

-- a tasklet begins behind the line
abbrev pub begins_tasklet : (is_tasklet : Bool) → HeadTree → Bool
begins_tasklet is_tasklet (statement_head s) = is_tasklet_statement s
begins_tasklet is_tasklet (consume_head name element worker) = is_tasklet
begins_tasklet is_tasklet other = false

-- the connectors that a tasklet has before its first line: the element of a consume
abbrev pub first_connectors : HeadTree → ℕ
first_connectors (consume_head name element worker) = 1
first_connectors other = 0

-- a program begins with its first state, and a tasklet without a line
abbrev pub counted_behind : Names → Counts → BlockKind → (is_tasklet : Bool) → HeadTree → Counts
counted_behind names counts kind is_tasklet (program_head name arguments) = record no_counts { states = 1 }
counted_behind names counts kind is_tasklet head =
    let behind = counts_behind names counts kind head in
    if begins_tasklet is_tasklet head then record behind { connectors = first_connectors head; lines = 0 } else behind

-- a connector line may come behind another, and where a tasklet begins
abbrev pub connects_behind : (is_tasklet : Bool) → HeadTree → Bool
connects_behind is_tasklet head = if begins_tasklet is_tasklet head then true else is_connector head

-- what is known behind a line, before what it says goes where it belongs
abbrev pub known_behind : Context → (line : ℕ) → (is_tasklet : Bool) → HeadTree → Context
known_behind context line is_tasklet head = record context {
  names = names_behind context.names is_tasklet head;
  counts = counted_behind context.names context.counts context.block.kind is_tasklet head;
  parameters = parameters_behind context.names context.parameters head;
  written = written_behind context.names context.written head;
  connects = connects_behind is_tasklet head;
  awaited = awaited_behind line head;
}

abbrev pub context_after : Context → (line : ℕ) → (is_tasklet : Bool) → HeadTree → Context
context_after context line is_tasklet head = placed (in_force context.names) context.awaited line is_tasklet head (known_behind context line is_tasklet head)
