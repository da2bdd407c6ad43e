-- What comes of a block that ends.
use Rattle.std.specs.Prelude.{ℕ, zero, suc, ◌+◌, nat_lt, List, [], ◌∷◌, ◌++◌, map, take, reverse, Bool, true, false, Some, Result, Ok, Err, if◌then◌else◌}
use Rattle.sd_range.specs.declared.affine.Affine.{Affine}
use Rattle.sd_lex.specs.PlainTree.{StatementTree, map_scope, tasklet, consume_scope, for_loop, while_loop, branch, tasklet_branch, Block}
use Rattle.sd_lex.specs.TreeFold.{block_listed}
use Rattle.sd_line.specs.declared.line.head.BlockKind.{BlockKind}
use Rattle.sd_names.specs.declared.meaning.Meaning.TheVariants.{Program}
use Rattle.sd_names.specs.declared.meaning.Signature.{Signature}
use Rattle.sd_names.specs.declared.meaning.Parameter.{Parameter}
use Rattle.sd_refusal.specs.declared.site.Counts.{Counts}
use Rattle.sd_names.specs.Names.{Name, Names, with_meaning, is_among}
use Rattle.sd_refusal.specs.NotAForm.{is_program}
use Rattle.sd_refusal.specs.OverLimit.{is_tasklet}
use Rattle.sd_context.specs.context.Context.{Branch, Opener, function, statement, consumer, if_block, else_block, OpenBlock, Context}
use Rattle.sd_context.specs.context.Placing.{with_statements}
use Rattle.sd_context.specs.declared.blocks.refusal.Refusal.{Refusal}

-- a context, or the refusal of a line
abbrev pub Step : Type 0
Step = Result Context Refusal

abbrev pub and_then : Step → (Context → Step) → Step
and_then (Ok context) next = next context
and_then (Err refusal) next = Err refusal

-- one more state, which counts at this line
abbrev pub state_counted : Counts → (line : ℕ) → Result Counts Refusal
state_counted counts line = if nat_lt 255 counts.states then Err (record { number = 8; line = line }) else Ok (record counts { states = counts.states + 1 })

abbrev pub states_behind : Result Counts Refusal → (Counts → Result Counts Refusal) → Result Counts Refusal
states_behind (Ok counts) next = next counts
states_behind (Err refusal) next = Err refusal

abbrev pub states_counted : Counts → (lines : List ℕ) → Result Counts Refusal
states_counted counts [] = Ok counts
states_counted counts (line ∷ lines) = states_behind (state_counted counts line) (λ next. states_counted next lines)

abbrev pub with_counts : Context → Result Counts Refusal → Step
with_counts context (Ok counts) = Ok (record context { counts = counts })
with_counts context (Err refusal) = Err refusal

-- the context with one more state at each of these lines
abbrev pub with_states : Context → (lines : List ℕ) → Step
with_states context lines = with_counts context (states_counted context.counts lines)

-- the lines of branches, the last one first
abbrev pub lines_of : List Branch → List ℕ
lines_of branches = reverse (map (λ earlier. earlier.line) branches)

abbrev pub is_loop : StatementTree → Bool
is_loop (for_loop line name begin end step body) = true
is_loop (while_loop line when body) = true
is_loop other = false

-- a loop makes one, and an `if` one for each branch with a condition, those of the last branch first
abbrev pub opener_ends : (line : ℕ) → Opener → List ℕ
opener_ends line (statement s) = if is_loop s then line ∷ [] else []
opener_ends line (if_block earlier when) = line ∷ lines_of earlier
opener_ends line (else_block earlier) = lines_of earlier
opener_ends line other = []

-- the lines at which the states count that are made where the block ends
abbrev pub late_states : OpenBlock → List ℕ
late_states block = if is_program block.kind then opener_ends block.line block.opener else []

-- an `if` with the block behind its `else`
abbrev pub branch_with : BlockKind → Branch → (other : Block) → StatementTree
branch_with kind b other =
    if is_tasklet kind then tasklet_branch b.line b.when (block_listed b.statements) other else branch b.line b.when (block_listed b.statements) other

-- branches, each the block behind the `else` of the one before it
abbrev pub nested : BlockKind → List Branch → (other : List StatementTree) → List StatementTree
nested kind [] other = other
nested kind (b ∷ branches) other = branch_with kind b (block_listed (nested kind branches other)) ∷ []

abbrev pub with_body : StatementTree → Block → StatementTree
with_body (map_scope line parameters ranges empty) body = map_scope line parameters ranges body
with_body (tasklet line empty) body = tasklet line body
with_body (for_loop line name begin end step empty) body = for_loop line name begin end step body
with_body (while_loop line when empty) body = while_loop line when body
with_body other body = other

abbrev pub branches_with : List Branch → Branch → List Branch
branches_with earlier last = earlier ++ last ∷ []

abbrev pub finished_by : BlockKind → (line : ℕ) → Opener → List StatementTree → List StatementTree
finished_by kind line (statement s) statements = with_body s (block_listed statements) ∷ []
finished_by kind line (consumer at stream size name element worker) statements =
    consume_scope at stream size name element worker (block_listed statements) ∷ []
finished_by kind line (if_block earlier when) statements = nested kind (branches_with earlier (record { line = line; when = when; statements = statements })) []
finished_by kind line (else_block earlier) statements = nested kind earlier statements
finished_by kind line other statements = []

-- the statement of a block that ends
abbrev pub finished : OpenBlock → List StatementTree
finished block = finished_by block.kind block.line block.opener block.statements

-- containers stay in force behind the blocks of loops and branches
abbrev pub keeps_containers : Opener → Bool
keeps_containers (statement s) = is_loop s
keeps_containers (if_block earlier when) = true
keeps_containers (else_block earlier) = true
keeps_containers other = false

-- the names in force behind a block
abbrev pub names_outside : OpenBlock → Names → Names
names_outside block names = record names {
  meanings = take block.before.meanings names.meanings;
  containers = if keeps_containers block.opener then names.containers else take block.before.containers names.containers;
}

abbrev pub parameter_of : (written : List Name) → Name × List Affine → Parameter
parameter_of written parameter = record { extents = parameter.1; is_written = is_among written parameter.0 }

-- what a call of the program needs
abbrev pub signature_of : (written : List Name) → List (Name × List Affine) → (depth : ℕ) → Signature
signature_of written parameters depth = record { parameters = map (parameter_of written) parameters; depth = depth }

-- behind a program: no container of it is in force, and it may be called
abbrev pub with_function : (name : Name) → (line : ℕ) → (body : Block) → Context → Context
with_function name line body context = record context {
  names = with_meaning (record context.names { containers = []; declared = [] }) name (Program (Some (signature_of context.written context.parameters context.counts.calls)));
  arguments = [];
  parameters = [];
  functions = context.functions ++ record { name = name; line = line; arguments = block_listed context.arguments; body = body } ∷ [];
}

-- in the block about the innermost one, with the names behind that one
abbrev pub left_by : OpenBlock → List OpenBlock → Context → Context
left_by about outer context = record context { names = names_outside context.block context.names; block = about; outer = outer }

-- a program goes to the file, each other block to the statements of the block about it
abbrev pub closed_by : Opener → OpenBlock → List OpenBlock → Context → Context
closed_by (function name) about outer context =
    with_function name context.block.line (block_listed context.block.statements) (left_by about outer context)
closed_by other about outer context = with_statements (finished context.block) (left_by about outer context)

-- behind the innermost block, whose states are counted; the file has no end
abbrev pub closed_into : List OpenBlock → Context → Context
closed_into [] context = context
closed_into (about ∷ outer) context = closed_by context.block.opener about outer context

abbrev pub closed : Context → Step
closed context = and_then (with_states context (late_states context.block)) (λ next. Ok (closed_into next.outer next))

abbrev pub closed_times : ℕ → Context → Step
closed_times zero context = Ok context
closed_times (suc n) context = and_then (closed context) (closed_times n)

-- all these blocks end, and no state is counted
abbrev pub closed_all : List OpenBlock → Context → Context
closed_all [] context = context
closed_all (about ∷ outer) context = closed_all outer (closed_by context.block.opener about outer context)
