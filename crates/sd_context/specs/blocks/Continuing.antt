-- How an `elif` or `else` goes on with the `if` of the block before it.
use Rattle.std.specs.Prelude.{ℕ, List, [], ◌∷◌, Bool, true, false, Ok, if◌then◌else◌}
use Rattle.sd_lex.specs.PlainTree.{StatementTree}
use Rattle.sd_line.specs.line.Head.{HeadTree, elif_head, else_head}
use Rattle.sd_phrase.specs.declared.reading.Reading.{Reading}
use Rattle.sd_phrase.specs.declared.reading.Reading.TheVariants.{Form}
use Rattle.sd_refusal.specs.NotAForm.{is_program}
use Rattle.sd_context.specs.context.After.{known_behind}
use Rattle.sd_context.specs.context.Context.{Branch, Opener, if_block, else_block, OpenBlock, Context, in_force}
use Rattle.sd_context.specs.context.Placing.{opened}
use Rattle.sd_context.specs.blocks.Closing.{Step, and_then, with_states, left_by, branches_with}
use Rattle.sd_context.specs.blocks.Judging.{accepted, against}

abbrev pub is_elif_or_else : HeadTree → Bool
is_elif_or_else (elif_head when) = true
is_elif_or_else else_head = true
is_elif_or_else head = false

-- the line goes on with the `if` that opened the block
abbrev pub goes_on : Reading HeadTree → Opener → Bool
goes_on (Form head) (if_block earlier when) = is_elif_or_else head
goes_on read opener = false

-- the branches of an `if` whose last block had this line and these statements
abbrev pub branches_of : (line : ℕ) → List StatementTree → Opener → List Branch
branches_of line statements (if_block earlier when) = branches_with earlier (record { line = line; when = when; statements = statements })
branches_of line statements opener = []

abbrev pub next_opener : List Branch → HeadTree → Opener
next_opener branches (elif_head when) = if_block branches when
next_opener branches head = else_block branches

abbrev pub left : List OpenBlock → Context → Context
left [] context = context
left (about ∷ outer) context = left_by about outer context

-- the next block of an `if` whose last block this was
abbrev pub next_branch : OpenBlock → (line : ℕ) → HeadTree → Context → Context
next_branch last line head context =
    opened (in_force context.names) (next_opener (branches_of last.line last.statements last.opener) head) last.kind line 0 (known_behind context line false head)

abbrev pub next_judged : OpenBlock → (line : ℕ) → HeadTree → Context → Step
next_judged last line head context = accepted (against context head) line (next_branch last line head context)

-- behind a branch that is not the last its `if` has a state more, which counts at the line of the branch
abbrev pub with_branch_state : OpenBlock → Context → Step
with_branch_state last context = if is_program last.kind then with_states context (last.line ∷ []) else Ok context

-- the line takes the place of the innermost block, which is one of an `if`
abbrev pub continued : (line : ℕ) → Context → HeadTree → Step
continued line context head = and_then (with_branch_state context.block context) (λ next. next_judged next.block line head (left next.outer next))

abbrev pub continued_by : (line : ℕ) → Context → Reading HeadTree → Step
continued_by line context (Form head) = continued line context head
continued_by line context other = Ok context
