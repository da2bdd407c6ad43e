-- How one line is read: the blocks that it closes end, and then it is judged in the block where it stands.
use Rattle.std.specs.Prelude.{ℕ, zero, suc, List, [], ◌∷◌, not, ◌&&◌, Bool, false, if◌then◌else◌}
use Rattle.sd_line.specs.declared.line.head.BlockKind.{BlockKind}
use Rattle.sd_line.specs.declared.line.head.BlockKind.TheVariants.{Top}
use Rattle.sd_line.specs.line.Head.{HeadTree}
use Rattle.sd_phrase.specs.declared.reading.Reading.{Reading}
use Rattle.sd_phrase.specs.declared.reading.Reading.TheVariants.{NoForm, TooDeep, Form}
use Rattle.sd_context.specs.context.Awaiting.{comes_right, wrong_number, wanted_of, is_wanted}
use Rattle.sd_context.specs.context.Context.{Awaited, block, OpenBlock, Context}
use Rattle.sd_context.specs.declared.context.awaiting.Wanted.{Wanted}
use Rattle.sd_context.specs.blocks.Closing.{Step, and_then, closed, closed_times}
use Rattle.sd_context.specs.blocks.Continuing.{is_elif_or_else, goes_on, continued_by}
use Rattle.sd_context.specs.blocks.Judging.{refused, judged}
use Rattle.sd_line.specs.lines.Lines.{Line, opens_tasklet}

-- an `elif` or `else` goes on with no `if` where its block is the innermost one, and a `def` stands where it is wanted
abbrev pub stands_here : Wanted → HeadTree → Bool
stands_here wanted head = not (is_elif_or_else head) && is_wanted wanted head

-- a head whose block is the innermost one
abbrev pub judged_here : Wanted → (number : ℕ) → (rest : List Line) → Context → HeadTree → Step
judged_here wanted number rest context head = if stands_here wanted head then judged context number (opens_tasklet head rest) head else refused 4 number

abbrev pub by_tokens : Wanted → (number : ℕ) → (rest : List Line) → Context → Reading HeadTree → Step
by_tokens wanted number rest context NoForm = refused 4 number
by_tokens wanted number rest context TooDeep = refused 8 number
by_tokens wanted number rest context (Form head) = judged_here wanted number rest context head

-- the last block that the line closes is the innermost one
abbrev pub behind_last_block : Wanted → (number : ℕ) → (rest : List Line) → Reading HeadTree → Context → Step
behind_last_block wanted number rest read context =
    if goes_on read context.block.opener then continued_by number context read
    else and_then (closed context) (λ next. by_tokens wanted number rest next read)

abbrev pub behind_blocks : Wanted → (number : ℕ) → (rest : List Line) → Reading HeadTree → (closes : ℕ) → Context → Step
behind_blocks wanted number rest read zero context = by_tokens wanted number rest context read
behind_blocks wanted number rest read (suc n) context = and_then (closed_times n context) (behind_last_block wanted number rest read)

-- the kind of the block that is so many blocks about the first of these
abbrev pub kind_in : List OpenBlock → ℕ → BlockKind
kind_in [] n = Top
kind_in (first ∷ blocks) zero = first.kind
kind_in (first ∷ blocks) (suc n) = kind_in blocks n

-- the kind of block in which a line stands that closes so many; a block that is awaited and that it does not open is none of them
abbrev pub kind_at : Awaited → OpenBlock → (outer : List OpenBlock) → (opens : Bool) → (closes : ℕ) → BlockKind
kind_at block innermost outer false closes = kind_in outer closes
kind_at awaited innermost outer opens closes = kind_in (innermost ∷ outer) closes

-- what a line says where it stands
abbrev pub said : Context → Line → Reading HeadTree
said context line = line.head (kind_at context.awaited context.block context.outer line.opens line.closes)

-- a line, with the lines behind it
abbrev pub line_read : Context → Line → (rest : List Line) → Step
line_read context line rest =
    if comes_right context.awaited line.opens line.closes
    then behind_blocks (wanted_of context.awaited) line.number rest (said context line) line.closes context
    else refused (wrong_number (said context line)) line.number
