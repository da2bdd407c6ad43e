-- Which numbers stand against a line of a source, and where the line stands.
use Rattle.std.specs.Prelude.{◌≡◌, ◌≤◌, ℕ, zero, suc, nat_eq, List, [], ◌∷◌, Bool, true, false, ◌&&◌, ◌||◌, Ok, Err, if◌then◌else◌}
use Rattle.sd_line.specs.line.Head.{HeadTree}
use Rattle.sd_names.specs.Names.{Names}
use Rattle.sd_phrase.specs.declared.reading.Reading.{Reading}
use Rattle.sd_phrase.specs.declared.reading.Reading.TheVariants.{NoForm, TooDeep, Form}
use Rattle.sd_refusal.specs.declared.site.Site.{Site}
use Rattle.sd_refusal.specs.NotAForm.{is_no_form}
use Rattle.sd_uses.specs.UnknownName.{has_unknown_name}
use Rattle.sd_refusal.specs.NotAffine.{is_not_affine}
use Rattle.sd_uses.specs.Twice.{declares_twice}
use Rattle.sd_refusal.specs.BadResolution.{has_bad_resolution}
use Rattle.sd_refusal.specs.OverLimit.{is_over_limit}
use Rattle.sd_uses.specs.ShapeMismatch.{has_mismatch}
use Rattle.sd_context.specs.declared.context.awaiting.Wanted.{Wanted}
use Rattle.sd_context.specs.context.After.{context_after}
use Rattle.sd_context.specs.context.Awaiting.{comes_right, wrong_number, wanted_of}
use Rattle.sd_context.specs.context.Context.{Context, site_of}
use Rattle.sd_context.specs.blocks.Closing.{Step, and_then, closed, closed_times}
use Rattle.sd_context.specs.blocks.Continuing.{goes_on, left, with_branch_state}
use Rattle.sd_context.specs.blocks.Judging.{steps_of}
use Rattle.sd_source.specs.source.LineReading.{stands_here, said}
use Rattle.sd_line.specs.lines.Lines.{Line, opens_tasklet}

-- the least number of which this is true
abbrev pub IsLeast : (ℕ → Bool) → ℕ → Type 0
IsLeast stands number = (stands number ≡ true) × ((other : ℕ) → stands other ≡ true → number ≤ other)

-- the number stands against what a line says, by the names in force and the place of the line
abbrev pub stands_against_head : Names → Site → HeadTree → (number : ℕ) → Bool
stands_against_head names site head number =
    nat_eq number 4 && is_no_form names site head
    || nat_eq number 5 && has_unknown_name names site.kind head
    || nat_eq number 6 && is_not_affine names site.kind head
    || nat_eq number 7 && declares_twice names head
    || nat_eq number 8 && is_over_limit names site head
    || nat_eq number 9 && has_bad_resolution head
    || nat_eq number 10 && has_mismatch names head

-- the number stands against one of these, which stand on one line, each behind those before it
abbrev pub stands_against_heads : (line : ℕ) → (is_tasklet : Bool) → Context → List HeadTree → (number : ℕ) → Bool
stands_against_heads line is_tasklet context [] number = false
stands_against_heads line is_tasklet context (head ∷ heads) number =
    stands_against_head context.names (site_of context) head number
    || stands_against_heads line is_tasklet (context_after context line is_tasklet head) heads number

-- the line is an `elif` or `else` of the block that it closes last
abbrev pub continues_in : Step → Reading HeadTree → Bool
continues_in (Ok last) read = goes_on read last.block.opener
continues_in (Err refusal) read = false

abbrev pub continues : (closes : ℕ) → Reading HeadTree → Context → Bool
continues zero read context = false
continues (suc n) read context = continues_in (closed_times n context) read

-- behind the last block that a line closes, which an `elif` or `else` goes on with
abbrev pub behind_last : Reading HeadTree → Context → Step
behind_last read last =
    if goes_on read last.block.opener then and_then (with_branch_state last.block last) (λ next. Ok (left next.outer next)) else closed last

-- the context in which a line stands: the blocks that it closes have ended, unless a state that one of them ends with is one too many
abbrev pub place_behind : (closes : ℕ) → Reading HeadTree → Context → Step
place_behind zero read context = Ok context
place_behind (suc n) read context = and_then (closed_times n context) (behind_last read)

-- an `elif` or `else` goes on with its `if`; no other line is one, and a `def` stands exactly behind its decorator
abbrev pub is_in_place : (continues : Bool) → Wanted → HeadTree → Bool
is_in_place true wanted head = true
is_in_place false wanted head = stands_here wanted head

-- an `elif` or `else` is one of itself; a program's head comes before its arguments
abbrev pub said_by : (continues : Bool) → HeadTree → List HeadTree
said_by true head = head ∷ []
said_by false head = steps_of head

-- the number stands against a line that says this, in the context in which it stands
abbrev pub stands_in : (continues : Bool) → Wanted → (line : ℕ) → (rest : List Line) → Context → Reading HeadTree → (number : ℕ) → Bool
stands_in continues wanted line rest context NoForm number = nat_eq number 4
stands_in continues wanted line rest context TooDeep number = nat_eq number 8
stands_in continues wanted line rest context (Form head) number =
    if is_in_place continues wanted head then stands_against_heads line (opens_tasklet head rest) context (said_by continues head) number
    else nat_eq number 4

abbrev pub stands_at : (continues : Bool) → Wanted → (line : ℕ) → (rest : List Line) → Step → Reading HeadTree → (number : ℕ) → Bool
stands_at continues wanted line rest (Ok context) read number = stands_in continues wanted line rest context read number
stands_at continues wanted line rest (Err refusal) read number = false

-- where a line stands
abbrev pub place_of : Context → Line → Step
place_of context line = place_behind line.closes (said context line) context

-- the number stands against a line behind this context; where it opens no block that is awaited, or one that is not, or ends blocks where a `def` is awaited, it is 8 if it is too deep, and else 4
abbrev pub stands_against : Context → Line → (rest : List Line) → (number : ℕ) → Bool
stands_against context line rest number =
    if comes_right context.awaited line.opens line.closes
    then stands_at (continues line.closes (said context line) context) (wanted_of context.awaited) line.number rest (place_of context line) (said context line) number
    else nat_eq number (wrong_number (said context line))
