-- Each line that is accepted keeps what holds between lines.
use Rattle.std.proofs.Common.{◌≡◌, inl, inr, ℕ, List, [], ◌∷◌, ◌++◌, Bool, true, Option, refl, sym, subst}
use Rattle.std.specs.List.{AllByRecursion}
use Rattle.sd_lex.specs.PlainTree.{Expressions, StatementTree, argument_array, map_scope, tasklet, consume_scope, for_loop, while_loop, branch, tasklet_branch}
use Rattle.sd_phrase.specs.declared.reading.Reading.TheVariants.{Form}
use Rattle.sd_line.specs.declared.line.head.BlockKind.{BlockKind}
use Rattle.sd_line.specs.declared.line.head.BlockKind.TheVariants.{Top, Program, Scope, Tasklet}
use Rattle.sd_line.specs.line.Head.{HeadTree, import_line, symbol_line, program_decorator, program_head, statement_head, reduce_head, input_head, output_head, consume_decorator, consume_head, elif_head, else_head}
use Rattle.sd_names.specs.Names.{Name}
use Rattle.sd_refusal.specs.declared.site.Counts.{Counts}
use Rattle.sd_context.specs.context.After.{context_after}
use Rattle.sd_context.specs.context.Placing.{consumer_of}
use Rattle.sd_context.specs.context.Context.{Branch, Opener, if_block, OpenBlock, Awaited, nothing, block, function_def, consume_def, Context, opening}
use Rattle.sd_context.specs.blocks.Continuing.{goes_on, branches_of, next_opener}
use Rattle.sd_program.specs.Every.{Every}
use Rattle.sd_read.proofs.readable_lemmas.kept.AheadKept.{other_awaits}
use Rattle.sd_read.proofs.readable_lemmas.kept.Heads.{Fits, AreNested}
use Rattle.sd_read.proofs.readable_lemmas.kept.Steps.{goes_on_is, IsWellNested, behind_other}
use Rattle.sd_read.proofs.readable_lemmas.kept.Trees.{all-more, of_line}
use Rattle.sd_read.specs.blocks.Blocks.{HasBlock}
use Rattle.sd_read.proofs.blocks_lemmas.Filled.{HasSome, AreWritten, IsWhole, HasWhole, IsFine, IsBegun, IsFilled, some_more, some_of, file_of}

-- one statement more in a block
more : (b : OpenBlock) (s : StatementTree) → Every HasBlock s → IsFine b → IsFine (record b { statements = b.statements ++ s ∷ [] })
more b s written fine = (fine.0, all-more (Every HasBlock) b.statements s fine.1 written)

pub opening_filled : IsFilled opening
opening_filled = (inl tt, ((tt, tt), (tt, (tt, tt))))

pub argument_filled : (context : Context) (line : ℕ) (is_tasklet : Bool) (at : ℕ) (name : Name) (bits : ℕ) (extents : Expressions) → IsFilled context →
    IsFilled (context_after context line is_tasklet (statement_head (argument_array at name bits extents)))
argument_filled context line is_tasklet at name bits extents good =
    (tt, (good.1.0, (good.1.1.0, (all-more (Every HasBlock) context.arguments (argument_array at name bits extents) good.1.1.1.0 tt, good.1.1.1.1))))

statement_filled : (context : Context) (line : ℕ) (is_tasklet : Bool) (s : StatementTree) → Fits context.block.kind (statement_head s) → IsFilled context → IsFilled (context_after context line is_tasklet (statement_head s))
statement_filled context line is_tasklet (argument_array at name bits extents) fit good = argument_filled context line is_tasklet at name bits extents good
statement_filled context line is_tasklet (map_scope at parameters ranges body) fit good = (tt, ((tt, tt), ((good.1.0, good.1.1.0), good.1.1.1)))
statement_filled context line is_tasklet (tasklet at body) fit good = (tt, ((tt, tt), ((good.1.0, good.1.1.0), good.1.1.1)))
statement_filled context line is_tasklet (for_loop at name begin end step body) fit good = (tt, ((tt, tt), ((good.1.0, good.1.1.0), good.1.1.1)))
statement_filled context line is_tasklet (while_loop at when body) fit good = (tt, ((tt, tt), ((good.1.0, good.1.1.0), good.1.1.1)))
statement_filled context line is_tasklet (branch at when body other) fit good = (tt, ((tt, tt), ((good.1.0, good.1.1.0), good.1.1.1)))
statement_filled context line is_tasklet (tasklet_branch at when body other) fit good = (tt, ((tt, tt), ((good.1.0, good.1.1.0), good.1.1.1)))
statement_filled context line is_tasklet (consume_scope at from size name element worker body) fit good = absurd (of_line context.block.kind (consume_scope at from size name element worker body) fit)
statement_filled context line is_tasklet s fit good = (inr (some_more context.block.statements s), (more context.block s tt good.1.0, good.1.1))

-- an import stands at top level, and so does a size symbol
import_top : (kind : BlockKind) → Fits kind import_line → kind ≡ Top
import_top Top fit = refl
import_top Program fit = absurd fit
import_top Scope fit = absurd fit
import_top Tasklet fit = absurd fit

symbol_top : (kind : BlockKind) (name quoted : Name) → Fits kind (symbol_line name quoted) → kind ≡ Top
symbol_top Top name quoted fit = refl
symbol_top Program name quoted fit = absurd fit
symbol_top Scope name quoted fit = absurd fit
symbol_top Tasklet name quoted fit = absurd fit

consumer_whole : (before : Awaited) (name element : Name) (worker : Option Name) → HasWhole (consumer_of before name element worker)
consumer_whole nothing name element worker = tt
consumer_whole block name element worker = tt
consumer_whole (function_def line) name element worker = tt
consumer_whole (consume_def line from size) name element worker = tt

pub pass_filled : (context : Context) (line : ℕ) (is_tasklet : Bool) (head : HeadTree) → Fits context.block.kind head → IsWellNested context → IsFilled context → IsFilled (context_after context line is_tasklet head)
pass_filled context line is_tasklet import_line fit shape good = (inl (file_of context.block context.outer shape (import_top context.block.kind fit)), good.1)
pass_filled context line is_tasklet (symbol_line name quoted) fit shape good = (inl (file_of context.block context.outer shape (symbol_top context.block.kind name quoted fit)), good.1)
pass_filled context line is_tasklet program_decorator fit shape good = (tt, good.1)
pass_filled context line is_tasklet (program_head name arguments) fit shape good = (tt, ((tt, tt), ((good.1.0, good.1.1.0), (tt, good.1.1.1.1))))
pass_filled context line is_tasklet (statement_head s) fit shape good = statement_filled context line is_tasklet s fit good
pass_filled context line is_tasklet (reduce_head lambda from to axis identity) fit shape good = (inr (some_more context.block.statements _), (more context.block _ tt good.1.0, good.1.1))
pass_filled context line is_tasklet (input_head connector memlet) fit shape good = (inr (some_more context.block.statements _), (more context.block _ tt good.1.0, good.1.1))
pass_filled context line is_tasklet (output_head connector memlet) fit shape good = (inr (some_more context.block.statements _), (more context.block _ tt good.1.0, good.1.1))
pass_filled context line is_tasklet (consume_decorator from size) fit shape good = (tt, good.1)
pass_filled context line is_tasklet (consume_head name element worker) fit shape good = (tt, ((consumer_whole context.awaited name element worker, tt), ((good.1.0, good.1.1.0), good.1.1.1)))
pass_filled context line is_tasklet (elif_head when) fit shape good = (tt, good.1)
pass_filled context line is_tasklet else_head fit shape good = (tt, good.1)

-- ---- an `elif` or `else`

branches_whole : (line : ℕ) (statements : List StatementTree) (opener : Opener) → HasWhole opener → HasSome statements → AreWritten statements → AllByRecursion IsWhole (branches_of line statements opener)
branches_whole line statements (if_block earlier when) whole some all =
    all-more IsWhole earlier (record { line = line; when = when; statements = statements }) whole (some, all)
branches_whole line statements opener whole some all = tt

next_whole : (branches : List Branch) (head : HeadTree) → AllByRecursion IsWhole branches → HasWhole (next_opener branches head)
next_whole branches (elif_head when) all = all
next_whole branches head all = all

pub other_filled : (context : Context) (counts : Counts) (about : OpenBlock) (outer : List OpenBlock) (line : ℕ) (head : HeadTree) → context.awaited ≡ nothing → context.outer ≡ about ∷ outer →
    goes_on (Form head) context.block.opener ≡ true → IsWellNested context → IsFilled context → IsFilled (behind_other context counts about outer line head)
other_filled context counts about outer line head free is on shape good =
    let b : OpenBlock = context.block in
    let inside : AreNested b (about ∷ outer) = subst (AreNested b) is shape in
    let some : HasSome b.statements = some_of about.kind b.kind b.opener b.statements inside.0 (subst (λ awaited. IsBegun awaited b) free good.0) in
    let next : OpenBlock = (behind_other context counts about outer line head).block in (
      subst (λ awaited. IsBegun awaited next) (sym (other_awaits line head (goes_on_is head b.opener on))) tt,
      (
        (next_whole (branches_of b.line b.statements b.opener) head (branches_whole b.line b.statements b.opener good.1.0.0 some good.1.0.1), tt),
        (subst (AllByRecursion IsFine) is good.1.1.0, good.1.1.1),
      ),
    )
