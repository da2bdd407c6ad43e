-- What holds of each statement as its line is accepted holds of the whole program.
use Rattle.std.proofs.Common.{◌≡◌, ℕ, ℤ, pos, List, [], ◌∷◌, ◌++◌, Bool, true, false, if◌then◌else◌, Option, refl, sym, subst}
use Rattle.std.specs.Bool.{⊤}
use Rattle.std.specs.List.{AllByRecursion}
use Rattle.sd_lex.specs.PlainTree.{Expression, Expressions, StatementTree, argument_array, local_array, local_stream, assign, copy, reduce, map_scope, tasklet, consume_scope, call, for_loop, while_loop, branch, input, output, set, set_at, tasklet_branch, Block, no_statement}
use Rattle.sd_lex.specs.TreeFold.{block_listed}
use Rattle.sd_lex.specs.declared.syntax.memlet.Lambda.{Lambda}
use Rattle.sd_phrase.specs.Memlet.{MemletTree}
use Rattle.sd_line.specs.declared.line.head.BlockKind.{BlockKind}
use Rattle.sd_line.specs.declared.line.head.BlockKind.TheVariants.{Top, Program, Scope, Tasklet}
use Rattle.sd_line.specs.line.Head.{HeadTree, import_line, symbol_line, program_decorator, program_head, statement_head, reduce_head, input_head, output_head, consume_decorator, consume_head, elif_head, else_head}
use Rattle.sd_names.specs.Names.{Name, Names}
use Rattle.sd_refusal.specs.OverLimit.{is_tasklet}
use Rattle.sd_refusal.specs.declared.site.Site.{Site}
use Rattle.sd_context.specs.context.Context.{Branch, Opener, file, function, statement, consumer, if_block, else_block, OpenBlock, Awaited, nothing, block, function_def, consume_def, Context, site_of}
use Rattle.sd_context.specs.context.After.{context_after}
use Rattle.sd_context.specs.context.Placing.{memlet_of, consumer_of, consume_kind}
use Rattle.sd_context.specs.blocks.Closing.{branch_with, nested, with_body, finished_by, finished, closed_by, closed_into}
use Rattle.sd_context.specs.blocks.Continuing.{goes_on, branches_of, next_opener}
use Rattle.sd_read.proofs.readable_lemmas.kept.Heads.{GoesOn, AreExtents, IsOfLine, IsBodyStatement, IsTaskletStatement, Fits, Opens, IsOpenedIn, AreNested}
use Rattle.sd_read.proofs.readable_lemmas.kept.Passing.{Passes, passes}
use Rattle.sd_refusal.specs.declared.site.Counts.{Counts}
use Rattle.sd_phrase.specs.declared.reading.Reading.TheVariants.{Form}
use Rattle.sd_program.specs.Limits.{HasSmallTask}
use Rattle.sd_read.proofs.readable_lemmas.kept.Ahead.{EndsRight}
use Rattle.sd_read.proofs.readable_lemmas.kept.Steps.{IsWellNested, IsAccepted, Keeps, behind_branch, behind_other}
use Rattle.sd_read.proofs.readable_lemmas.kept.Nesting.{same_kind}
use Rattle.sd_program.specs.Every.{Every, EveryIn, EveryOf}

-- one more at the end
pub all-more : {A : Type 0} (P : A → Type 0) (xs : List A) (x : A) → AllByRecursion P xs → P x → AllByRecursion P (xs ++ x ∷ [])
all-more P [] x all holds = (holds, tt)
all-more P (first ∷ rest) x all holds = (all.0, all-more P rest x all.1 holds)

pub all-joined : {A : Type 0} (P : A → Type 0) (xs ys : List A) → AllByRecursion P xs → AllByRecursion P ys → AllByRecursion P (xs ++ ys)
all-joined P [] ys all others = others
all-joined P (first ∷ rest) ys all others = (all.0, all-joined P rest ys all.1 others)

-- a statement without the blocks below it
abbrev pub bare : StatementTree → StatementTree
bare (map_scope line parameters ranges body) = map_scope line parameters ranges no_statement
bare (tasklet line body) = tasklet line no_statement
bare (consume_scope line from size name element worker body) = consume_scope line from size name element worker no_statement
bare (for_loop line name begin end step body) = for_loop line name begin end step no_statement
bare (while_loop line when body) = while_loop line when no_statement
bare (branch line when body other) = branch line when no_statement no_statement
bare (tasklet_branch line when body other) = tasklet_branch line when no_statement no_statement
bare s = s

-- a line's statement
of_body : (kind : BlockKind) (s : StatementTree) → IsBodyStatement kind s → IsOfLine s
of_body kind (argument_array line name bits extents) fit = absurd fit
of_body kind (local_array line name extents bits) fit = fit
of_body kind (local_stream line name bits size) fit = fit
of_body kind (assign line name at add value) fit = fit.0
of_body kind (copy line to to_dimensions from from_dimensions) fit = fit
of_body kind (reduce line lambda from to axis identity) fit = fit
of_body kind (map_scope line parameters ranges body) fit = fit
of_body kind (tasklet line body) fit = fit
of_body kind (consume_scope line from size name element worker body) fit = fit
of_body kind (call line name arguments) fit = fit
of_body kind (for_loop line name begin end step body) fit = fit
of_body kind (while_loop line when body) fit = fit
of_body kind (branch line when body other) fit = fit
of_body kind (input line connector memlet) fit = fit
of_body kind (output line connector memlet) fit = fit
of_body kind (set line name value) fit = absurd fit
of_body kind (set_at line name at value) fit = absurd fit
of_body kind (tasklet_branch line when body other) fit = absurd fit

of_tasklet : (s : StatementTree) → IsTaskletStatement s → IsOfLine s
of_tasklet (argument_array line name bits extents) fit = absurd fit
of_tasklet (local_array line name extents bits) fit = absurd fit
of_tasklet (local_stream line name bits size) fit = absurd fit
of_tasklet (assign line name at add value) fit = absurd fit
of_tasklet (copy line to to_dimensions from from_dimensions) fit = absurd fit
of_tasklet (reduce line lambda from to axis identity) fit = absurd fit
of_tasklet (map_scope line parameters ranges body) fit = absurd fit
of_tasklet (tasklet line body) fit = absurd fit
of_tasklet (consume_scope line from size name element worker body) fit = absurd fit
of_tasklet (call line name arguments) fit = absurd fit
of_tasklet (for_loop line name begin end step body) fit = absurd fit
of_tasklet (while_loop line when body) fit = absurd fit
of_tasklet (branch line when body other) fit = absurd fit
of_tasklet (input line connector memlet) fit = absurd fit
of_tasklet (output line connector memlet) fit = absurd fit
of_tasklet (set line name value) fit = fit
of_tasklet (set_at line name at value) fit = fit
of_tasklet (tasklet_branch line when body other) fit = fit

pub of_line : (kind : BlockKind) (s : StatementTree) → Fits kind (statement_head s) → IsOfLine s
of_line Top s fit = absurd fit
of_line Program s fit = of_body Program s fit
of_line Scope s fit = of_body Scope s fit
of_line Tasklet s fit = of_tasklet s fit

-- the steps of a connector's subset
pub input_fits : (kind : BlockKind) (connector : Name) (memlet : MemletTree) → Fits kind (input_head connector memlet) → AllByRecursion GoesOn memlet.dimensions
input_fits Top connector memlet fit = absurd fit
input_fits Program connector memlet fit = absurd fit
input_fits Scope connector memlet fit = absurd fit
input_fits Tasklet connector memlet fit = fit

pub output_fits : (kind : BlockKind) (connector : Name) (memlet : MemletTree) → Fits kind (output_head connector memlet) → AllByRecursion GoesOn memlet.dimensions
output_fits Top connector memlet fit = absurd fit
output_fits Program connector memlet fit = absurd fit
output_fits Scope connector memlet fit = absurd fit
output_fits Tasklet connector memlet fit = fit

-- the tasklet that ends is small
abbrev pub EndsSmall : Opener → List StatementTree → Type 0
EndsSmall (statement s) statements = HasSmallTask (with_body s (block_listed statements))
EndsSmall (consumer line from size name element worker) statements = HasSmallTask (consume_scope line from size name element worker (block_listed statements))
EndsSmall opener statements = ⊤

module _ (Holds : StatementTree → Type 0) where
  -- it holds of the statement of each line that is accepted, whatever the blocks below are
  pub record HoldsOfLines : Type 0 where
    pub fill : (s : StatementTree) → HasSmallTask s → Holds (bare s) → Holds s
    -- whatever the line of a branch is
    pub moved : (line other : ℕ) (when : Expression) → Holds (branch line when no_statement no_statement) → Holds (branch other when no_statement no_statement)
    pub moved_inside : (line other : ℕ) (when : Expression) → Holds (tasklet_branch line when no_statement no_statement) → Holds (tasklet_branch other when no_statement no_statement)
    pub said : (names : Names) (site : Site) (s : StatementTree) → IsOfLine s → Passes names site (statement_head s) → Holds (bare s)
    pub reduced : (line : ℕ) (lambda : Lambda) (from to : Name) (axis identity : Option ℤ) → Holds (reduce line lambda from to axis identity)
    pub taken : (line : ℕ) (from : Name) (size : ℤ) (name element : Name) (worker : Option Name) → Holds (consume_scope line from size name element worker no_statement)
    pub put_in : (names : Names) (site : Site) (line : ℕ) (connector : Name) (memlet : MemletTree) → AllByRecursion GoesOn memlet.dimensions → Passes names site (input_head connector memlet) → Holds (input line connector (memlet_of memlet))
    pub put_out : (names : Names) (site : Site) (line : ℕ) (connector : Name) (memlet : MemletTree) → AllByRecursion GoesOn memlet.dimensions → Passes names site (output_head connector memlet) → Holds (output line connector (memlet_of memlet))
    pub other : (names : Names) (site : Site) (line : ℕ) (when : Expression) → Passes names site (elif_head when) →
        Holds (branch_with site.kind (record { line = line; when = when; statements = [] }) no_statement)

  abbrev AllHold : List StatementTree → Type 0
  AllHold statements = AllByRecursion (Every Holds) statements

  -- a branch that has ended
  abbrev IsGoodBranch : BlockKind → Branch → Type 0
  IsGoodBranch kind b = Holds (branch_with kind (record { line = b.line; when = b.when; statements = [] }) no_statement) × AllHold b.statements

  abbrev IsGoodOpener : BlockKind → (line : ℕ) → Opener → Type 0
  IsGoodOpener kind line file = ⊤
  IsGoodOpener kind line (function name) = ⊤
  IsGoodOpener kind line (statement s) = Holds (bare s)
  IsGoodOpener kind line (consumer at from size name element worker) = Holds (consume_scope at from size name element worker no_statement)
  IsGoodOpener kind line (if_block earlier when) =
      AllByRecursion (IsGoodBranch kind) earlier × Holds (branch_with kind (record { line = line; when = when; statements = [] }) no_statement)
  IsGoodOpener kind line (else_block earlier) = AllByRecursion (IsGoodBranch kind) earlier

  abbrev IsGoodBlock : OpenBlock → Type 0
  IsGoodBlock inner = IsGoodOpener inner.kind inner.line inner.opener × AllHold inner.statements

  -- it holds of all that was read
  abbrev pub HoldsSoFar : Context → Type 0
  HoldsSoFar context = IsGoodBlock context.block × (AllByRecursion IsGoodBlock context.outer × (AllHold context.arguments × AllByRecursion (EveryOf Holds) context.functions))

  listed : (statements : List StatementTree) → AllHold statements → EveryIn Holds (block_listed statements)
  listed [] all = tt
  listed (first ∷ rest) all = (all.0, listed rest all.1)

  module _ (lines : HoldsOfLines) where
    branch_holds : (kind : BlockKind) (b : Branch) (other : Block) → IsGoodBranch kind b → EveryIn Holds other → Every Holds (branch_with kind b other)
    branch_holds kind b other good others = by_kind (is_tasklet kind) good.0 where
      by_kind : (test : Bool) →
          Holds (if test then tasklet_branch b.line b.when no_statement no_statement else branch b.line b.when no_statement no_statement) →
          Every Holds (if test then tasklet_branch b.line b.when (block_listed b.statements) other else branch b.line b.when (block_listed b.statements) other)
      by_kind true holds = (lines.fill (tasklet_branch b.line b.when (block_listed b.statements) other) tt holds, (listed b.statements good.1, others))
      by_kind false holds = (lines.fill (branch b.line b.when (block_listed b.statements) other) tt holds, (listed b.statements good.1, others))

    nested_hold : (kind : BlockKind) (branches : List Branch) (other : List StatementTree) → AllByRecursion (IsGoodBranch kind) branches → AllHold other → AllHold (nested kind branches other)
    nested_hold kind [] other good others = others
    nested_hold kind (b ∷ branches) other good others =
        (branch_holds kind b (block_listed (nested kind branches other)) good.0 (listed (nested kind branches other) (nested_hold kind branches other good.1 others)), tt)

    body_holds : (kind : BlockKind) (s : StatementTree) (body : Block) → Opens kind s → HasSmallTask (with_body s body) → Holds (bare s) → EveryIn Holds body → Every Holds (with_body s body)
    body_holds kind (argument_array line name bits extents) body opens small holds inside = absurd opens
    body_holds kind (local_array line name extents bits) body opens small holds inside = absurd opens
    body_holds kind (local_stream line name bits size) body opens small holds inside = absurd opens
    body_holds kind (assign line name at add value) body opens small holds inside = absurd opens
    body_holds kind (copy line to to_dimensions from from_dimensions) body opens small holds inside = absurd opens
    body_holds kind (reduce line lambda from to axis identity) body opens small holds inside = absurd opens
    body_holds kind (map_scope line parameters ranges empty) body opens small holds inside = (lines.fill (map_scope line parameters ranges body) tt holds, inside)
    body_holds kind (tasklet line empty) body opens small holds inside = (lines.fill (tasklet line body) small holds, inside)
    body_holds kind (consume_scope line from size name element worker empty) body opens small holds inside = absurd opens
    body_holds kind (call line name arguments) body opens small holds inside = absurd opens
    body_holds kind (for_loop line name begin end step empty) body opens small holds inside = (lines.fill (for_loop line name begin end step body) tt holds, inside)
    body_holds kind (while_loop line when empty) body opens small holds inside = (lines.fill (while_loop line when body) tt holds, inside)
    body_holds kind (branch line when empty other) body opens small holds inside = absurd opens
    body_holds kind (input line connector memlet) body opens small holds inside = absurd opens
    body_holds kind (output line connector memlet) body opens small holds inside = absurd opens
    body_holds kind (set line name value) body opens small holds inside = absurd opens
    body_holds kind (set_at line name at value) body opens small holds inside = absurd opens
    body_holds kind (tasklet_branch line when empty other) body opens small holds inside = absurd opens

    finished_hold : (about kind : BlockKind) (line : ℕ) (opener : Opener) (statements : List StatementTree) → IsOpenedIn about kind opener → IsGoodOpener kind line opener → AllHold statements →
        EndsSmall opener statements → AllHold (finished_by kind line opener statements)
    finished_hold about kind line file statements opened good all small = tt
    finished_hold about kind line (function name) statements opened good all small = tt
    finished_hold about kind line (statement s) statements opened good all small = (body_holds kind s (block_listed statements) opened.1 small good (listed statements all), tt)
    finished_hold about kind line (consumer at from size name element worker) statements opened good all small =
        ((lines.fill (consume_scope at from size name element worker (block_listed statements)) small good, listed statements all), tt)
    finished_hold about kind line (if_block earlier when) statements opened good all small =
        nested_hold kind (earlier ++ record { line = line; when = when; statements = statements } ∷ []) []
        (all-more (IsGoodBranch kind) earlier (record { line = line; when = when; statements = statements }) good.0 (good.1, all)) tt
    finished_hold about kind line (else_block earlier) statements opened good all small = nested_hold kind earlier statements good all

    close_holds : (outer : List OpenBlock) (context : Context) → context.outer ≡ outer → AreNested context.block outer → IsGoodBlock context.block → AllByRecursion IsGoodBlock outer →
        AllHold context.arguments → AllByRecursion (EveryOf Holds) context.functions → EndsSmall context.block.opener context.block.statements → HoldsSoFar (closed_into outer context)
    close_holds [] context is shape inner outer arguments functions small = (inner, (subst (AllByRecursion IsGoodBlock) (sym is) outer, (arguments, functions)))
    close_holds (about ∷ rest) context is shape inner outer arguments functions small = by_opener context.block.opener where
      finished_now : AllHold (finished context.block)
      finished_now = finished_hold about.kind context.block.kind context.block.line context.block.opener context.block.statements shape.0 inner.0 inner.1 small

      joined : AllHold (about.statements ++ finished context.block)
      joined = all-joined (Every Holds) about.statements (finished context.block) outer.0.1 finished_now

      by_opener : (opener : Opener) → HoldsSoFar (closed_by opener about rest context)
      by_opener file = ((outer.0.0, joined), (outer.1, (arguments, functions)))
      by_opener (function name) =
          (outer.0, (outer.1, (tt, all-more (EveryOf Holds) context.functions _ functions (listed context.arguments arguments, listed context.block.statements inner.1))))
      by_opener (statement s) = ((outer.0.0, joined), (outer.1, (arguments, functions)))
      by_opener (consumer line from size name element worker) = ((outer.0.0, joined), (outer.1, (arguments, functions)))
      by_opener (if_block earlier when) = ((outer.0.0, joined), (outer.1, (arguments, functions)))
      by_opener (else_block earlier) = ((outer.0.0, joined), (outer.1, (arguments, functions)))

    said_now : (context : Context) (s : StatementTree) → Fits context.block.kind (statement_head s) → IsAccepted context (statement_head s) → Holds (bare s)
    said_now context s fit accepted' = lines.said context.names (site_of context) s (of_line context.block.kind s fit) (passes context.names (site_of context) (statement_head s) accepted')

    -- one statement more in the innermost block
    more : (inner : OpenBlock) (s : StatementTree) → IsGoodBlock inner → Every Holds s → IsGoodBlock (record inner { statements = inner.statements ++ s ∷ [] })
    more inner s good holds = (good.0, all-more (Every Holds) inner.statements s good.1 holds)

    statement_holds : (context : Context) (line : ℕ) (is_tasklet : Bool) (s : StatementTree) → Fits context.block.kind (statement_head s) → IsAccepted context (statement_head s) → HoldsSoFar context →
        HoldsSoFar (context_after context line is_tasklet (statement_head s))
    statement_holds context line is_tasklet (argument_array at_line name bits extents) fit accepted' good =
        (good.0, (good.1.0, (all-more (Every Holds) context.arguments _ good.1.1.0 (said_now context (argument_array at_line name bits extents) fit accepted'), good.1.1.1)))
    statement_holds context line is_tasklet (local_array at_line name extents bits) fit accepted' good = (more context.block (local_array at_line name extents bits) good.0 (said_now context (local_array at_line name extents bits) fit accepted'), good.1)
    statement_holds context line is_tasklet (local_stream at_line name bits size) fit accepted' good = (more context.block (local_stream at_line name bits size) good.0 (said_now context (local_stream at_line name bits size) fit accepted'), good.1)
    statement_holds context line is_tasklet (assign at_line name at add value) fit accepted' good = (more context.block (assign at_line name at add value) good.0 (said_now context (assign at_line name at add value) fit accepted'), good.1)
    statement_holds context line is_tasklet (copy at_line to to_dimensions from from_dimensions) fit accepted' good = (more context.block (copy at_line to to_dimensions from from_dimensions) good.0 (said_now context (copy at_line to to_dimensions from from_dimensions) fit accepted'), good.1)
    statement_holds context line is_tasklet (reduce at_line lambda from to axis identity) fit accepted' good = absurd (of_line context.block.kind (reduce at_line lambda from to axis identity) fit)
    statement_holds context line is_tasklet (map_scope at_line parameters ranges body) fit accepted' good = ((said_now context (map_scope at_line parameters ranges body) fit accepted', tt), ((good.0, good.1.0), good.1.1))
    statement_holds context line is_tasklet (tasklet at_line body) fit accepted' good = ((said_now context (tasklet at_line body) fit accepted', tt), ((good.0, good.1.0), good.1.1))
    statement_holds context line is_tasklet (consume_scope at_line from size name element worker body) fit accepted' good = absurd (of_line context.block.kind (consume_scope at_line from size name element worker body) fit)
    statement_holds context line is_tasklet (call at_line name arguments) fit accepted' good = (more context.block (call at_line name arguments) good.0 (said_now context (call at_line name arguments) fit accepted'), good.1)
    statement_holds context line is_tasklet (for_loop at_line name begin end step body) fit accepted' good = ((said_now context (for_loop at_line name begin end step body) fit accepted', tt), ((good.0, good.1.0), good.1.1))
    statement_holds context line is_tasklet (while_loop at_line when body) fit accepted' good = ((said_now context (while_loop at_line when body) fit accepted', tt), ((good.0, good.1.0), good.1.1))
    statement_holds context line is_tasklet (branch at_line when body other) fit accepted' good = (((tt, lines.moved at_line line when (said_now context (branch at_line when body other) fit accepted')), tt), ((good.0, good.1.0), good.1.1))
    statement_holds context line is_tasklet (input at_line connector memlet) fit accepted' good = absurd (of_line context.block.kind (input at_line connector memlet) fit)
    statement_holds context line is_tasklet (output at_line connector memlet) fit accepted' good = absurd (of_line context.block.kind (output at_line connector memlet) fit)
    statement_holds context line is_tasklet (set at_line name value) fit accepted' good = (more context.block (set at_line name value) good.0 (said_now context (set at_line name value) fit accepted'), good.1)
    statement_holds context line is_tasklet (set_at at_line name at value) fit accepted' good = (more context.block (set_at at_line name at value) good.0 (said_now context (set_at at_line name at value) fit accepted'), good.1)
    statement_holds context line is_tasklet (tasklet_branch at_line when body other) fit accepted' good = (((tt, lines.moved_inside at_line line when (said_now context (tasklet_branch at_line when body other) fit accepted')), tt), ((good.0, good.1.0), good.1.1))

    consumer_holds : (kind : BlockKind) (line : ℕ) (before : Awaited) (name element : Name) (worker : Option Name) → IsGoodOpener kind line (consumer_of before name element worker)
    consumer_holds kind line nothing name element worker = lines.taken 0 [] (pos 0) name element worker
    consumer_holds kind line block name element worker = lines.taken 0 [] (pos 0) name element worker
    consumer_holds kind line (function_def at) name element worker = lines.taken 0 [] (pos 0) name element worker
    consumer_holds kind line (consume_def at from size) name element worker = lines.taken at from size name element worker

    pass_holds : (context : Context) (line : ℕ) (is_tasklet : Bool) (head : HeadTree) → Fits context.block.kind head → IsAccepted context head → HoldsSoFar context → HoldsSoFar (context_after context line is_tasklet head)
    pass_holds context line is_tasklet import_line fit accepted' good = good
    pass_holds context line is_tasklet (symbol_line name quoted) fit accepted' good = good
    pass_holds context line is_tasklet program_decorator fit accepted' good = good
    pass_holds context line is_tasklet (program_head name arguments) fit accepted' good = ((tt, tt), ((good.0, good.1.0), (tt, good.1.1.1)))
    pass_holds context line is_tasklet (statement_head s) fit accepted' good = statement_holds context line is_tasklet s fit accepted' good
    pass_holds context line is_tasklet (reduce_head lambda from to axis identity) fit accepted' good = (more context.block _ good.0 (lines.reduced line _ from to axis identity), good.1)
    pass_holds context line is_tasklet (input_head connector memlet) fit accepted' good =
        (more context.block _ good.0 (lines.put_in context.names (site_of context) line connector memlet (input_fits context.block.kind connector memlet fit) (passes context.names (site_of context) (input_head connector memlet) accepted')), good.1)
    pass_holds context line is_tasklet (output_head connector memlet) fit accepted' good =
        (more context.block _ good.0 (lines.put_out context.names (site_of context) line connector memlet (output_fits context.block.kind connector memlet fit) (passes context.names (site_of context) (output_head connector memlet) accepted')), good.1)
    pass_holds context line is_tasklet (consume_decorator from size) fit accepted' good = good
    pass_holds context line is_tasklet (consume_head name element worker) fit accepted' good = ((consumer_holds (consume_kind is_tasklet) line context.awaited name element worker, tt), ((good.0, good.1.0), good.1.1))
    pass_holds context line is_tasklet (elif_head when) fit accepted' good = good
    pass_holds context line is_tasklet else_head fit accepted' good = good

    -- the branches behind one that ends
    branches_hold : (line : ℕ) (kind : BlockKind) (statements : List StatementTree) (opener : Opener) → IsGoodOpener kind line opener → AllHold statements → AllByRecursion (IsGoodBranch kind) (branches_of line statements opener)
    branches_hold line kind statements file good all = tt
    branches_hold line kind statements (function name) good all = tt
    branches_hold line kind statements (statement s) good all = tt
    branches_hold line kind statements (consumer at from size name element worker) good all = tt
    branches_hold line kind statements (if_block earlier when) good all =
        all-more (IsGoodBranch kind) earlier (record { line = line; when = when; statements = statements }) good.0 (good.1, all)
    branches_hold line kind statements (else_block earlier) good all = tt

    other_holds : (names : Names) (site : Site) (kind : BlockKind) (line : ℕ) (branches : List Branch) (head : HeadTree) → kind ≡ site.kind → Passes names site head → AllByRecursion (IsGoodBranch kind) branches →
        IsGoodOpener kind line (next_opener branches head)
    other_holds names site kind line branches import_line is passed all = all
    other_holds names site kind line branches (symbol_line name quoted) is passed all = all
    other_holds names site kind line branches program_decorator is passed all = all
    other_holds names site kind line branches (program_head name arguments) is passed all = all
    other_holds names site kind line branches (statement_head s) is passed all = all
    other_holds names site kind line branches (reduce_head lambda from to axis identity) is passed all = all
    other_holds names site kind line branches (input_head connector memlet) is passed all = all
    other_holds names site kind line branches (output_head connector memlet) is passed all = all
    other_holds names site kind line branches (consume_decorator from size) is passed all = all
    other_holds names site kind line branches (consume_head name element worker) is passed all = all
    other_holds names site kind line branches (elif_head when) is passed all =
        (all, subst (λ kind. Holds (branch_with kind (record { line = line; when = when; statements = [] }) no_statement)) (sym is) (lines.other names site line when passed))
    other_holds names site kind line branches else_head is passed all = all

    argument_holds : (context : Context) (line : ℕ) (is_tasklet : Bool) (at : ℕ) (name : Name) (bits : ℕ) (extents : Expressions) → AreExtents extents → IsAccepted context (statement_head (argument_array at name bits extents)) → HoldsSoFar context →
        HoldsSoFar (context_after context line is_tasklet (statement_head (argument_array at name bits extents)))
    argument_holds context line is_tasklet at name bits extents few accepted' good =
        let s = argument_array at name bits extents in (
          good.0,
          (
            good.1.0,
            (
              all-more (Every Holds) context.arguments s good.1.1.0
                  (lines.said context.names (site_of context) s few (passes context.names (site_of context) (statement_head s) accepted')),
              good.1.1.1,
            ),
          ),
        )

    other_kept : (context : Context) (counts : Counts) (about : OpenBlock) (outer : List OpenBlock) (line : ℕ) (head : HeadTree) → context.outer ≡ about ∷ outer → goes_on (Form head) context.block.opener ≡ true →
        IsAccepted (behind_branch context counts about outer) head → IsWellNested context → Fits about.kind head → HoldsSoFar context → HoldsSoFar (behind_other context counts about outer line head)
    other_kept context counts about outer line head is on accepted' shape fit good =
        let now = behind_branch context counts about outer in
        let inside = subst (AllByRecursion IsGoodBlock) is good.1.0 in
        let kind = same_kind head about.kind context.block.kind context.block.opener on (subst (AreNested context.block) is shape).0 in (
          (
            other_holds now.names (site_of now) context.block.kind line _ head kind.1 (passes now.names (site_of now) head accepted')
                (branches_hold context.block.line context.block.kind context.block.statements context.block.opener good.0.0 good.0.1),
            tt,
          ),
          (inside, good.1.1),
        )

    pub lines_are_kept : (Small : Context → Type 0) → Keeps Small → ((context : Context) → IsWellNested context → EndsRight context.block → Small context → EndsSmall context.block.opener context.block.statements) →
        Keeps (λ context. Small context × HoldsSoFar context)
    lines_are_kept Small keeps ends = record {
      begin = (keeps.begin, ((tt, tt), (tt, (tt, tt))));
      pass = λ context line is_tasklet head fit due accepted' shape good. (keeps.pass context line is_tasklet head fit due accepted' shape good.0, pass_holds context line is_tasklet head fit accepted' good.1);
      argument = λ context line is_tasklet at name bits extents few begun accepted' shape good.
          (keeps.argument context line is_tasklet at name bits extents few begun accepted' shape good.0, argument_holds context line is_tasklet at name bits extents few accepted' good.1);
      close = λ context counts free counted' right shape good. (
        keeps.close context counts free counted' right shape good.0,
        close_holds context.outer (record context { counts = counts }) refl shape good.1.0 good.1.1.0 good.1.1.1.0 good.1.1.1.1 (ends context shape right good.0),
      );
      go_on = λ context counts about outer line head free is on counted' fit accepted' shape good.
          (keeps.go_on context counts about outer line head free is on counted' fit accepted' shape good.0, other_kept context counts about outer line head is on accepted' shape fit good.1);
    }
