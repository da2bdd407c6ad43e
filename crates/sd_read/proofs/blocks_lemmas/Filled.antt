-- What holds between lines: where nothing is awaited the innermost block has a statement, unless it is the file.
use Rattle.std.proofs.Common.{◌≡◌, ◌⊎◌, inl, inr, ℕ, List, [], ◌∷◌, ◌++◌, Bool, true, false, if◌then◌else◌, sym, subst}
use Rattle.std.specs.Bool.{⊤}
use Rattle.std.specs.List.{AllByRecursion}
use Rattle.sd_lex.specs.PlainTree.{StatementTree, map_scope, tasklet, for_loop, while_loop, branch, tasklet_branch, Block}
use Rattle.sd_lex.specs.TreeFold.{block_listed}
use Rattle.sd_line.specs.declared.line.head.BlockKind.{BlockKind}
use Rattle.sd_line.specs.declared.line.head.BlockKind.TheVariants.{Top}
use Rattle.sd_refusal.specs.OverLimit.{is_tasklet}
use Rattle.sd_context.specs.context.Context.{Branch, Opener, file, function, statement, consumer, if_block, else_block, OpenBlock, Awaited, nothing, block, function_def, consume_def, Context}
use Rattle.sd_context.specs.blocks.Closing.{branch_with, nested, with_body, finished_by, finished, closed_by, closed_into}
use Rattle.sd_program.specs.Every.{Every, EveryIn, EveryOf}
use Rattle.sd_read.proofs.readable_lemmas.kept.Heads.{Opens, IsFile, IsOpenedIn, AreNested}
use Rattle.sd_read.proofs.readable_lemmas.kept.Nesting.{top_is_file, nested-statements}
use Rattle.sd_read.proofs.readable_lemmas.kept.Steps.{IsFunction, IsWellNested}
use Rattle.sd_read.proofs.readable_lemmas.kept.Trees.{all-more, all-joined}
use Rattle.sd_read.specs.blocks.Blocks.{IsWritten, HasBlock}

abbrev pub HasSome : List StatementTree → Type 0
HasSome [] = ⊥
HasSome (first ∷ rest) = ⊤

-- no block in any of these statements is empty
abbrev pub AreWritten : List StatementTree → Type 0
AreWritten statements = AllByRecursion (Every HasBlock) statements

-- a branch that has ended
abbrev pub IsWhole : Branch → Type 0
IsWhole b = HasSome b.statements × AreWritten b.statements

abbrev pub HasWhole : Opener → Type 0
HasWhole (if_block earlier when) = AllByRecursion IsWhole earlier
HasWhole (else_block earlier) = AllByRecursion IsWhole earlier
HasWhole opener = ⊤

abbrev pub IsFine : OpenBlock → Type 0
IsFine b = HasWhole b.opener × AreWritten b.statements

-- a block that may end
abbrev pub MayEnd : OpenBlock → Type 0
MayEnd b = IsFile b.opener ⊎ HasSome b.statements

abbrev pub IsBegun : Awaited → OpenBlock → Type 0
IsBegun nothing b = MayEnd b
IsBegun awaited b = ⊤

abbrev pub IsFilled : Context → Type 0
IsFilled context =
    IsBegun context.awaited context.block
    × (IsFine context.block × (AllByRecursion IsFine context.outer × (AreWritten context.arguments × AllByRecursion (EveryOf HasBlock) context.functions)))

-- ---- lists of statements

pub some_more : (statements : List StatementTree) (last : StatementTree) → HasSome (statements ++ last ∷ [])
some_more [] last = tt
some_more (first ∷ statements) last = tt

some_behind : (before statements : List StatementTree) → HasSome statements → HasSome (before ++ statements)
some_behind [] statements some = some
some_behind (first ∷ before) statements some = tt

listed : (statements : List StatementTree) → AreWritten statements → EveryIn HasBlock (block_listed statements)
listed [] all = tt
listed (first ∷ rest) all = (all.0, listed rest all.1)

listed_written : (statements : List StatementTree) → HasSome statements → IsWritten (block_listed statements)
listed_written [] some = absurd some
listed_written (first ∷ rest) some = tt

may_end : (awaited : Awaited) (b : OpenBlock) → MayEnd b → IsBegun awaited b
may_end nothing b may = may
may_end block b may = tt
may_end (function_def line) b may = tt
may_end (consume_def line from size) b may = tt

-- ---- blocks that end

branch_written : (kind : BlockKind) (b : Branch) (other : Block) → IsWhole b → EveryIn HasBlock other → Every HasBlock (branch_with kind b other)
branch_written kind b other whole others = by_kind (is_tasklet kind) where
  by_kind : (test : Bool) → Every HasBlock (if test then tasklet_branch b.line b.when (block_listed b.statements) other else branch b.line b.when (block_listed b.statements) other)
  by_kind true = (listed_written b.statements whole.0, (listed b.statements whole.1, others))
  by_kind false = (listed_written b.statements whole.0, (listed b.statements whole.1, others))

nested_written : (kind : BlockKind) (branches : List Branch) (other : List StatementTree) → AllByRecursion IsWhole branches → AreWritten other → AreWritten (nested kind branches other)
nested_written kind [] other whole others = others
nested_written kind (b ∷ branches) other whole others =
    (branch_written kind b (block_listed (nested kind branches other)) whole.0 (listed (nested kind branches other) (nested_written kind branches other whole.1 others)), tt)

nested_some : (kind : BlockKind) (branches : List Branch) (other : List StatementTree) → HasSome other → HasSome (nested kind branches other)
nested_some kind [] other some = some
nested_some kind (b ∷ branches) other some = tt

last_some : (kind : BlockKind) (branches : List Branch) (last : Branch) → HasSome (nested kind (branches ++ last ∷ []) [])
last_some kind [] last = tt
last_some kind (b ∷ branches) last = tt

body_written : (kind : BlockKind) (s : StatementTree) (statements : List StatementTree) → Opens kind s → HasSome statements → AreWritten statements → Every HasBlock (with_body s (block_listed statements))
body_written kind (map_scope line parameters ranges empty) statements opens some all = (listed_written statements some, listed statements all)
body_written kind (tasklet line empty) statements opens some all = (listed_written statements some, listed statements all)
body_written kind (for_loop line name begin end step empty) statements opens some all = (listed_written statements some, listed statements all)
body_written kind (while_loop line when empty) statements opens some all = (listed_written statements some, listed statements all)
body_written kind s statements opens some all = absurd opens

finished_written : (about kind : BlockKind) (line : ℕ) (opener : Opener) (statements : List StatementTree) → IsOpenedIn about kind opener → HasWhole opener → HasSome statements → AreWritten statements →
    AreWritten (finished_by kind line opener statements)
finished_written about kind line file statements opened whole some all = tt
finished_written about kind line (function name) statements opened whole some all = tt
finished_written about kind line (statement s) statements opened whole some all = (body_written kind s statements opened.1 some all, tt)
finished_written about kind line (consumer at from size name element worker) statements opened whole some all = ((listed_written statements some, listed statements all), tt)
finished_written about kind line (if_block earlier when) statements opened whole some all =
    let last : Branch = record { line = line; when = when; statements = statements } in
    nested_written kind (earlier ++ last ∷ []) [] (all-more IsWhole earlier last whole (some, all)) tt
finished_written about kind line (else_block earlier) statements opened whole some all = nested_written kind earlier statements whole all

-- but for a program there is a statement then
finished_some : (about kind : BlockKind) (line : ℕ) (opener : Opener) (statements : List StatementTree) → IsOpenedIn about kind opener → HasSome statements → IsFunction opener ⊎ HasSome (finished_by kind line opener statements)
finished_some about kind line file statements opened some = absurd opened
finished_some about kind line (function name) statements opened some = inl tt
finished_some about kind line (statement s) statements opened some = inr tt
finished_some about kind line (consumer at from size name element worker) statements opened some = inr tt
finished_some about kind line (if_block earlier when) statements opened some = inr (last_some kind earlier (record { line = line; when = when; statements = statements }))
finished_some about kind line (else_block earlier) statements opened some = inr (nested_some kind earlier statements some)

-- what is no file has a statement where it may end
pub some_of : (about kind : BlockKind) (opener : Opener) (statements : List StatementTree) → IsOpenedIn about kind opener → IsFile opener ⊎ HasSome statements → HasSome statements
some_of about kind file statements opened may = absurd opened
some_of about kind opener statements opened (inr some) = some
some_of about kind (function name) statements opened (inl is) = absurd is
some_of about kind (statement s) statements opened (inl is) = absurd is
some_of about kind (consumer at from size name element worker) statements opened (inl is) = absurd is
some_of about kind (if_block earlier when) statements opened (inl is) = absurd is
some_of about kind (else_block earlier) statements opened (inl is) = absurd is

-- a block of the file's kind is the file
pub file_of : (inner : OpenBlock) (outer : List OpenBlock) → AreNested inner outer → inner.kind ≡ Top → IsFile inner.opener
file_of inner outer nested top = (subst (AreNested inner) (top_is_file inner outer nested top) nested).1

-- about a program is the file
about_function : (about kind : BlockKind) (opener : Opener) → IsFunction opener → IsOpenedIn about kind opener → about ≡ Top
about_function about kind file is opened = absurd opened
about_function about kind (function name) is opened = opened.0
about_function about kind (statement s) is opened = absurd is
about_function about kind (consumer at from size name element worker) is opened = absurd is
about_function about kind (if_block earlier when) is opened = absurd is
about_function about kind (else_block earlier) is opened = absurd is

pub close_nested : (outer : List OpenBlock) (context : Context) → context.outer ≡ outer → AreNested context.block outer → IsWellNested (closed_into outer context)
close_nested [] context is nested = subst (AreNested context.block) (sym is) nested
close_nested (about ∷ outer) context is nested = by_opener context.block.opener nested.1 where
  by_opener : (opener : Opener) → AreNested about outer → IsWellNested (closed_by opener about outer context)
  by_opener file nested = nested-statements about outer _ nested
  by_opener (function name) nested = nested
  by_opener (statement s) nested = nested-statements about outer _ nested
  by_opener (consumer line from size name element worker) nested = nested-statements about outer _ nested
  by_opener (if_block earlier when) nested = nested-statements about outer _ nested
  by_opener (else_block earlier) nested = nested-statements about outer _ nested

pub close_filled : (outer : List OpenBlock) (context : Context) → context.outer ≡ outer → AreNested context.block outer → context.awaited ≡ nothing → IsFilled context → IsFilled (closed_into outer context)
close_filled [] context is shape free good = good
close_filled (about ∷ rest) context is shape free good =
    by_opener context.block.opener (finished_some about.kind b.kind b.line b.opener b.statements shape.0 some) (about_function about.kind b.kind b.opener) shape.0 where
      b : OpenBlock
      b = context.block

      some : HasSome b.statements
      some = some_of about.kind b.kind b.opener b.statements shape.0 (subst (λ awaited. IsBegun awaited b) free good.0)

      outside : IsFine about × AllByRecursion IsFine rest
      outside = subst (AllByRecursion IsFine) is good.1.1.0

      written : AreWritten (finished b)
      written = finished_written about.kind b.kind b.line b.opener b.statements shape.0 good.1.0.0 some good.1.0.1

      joined : AreWritten (about.statements ++ finished b)
      joined = all-joined (Every HasBlock) about.statements (finished b) outside.0.1 written

      begun : (opener : Opener) → IsFunction opener ⊎ HasSome (finished b) → (IsFunction opener → ⊥) → IsBegun context.awaited (record about { statements = about.statements ++ finished b })
      begun opener (inl is) other = absurd (other is)
      begun opener (inr there) other = may_end context.awaited (record about { statements = about.statements ++ finished b }) (inr (some_behind about.statements (finished b) there))

      by_opener : (opener : Opener) → IsFunction opener ⊎ HasSome (finished b) → (IsFunction opener → IsOpenedIn about.kind b.kind opener → about.kind ≡ Top) → IsOpenedIn about.kind b.kind opener → IsFilled (closed_by opener about rest context)
      by_opener file found top opened = absurd opened
      by_opener (function name) found top opened = (
        may_end context.awaited about (inl (file_of about rest shape.1 (top tt opened))),
        (outside.0, (outside.1, (tt, all-more (EveryOf HasBlock) context.functions _ good.1.1.1.1 (listed context.arguments good.1.1.1.0, listed b.statements good.1.0.1)))),
      )
      by_opener (statement s) found top opened = (begun (statement s) found (λ is. is), ((outside.0.0, joined), (outside.1, good.1.1.1)))
      by_opener (consumer line from size name element worker) found top opened = (begun (consumer line from size name element worker) found (λ is. is), ((outside.0.0, joined), (outside.1, good.1.1.1)))
      by_opener (if_block earlier when) found top opened = (begun (if_block earlier when) found (λ is. is), ((outside.0.0, joined), (outside.1, good.1.1.1)))
      by_opener (else_block earlier) found top opened = (begun (else_block earlier) found (λ is. is), ((outside.0.0, joined), (outside.1, good.1.1.1)))
