-- The lines of all that is known between two lines of a source.
use Rattle.std.proofs.Common.{◌≡◌, ℕ, zero, suc, List, [], ◌∷◌, ◌++◌, map, reverse, Bool, true, false, if◌then◌else◌, Option, Result, Ok, Err, refl, sym, subst}
use Rattle.std.specs.Bool.{⊤}
use Rattle.std.specs.List.{AllByRecursion}
use Rattle.std.proofs.lemmas.List.{reverse-append}
use Rattle.sd_lex.specs.PlainTree.{StatementTree, argument_array, local_array, local_stream, assign, copy, reduce, map_scope, tasklet, consume_scope, call, for_loop, while_loop, branch, input, output, set, set_at, tasklet_branch, Block}
use Rattle.sd_lex.specs.TreeFold.{block_listed}
use Rattle.sd_line.specs.declared.line.head.BlockKind.{BlockKind}
use Rattle.sd_line.specs.line.Head.{HeadTree, import_line, symbol_line, program_decorator, program_head, statement_head, reduce_head, input_head, output_head, consume_decorator, consume_head, elif_head, else_head}
use Rattle.sd_names.specs.Names.{Name}
use Rattle.sd_program.specs.Every.{Every, EveryIn, EveryOf}
use Rattle.sd_refusal.specs.NotAForm.{is_program}
use Rattle.sd_refusal.specs.OverLimit.{is_tasklet}
use Rattle.sd_refusal.specs.declared.site.Counts.{Counts}
use Rattle.sd_context.specs.declared.context.block.InForce.{InForce}
use Rattle.sd_context.specs.context.Context.{Branch, Opener, file, function, statement, consumer, if_block, else_block, OpenBlock, Awaited, nothing, block, function_def, consume_def, Context, opening, in_force}
use Rattle.sd_context.specs.context.After.{known_behind, context_after}
use Rattle.sd_context.specs.context.Awaiting.{statement_awaits, awaited_behind}
use Rattle.sd_context.specs.context.Placing.{opened, with_statements, consumer_of, placed}
use Rattle.sd_context.specs.declared.blocks.refusal.Refusal.{Refusal}
use Rattle.sd_context.specs.blocks.Closing.{Step, and_then, state_counted, states_behind, states_counted, with_counts, is_loop, opener_ends, late_states, branch_with, nested, with_body, finished_by, finished, left_by, closed_by, closed_into, closed, closed_times, closed_all}
use Rattle.sd_context.specs.blocks.Continuing.{branches_of}
use Rattle.sd_read.proofs.readable_lemmas.kept.Trees.{all-more, all-joined}
use Rattle.sd_read.proofs.told_lemmas.SaidLines.{IsOnLine, Says}

all-reversed : {A : Type 0} (P : A → Type 0) (xs : List A) → AllByRecursion P xs → AllByRecursion P (reverse xs)
all-reversed P [] all = tt
all-reversed P (x ∷ xs) all = subst (AllByRecursion P) (sym (reverse-append (x ∷ []) xs)) (all-more P (reverse xs) x (all-reversed P xs all.1) all.0)

-- the `def` of a consume comes behind its decorator
abbrev pub IsConsume : Awaited → Type 0
IsConsume nothing = ⊥
IsConsume block = ⊥
IsConsume (function_def line) = ⊥
IsConsume (consume_def line from size) = ⊤

abbrev pub IsDue : Awaited → HeadTree → Type 0
IsDue awaited (consume_head name element worker) = IsConsume awaited
IsDue awaited head = ⊤

module _ (On : ℕ → Type 0) where
  abbrev pub AllOn : List StatementTree → Type 0
  AllOn statements = AllByRecursion (Every (IsOnLine On)) statements

  abbrev pub IsBranchOn : Branch → Type 0
  IsBranchOn b = On b.line × AllOn b.statements

  abbrev pub IsOpenerOn : (line : ℕ) → Opener → Type 0
  IsOpenerOn line file = ⊤
  IsOpenerOn line (function name) = ⊤
  IsOpenerOn line (statement s) = On line × Every (IsOnLine On) s
  IsOpenerOn line (consumer at from size name element worker) = On at
  IsOpenerOn line (if_block earlier when) = On line × AllByRecursion IsBranchOn earlier
  IsOpenerOn line (else_block earlier) = AllByRecursion IsBranchOn earlier

  abbrev pub IsBlockOn : OpenBlock → Type 0
  IsBlockOn b = IsOpenerOn b.line b.opener × AllOn b.statements

  abbrev pub IsAwaitedOn : Awaited → Type 0
  IsAwaitedOn nothing = ⊤
  IsAwaitedOn block = ⊤
  IsAwaitedOn (function_def line) = ⊤
  IsAwaitedOn (consume_def line from size) = On line

  pub record IsKnownOn (context : Context) : Type 0 where
    pub inner : IsBlockOn context.block
    pub about : AllByRecursion IsBlockOn context.outer
    pub arguments : AllOn context.arguments
    pub functions : AllByRecursion (EveryOf (IsOnLine On)) context.functions
    pub due : IsAwaitedOn context.awaited

  -- a context, or a refusal
  abbrev pub IsStepOn : Step → Type 0
  IsStepOn (Ok context) = IsKnownOn context
  IsStepOn (Err refusal) = On refusal.line

  -- a context in which the same is awaited, or a refusal
  abbrev pub Leaves : Awaited → Step → Type 0
  Leaves awaited (Ok context) = IsKnownOn context × (context.awaited ≡ awaited)
  Leaves awaited (Err refusal) = On refusal.line

  pub opening_on : IsKnownOn opening
  opening_on = record { inner = (tt, tt); about = tt; arguments = tt; functions = tt; due = tt }

  listed_on : (statements : List StatementTree) → AllOn statements → EveryIn (IsOnLine On) (block_listed statements)
  listed_on [] all = tt
  listed_on (first ∷ rest) all = (all.0, listed_on rest all.1)

  -- ---- a line

  awaits_on : (s : StatementTree) → IsAwaitedOn (statement_awaits s)
  awaits_on (argument_array line name bits extents) = tt
  awaits_on (local_array line name extents bits) = tt
  awaits_on (local_stream line name bits size) = tt
  awaits_on (assign line name at add value) = tt
  awaits_on (copy line to to_dimensions from from_dimensions) = tt
  awaits_on (reduce line lambda from to axis identity) = tt
  awaits_on (map_scope line parameters ranges body) = tt
  awaits_on (tasklet line body) = tt
  awaits_on (consume_scope line from size name element worker body) = tt
  awaits_on (call line name arguments) = tt
  awaits_on (for_loop line name begin end step body) = tt
  awaits_on (while_loop line when body) = tt
  awaits_on (branch line when body other) = tt
  awaits_on (input line connector memlet) = tt
  awaits_on (output line connector memlet) = tt
  awaits_on (set line name value) = tt
  awaits_on (set_at line name at value) = tt
  awaits_on (tasklet_branch line when body other) = tt

  behind_on : (line : ℕ) (head : HeadTree) → On line → IsAwaitedOn (awaited_behind line head)
  behind_on line import_line on = tt
  behind_on line (symbol_line name quoted) on = tt
  behind_on line program_decorator on = tt
  behind_on line (program_head name arguments) on = tt
  behind_on line (statement_head s) on = awaits_on s
  behind_on line (reduce_head lambda from to axis identity) on = tt
  behind_on line (input_head connector memlet) on = tt
  behind_on line (output_head connector memlet) on = tt
  behind_on line (consume_decorator from size) on = on
  behind_on line (consume_head name element worker) on = tt
  behind_on line (elif_head when) on = tt
  behind_on line else_head on = tt

  pub opened_on : (before : InForce) (opener : Opener) (kind : BlockKind) (line deeper : ℕ) (context : Context) → IsOpenerOn line opener → IsKnownOn context → IsKnownOn (opened before opener kind line deeper context)
  opened_on before opener kind line deeper context opens known = record {
    inner = (opens, tt);
    about = (known.inner, known.about);
    arguments = known.arguments;
    functions = known.functions;
    due = known.due;
  }

  with_on : (statements : List StatementTree) (context : Context) → AllOn statements → IsKnownOn context → IsKnownOn (with_statements statements context)
  with_on statements context all known = record {
    inner = (known.inner.0, all-joined (Every (IsOnLine On)) context.block.statements statements known.inner.1 all);
    about = known.about;
    arguments = known.arguments;
    functions = known.functions;
    due = known.due;
  }

  argument_on : (argument : StatementTree) (context : Context) → Every (IsOnLine On) argument → IsKnownOn context → IsKnownOn (record context { arguments = context.arguments ++ argument ∷ [] })
  argument_on argument context says known = record {
    inner = known.inner;
    about = known.about;
    arguments = all-more (Every (IsOnLine On)) context.arguments argument known.arguments says;
    functions = known.functions;
    due = known.due;
  }

  consumer_on : (awaited : Awaited) (line : ℕ) (name element : Name) (worker : Option Name) → IsAwaitedOn awaited → IsConsume awaited → IsOpenerOn line (consumer_of awaited name element worker)
  consumer_on nothing line name element worker on is = absurd is
  consumer_on block line name element worker on is = absurd is
  consumer_on (function_def at) line name element worker on is = absurd is
  consumer_on (consume_def at from size) line name element worker on is = on

  placed_on : (before : InForce) (awaited : Awaited) (line : ℕ) (is_tasklet : Bool) (head : HeadTree) (context : Context) → On line → Says On head → IsAwaitedOn awaited → IsDue awaited head → IsKnownOn context →
      IsKnownOn (placed before awaited line is_tasklet head context)
  placed_on before awaited line is_tasklet import_line context on says waits due known = known
  placed_on before awaited line is_tasklet (symbol_line name quoted) context on says waits due known =
      record { inner = known.inner; about = known.about; arguments = known.arguments; functions = known.functions; due = known.due }
  placed_on before awaited line is_tasklet program_decorator context on says waits due known = known
  placed_on before awaited line is_tasklet (program_head name arguments) context on says waits due known =
      record { inner = (tt, tt); about = (known.inner, known.about); arguments = tt; functions = known.functions; due = known.due }
  placed_on before awaited line is_tasklet (statement_head s) context on says waits due known = by_statement s says where
    by_statement : (s : StatementTree) → Every (IsOnLine On) s → IsKnownOn (placed before awaited line is_tasklet (statement_head s) context)
    by_statement (argument_array at name bits extents) says = argument_on (argument_array at name bits extents) context says known
    by_statement (local_array at name extents bits) says = with_on (local_array at name extents bits ∷ []) context (says, tt) known
    by_statement (local_stream at name bits size) says = with_on (local_stream at name bits size ∷ []) context (says, tt) known
    by_statement (assign at name subscripts add value) says = with_on (assign at name subscripts add value ∷ []) context (says, tt) known
    by_statement (copy at to to_dimensions from from_dimensions) says = with_on (copy at to to_dimensions from from_dimensions ∷ []) context (says, tt) known
    by_statement (reduce at lambda from to axis identity) says = with_on (reduce at lambda from to axis identity ∷ []) context (says, tt) known
    by_statement (map_scope at parameters ranges body) says = opened_on before (statement (map_scope at parameters ranges body)) _ line 1 context (on, says) known
    by_statement (tasklet at body) says = opened_on before (statement (tasklet at body)) _ line 0 context (on, says) known
    by_statement (consume_scope at from size name element worker body) says = with_on (consume_scope at from size name element worker body ∷ []) context (says, tt) known
    by_statement (call at name arguments) says = with_on (call at name arguments ∷ []) context (says, tt) known
    by_statement (for_loop at name begin end step body) says = opened_on before (statement (for_loop at name begin end step body)) _ line 1 context (on, says) known
    by_statement (while_loop at when body) says = opened_on before (statement (while_loop at when body)) _ line 1 context (on, says) known
    by_statement (branch at when body other) says = opened_on before (if_block [] when) _ line 0 context (on, tt) known
    by_statement (input at connector memlet) says = with_on (input at connector memlet ∷ []) context (says, tt) known
    by_statement (output at connector memlet) says = with_on (output at connector memlet ∷ []) context (says, tt) known
    by_statement (set at name value) says = with_on (set at name value ∷ []) context (says, tt) known
    by_statement (set_at at name subscripts value) says = with_on (set_at at name subscripts value ∷ []) context (says, tt) known
    by_statement (tasklet_branch at when body other) says = opened_on before (if_block [] when) _ line 0 context (on, tt) known
  placed_on before awaited line is_tasklet (reduce_head lambda from to axis identity) context on says waits due known = with_on _ context (on, tt) known
  placed_on before awaited line is_tasklet (input_head connector memlet) context on says waits due known = with_on _ context (on, tt) known
  placed_on before awaited line is_tasklet (output_head connector memlet) context on says waits due known = with_on _ context (on, tt) known
  placed_on before awaited line is_tasklet (consume_decorator from size) context on says waits due known = known
  placed_on before awaited line is_tasklet (consume_head name element worker) context on says waits due known =
      opened_on before (consumer_of awaited name element worker) _ line 1 context (consumer_on awaited line name element worker waits due) known
  placed_on before awaited line is_tasklet (elif_head when) context on says waits due known = known
  placed_on before awaited line is_tasklet else_head context on says waits due known = known

  pub behind_known : (line : ℕ) (is_tasklet : Bool) (head : HeadTree) (context : Context) → On line → IsKnownOn context → IsKnownOn (known_behind context line is_tasklet head)
  behind_known line is_tasklet head context on known =
      record { inner = known.inner; about = known.about; arguments = known.arguments; functions = known.functions; due = behind_on line head on }

  -- behind a head
  pub passed_on : (context : Context) (line : ℕ) (is_tasklet : Bool) (head : HeadTree) → On line → Says On head → IsDue context.awaited head → IsKnownOn context → IsKnownOn (context_after context line is_tasklet head)
  passed_on context line is_tasklet head on says due known =
      placed_on (in_force context.names) context.awaited line is_tasklet head (known_behind context line is_tasklet head) on says known.due due (behind_known line is_tasklet head context on known)

  -- ---- a block that ends

  branch_on : (kind : BlockKind) (b : Branch) (other : Block) → IsBranchOn b → EveryIn (IsOnLine On) other → Every (IsOnLine On) (branch_with kind b other)
  branch_on kind b other on others = by_kind (is_tasklet kind) where
    by_kind : (test : Bool) → Every (IsOnLine On) (if test then tasklet_branch b.line b.when (block_listed b.statements) other else branch b.line b.when (block_listed b.statements) other)
    by_kind true = (on.0, (listed_on b.statements on.1, others))
    by_kind false = (on.0, (listed_on b.statements on.1, others))

  nested_on : (kind : BlockKind) (branches : List Branch) (other : List StatementTree) → AllByRecursion IsBranchOn branches → AllOn other → AllOn (nested kind branches other)
  nested_on kind [] other on others = others
  nested_on kind (b ∷ branches) other on others =
      (branch_on kind b (block_listed (nested kind branches other)) on.0 (listed_on (nested kind branches other) (nested_on kind branches other on.1 others)), tt)

  body_on : (s : StatementTree) (body : Block) → Every (IsOnLine On) s → EveryIn (IsOnLine On) body → Every (IsOnLine On) (with_body s body)
  body_on (argument_array line name bits extents) body says inside = says
  body_on (local_array line name extents bits) body says inside = says
  body_on (local_stream line name bits size) body says inside = says
  body_on (assign line name at add value) body says inside = says
  body_on (copy line to to_dimensions from from_dimensions) body says inside = says
  body_on (reduce line lambda from to axis identity) body says inside = says
  body_on (map_scope line parameters ranges empty) body says inside = (says.0, inside)
  body_on (tasklet line empty) body says inside = (says.0, inside)
  body_on (consume_scope line from size name element worker empty) body says inside = says
  body_on (call line name arguments) body says inside = says
  body_on (for_loop line name begin end step empty) body says inside = (says.0, inside)
  body_on (while_loop line when empty) body says inside = (says.0, inside)
  body_on (branch line when empty other) body says inside = says
  body_on (input line connector memlet) body says inside = says
  body_on (output line connector memlet) body says inside = says
  body_on (set line name value) body says inside = says
  body_on (set_at line name at value) body says inside = says
  body_on (tasklet_branch line when empty other) body says inside = says

  finished_by_on : (kind : BlockKind) (line : ℕ) (opener : Opener) (statements : List StatementTree) → IsOpenerOn line opener → AllOn statements → AllOn (finished_by kind line opener statements)
  finished_by_on kind line file statements opens all = tt
  finished_by_on kind line (function name) statements opens all = tt
  finished_by_on kind line (statement s) statements opens all = (body_on s (block_listed statements) opens.1 (listed_on statements all), tt)
  finished_by_on kind line (consumer at from size name element worker) statements opens all = ((opens, listed_on statements all), tt)
  finished_by_on kind line (if_block earlier when) statements opens all =
      nested_on kind (earlier ++ record { line = line; when = when; statements = statements } ∷ []) []
      (all-more IsBranchOn earlier (record { line = line; when = when; statements = statements }) opens.1 (opens.0, all)) tt
  finished_by_on kind line (else_block earlier) statements opens all = nested_on kind earlier statements opens all

  pub left_on : (about : OpenBlock) (outer : List OpenBlock) (context : Context) → IsKnownOn context → IsBlockOn about → AllByRecursion IsBlockOn outer → IsKnownOn (left_by about outer context)
  left_on about outer context known one others = record { inner = one; about = others; arguments = known.arguments; functions = known.functions; due = known.due }

  function_on : (name : Name) (about : OpenBlock) (outer : List OpenBlock) (context : Context) → IsKnownOn context → IsBlockOn about → AllByRecursion IsBlockOn outer → IsKnownOn (closed_by (function name) about outer context)
  function_on name about outer context known one others = record {
    inner = one;
    about = others;
    arguments = tt;
    functions = all-more (EveryOf (IsOnLine On)) context.functions _ known.functions (listed_on context.arguments known.arguments, listed_on context.block.statements known.inner.1);
    due = known.due;
  }

  pub ended_on : (opener : Opener) (about : OpenBlock) (outer : List OpenBlock) (context : Context) → IsKnownOn context → IsBlockOn about → AllByRecursion IsBlockOn outer →
      IsKnownOn (closed_by opener about outer context) × ((closed_by opener about outer context).awaited ≡ context.awaited)
  ended_on opener about outer context known one others = by_opener opener where
    other_on : IsKnownOn (with_statements (finished context.block) (left_by about outer context))
    other_on =
        with_on (finished context.block) (left_by about outer context) (finished_by_on context.block.kind context.block.line context.block.opener context.block.statements known.inner.0 known.inner.1)
        (left_on about outer context known one others)

    by_opener : (opener : Opener) → IsKnownOn (closed_by opener about outer context) × ((closed_by opener about outer context).awaited ≡ context.awaited)
    by_opener file = (other_on, refl)
    by_opener (function name) = (function_on name about outer context known one others, refl)
    by_opener (statement s) = (other_on, refl)
    by_opener (consumer line from size name element worker) = (other_on, refl)
    by_opener (if_block earlier when) = (other_on, refl)
    by_opener (else_block earlier) = (other_on, refl)

  into_on : (outer : List OpenBlock) (context : Context) → IsKnownOn context → AllByRecursion IsBlockOn outer → IsKnownOn (closed_into outer context) × ((closed_into outer context).awaited ≡ context.awaited)
  into_on [] context known blocks = (known, refl)
  into_on (about ∷ outer) context known blocks = ended_on context.block.opener about outer context known blocks.0 blocks.1

  pub all_on : (outer : List OpenBlock) (context : Context) → IsKnownOn context → AllByRecursion IsBlockOn outer → IsKnownOn (closed_all outer context)
  all_on [] context known blocks = known
  all_on (about ∷ outer) context known blocks =
      all_on outer (closed_by context.block.opener about outer context) (ended_on context.block.opener about outer context known blocks.0 blocks.1).0 blocks.1

  -- ---- the states that are counted where a block ends

  abbrev pub AreCountsOn : Result Counts Refusal → Type 0
  AreCountsOn (Ok counts) = ⊤
  AreCountsOn (Err refusal) = On refusal.line

  counted-if : (test : Bool) (counts : Counts) (line : ℕ) → On line → AreCountsOn (if test then Err (record { number = 8; line = line }) else Ok counts)
  counted-if true counts line on = on
  counted-if false counts line on = tt

  counted-more : (one : Result Counts Refusal) (rest : Counts → Result Counts Refusal) → AreCountsOn one → ((counts : Counts) → AreCountsOn (rest counts)) → AreCountsOn (states_behind one rest)
  counted-more (Ok counts) rest first second = second counts
  counted-more (Err refusal) rest first second = first

  pub counted_on : (lines : List ℕ) (counts : Counts) → AllByRecursion On lines → AreCountsOn (states_counted counts lines)
  counted_on [] counts all = tt
  counted_on (line ∷ lines) counts all =
      counted-more (state_counted counts line) (λ next. states_counted next lines) (counted-if _ (record counts { states = _ }) line all.0) (λ next. counted_on lines next all.1)

  branch_lines : (branches : List Branch) → AllByRecursion IsBranchOn branches → AllByRecursion On (map (λ earlier. earlier.line) branches)
  branch_lines [] all = tt
  branch_lines (b ∷ branches) all = (all.0.0, branch_lines branches all.1)

  lines-if : (test : Bool) (lines : List ℕ) → AllByRecursion On lines → AllByRecursion On (if test then lines else [])
  lines-if true lines all = all
  lines-if false lines all = tt

  ends_on : (line : ℕ) (opener : Opener) → IsOpenerOn line opener → AllByRecursion On (opener_ends line opener)
  ends_on line file opens = tt
  ends_on line (function name) opens = tt
  ends_on line (statement s) opens = lines-if (is_loop s) (line ∷ []) (opens.0, tt)
  ends_on line (consumer at from size name element worker) opens = tt
  ends_on line (if_block earlier when) opens = (opens.0, all-reversed On (map (λ earlier. earlier.line) earlier) (branch_lines earlier opens.1))
  ends_on line (else_block earlier) opens = all-reversed On (map (λ earlier. earlier.line) earlier) (branch_lines earlier opens)

  late_on : (b : OpenBlock) → IsBlockOn b → AllByRecursion On (late_states b)
  late_on b on = lines-if (is_program b.kind) (opener_ends b.line b.opener) (ends_on b.line b.opener on.0)

  recounted : (context : Context) (counts : Counts) → IsKnownOn context → IsKnownOn (record context { counts = counts })
  recounted context counts known = record { inner = known.inner; about = known.about; arguments = known.arguments; functions = known.functions; due = known.due }

  pub closed_on : (context : Context) → IsKnownOn context → Leaves context.awaited (closed context)
  closed_on context known = by_counts (states_counted context.counts (late_states context.block)) (counted_on (late_states context.block) context.counts (late_on context.block known.inner)) where
    by_counts : (counts : Result Counts Refusal) → AreCountsOn counts → Leaves context.awaited (and_then (with_counts context counts) (λ next. Ok (closed_into next.outer next)))
    by_counts (Ok counts) on = into_on context.outer (record context { counts = counts }) (recounted context counts known) known.about
    by_counts (Err refusal) on = on

  leaves_more : (awaited : Awaited) (step : Step) (rest : Context → Step) → Leaves awaited step → ((next : Context) → IsKnownOn next → next.awaited ≡ awaited → Leaves awaited (rest next)) → Leaves awaited (and_then step rest)
  leaves_more awaited (Ok next) rest first second = second next first.0 first.1
  leaves_more awaited (Err refusal) rest first second = first

  pub times_on : (awaited : Awaited) (n : ℕ) (context : Context) → context.awaited ≡ awaited → IsKnownOn context → Leaves awaited (closed_times n context)
  times_on awaited zero context same known = (known, same)
  times_on awaited (suc n) context same known =
      leaves_more awaited (closed context) (closed_times n) (subst (λ awaited. Leaves awaited (closed context)) same (closed_on context known)) (λ next known same. times_on awaited n next same known)

  -- behind a branch
  pub branch_counts_on : (context : Context) (counts : Result Counts Refusal) → AreCountsOn counts → IsKnownOn context → Leaves context.awaited (with_counts context counts)
  branch_counts_on context (Ok counts) on known = (recounted context counts known, refl)
  branch_counts_on context (Err refusal) on known = on

  pub branches_on : (line : ℕ) (statements : List StatementTree) (opener : Opener) → IsOpenerOn line opener → AllOn statements → AllByRecursion IsBranchOn (branches_of line statements opener)
  branches_on line statements file opens all = tt
  branches_on line statements (function name) opens all = tt
  branches_on line statements (statement s) opens all = tt
  branches_on line statements (consumer at from size name element worker) opens all = tt
  branches_on line statements (if_block earlier when) opens all = all-more IsBranchOn earlier (record { line = line; when = when; statements = statements }) opens.1 (opens.0, all)
  branches_on line statements (else_block earlier) opens all = tt
