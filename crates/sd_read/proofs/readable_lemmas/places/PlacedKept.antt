-- Each line keeps what holds of statements in their places.
use Rattle.std.proofs.Common.{◌≡◌, ◌≤◌, ℕ, ◌+◌, ℤ, List, [], ◌∷◌, ◌++◌, length, take, reverse, Bool, true, false, if◌then◌else◌, Option, Some, None, is_some, refl, sym, ap, ◌∙◌, subst, arith}
use Rattle.std.specs.Bool.{⊤}
use Rattle.std.proofs.Math.Seq.{take-length}
use Rattle.sd_lex.specs.PlainTree.{Expression, Expressions, StatementTree, argument_array, local_array, local_stream, assign, copy, reduce, map_scope, tasklet, consume_scope, call, for_loop, while_loop, branch, input, output, set, set_at, tasklet_branch, Block, FunctionTree}
use Rattle.sd_phrase.specs.Memlet.{LambdaTree, MemletTree}
use Rattle.sd_refusal.specs.NotAForm.{block_is_misplaced}
use Rattle.sd_context.specs.context.After.{context_after}
use Rattle.sd_context.specs.context.Declaring.{with_local, with_worker, connector_dimensions}
use Rattle.sd_context.specs.context.Awaiting.{wanted_of, is_wanted}
use Rattle.sd_line.specs.declared.line.head.BlockKind.{BlockKind}
use Rattle.sd_line.specs.declared.line.head.BlockKind.TheVariants.{Top, Program, Scope, Tasklet}
use Rattle.sd_line.specs.line.Head.{HeadTree, import_line, symbol_line, program_decorator, program_head, statement_head, reduce_head, input_head, output_head, consume_decorator, consume_head, elif_head, else_head}
use Rattle.sd_range.specs.declared.affine.Affine.{Affine}
use Rattle.sd_names.specs.declared.meaning.Container.{Container}
use Rattle.sd_names.specs.declared.meaning.Container.TheVariants.{Array, Stream}
use Rattle.sd_names.specs.declared.meaning.Meaning.TheVariants.{Symbol, Variable, Program as Program_name, Worker, Input, Output, Local}
use Rattle.sd_names.specs.Names.{Name, Names, listed, put, meaning_of, with_meaning, with_container, all_meaning}
use Rattle.sd_names.specs.Expressions.{affine_list, optional}
use Rattle.sd_names.specs.Extents.{one_extent}
use Rattle.sd_refusal.specs.OverLimit.{is_tasklet}
use Rattle.sd_uses.specs.Twice.{declares, are_not_new, declares_local}
use Rattle.sd_refusal.specs.declared.site.Counts.{Counts}
use Rattle.sd_context.specs.declared.context.block.InForce.{InForce}
use Rattle.sd_context.specs.context.Context.{Opener, statement, if_block, Awaited, nothing, block, function_def, consume_def, Context, site_of, in_force}
use Rattle.sd_context.specs.context.Placing.{memlet_of, kind_in, lambda_or_last, consumer_of}
use Rattle.sd_program.specs.Place.{Place, behind, in_consume, EveryAt}
use Rattle.sd_read.proofs.readable_lemmas.kept.Heads.{Fits, Opens, IsInner}
use Rattle.sd_read.proofs.readable_lemmas.kept.NewNames.{first_new, declares_new}
use Rattle.sd_read.proofs.readable_lemmas.kept.Passing.{passes, true_is_not_false, false_is_not_true}
use Rattle.sd_read.proofs.readable_lemmas.kept.Steps.{IsWellNested, IsAccepted}
use Rattle.sd_read.proofs.readable_lemmas.kept.Nesting.{inner_statement, placed_block, top_is_file, program_top}
use Rattle.sd_read.proofs.readable_lemmas.kept.Trees.{of_line}
use Rattle.sd_read.proofs.readable_lemmas.kept.InForce.{Agrees, none_agrees, more_agrees, take-put, length-put}
use Rattle.sd_read.proofs.readable_lemmas.places.PlacedNames.{programs_at, put_meaning, put_variables, same_containers, free_container, local_holder}
use Rattle.sd_read.proofs.readable_lemmas.places.Placed.{around_of, begins, now, SignaturesAgree, IsGoodOpener, AreGoodBlocks, by_way, AgreeOutside, block_place, outside-same, one_more, now-more, outside-put, IsAt, HoldsInPlaces, AwaitsWell, HoldsSoFar}

-- ---- kinds

reduce_kind : (kind : BlockKind) (lambda : LambdaTree) (from to : Name) (axis identity : Option ℤ) → Fits kind (reduce_head lambda from to axis identity) → IsInner kind
reduce_kind Top lambda from to axis identity fit = absurd fit
reduce_kind Program lambda from to axis identity fit = tt
reduce_kind Scope lambda from to axis identity fit = tt
reduce_kind Tasklet lambda from to axis identity fit = absurd fit

input_kind : (kind : BlockKind) (connector : Name) (memlet : MemletTree) → Fits kind (input_head connector memlet) → IsInner kind
input_kind Top connector memlet fit = absurd fit
input_kind Program connector memlet fit = absurd fit
input_kind Scope connector memlet fit = absurd fit
input_kind Tasklet connector memlet fit = tt

output_kind : (kind : BlockKind) (connector : Name) (memlet : MemletTree) → Fits kind (output_head connector memlet) → IsInner kind
output_kind Top connector memlet fit = absurd fit
output_kind Program connector memlet fit = absurd fit
output_kind Scope connector memlet fit = absurd fit
output_kind Tasklet connector memlet fit = tt

consume_inside : (kind : BlockKind) (name element : Name) (worker : Option Name) → Fits kind (consume_head name element worker) → IsInner kind
consume_inside Top name element worker fit = absurd fit
consume_inside Program name element worker fit = tt
consume_inside Scope name element worker fit = tt
consume_inside Tasklet name element worker fit = absurd fit

decorator_kind : (kind : BlockKind) (from : Name) (size : ℤ) → Fits kind (consume_decorator from size) → IsInner kind
decorator_kind Top from size fit = absurd fit
decorator_kind Program from size fit = tt
decorator_kind Scope from size fit = tt
decorator_kind Tasklet from size fit = absurd fit

no_argument : (kind : BlockKind) (at : ℕ) (name : Name) (bits : ℕ) (extents : Expressions) → Fits kind (statement_head (argument_array at name bits extents)) → ⊥
no_argument Top at name bits extents fit = fit
no_argument Program at name bits extents fit = fit
no_argument Scope at name bits extents fit = fit
no_argument Tasklet at name bits extents fit = fit

abbrev IsProgram : BlockKind → Type 0
IsProgram Top = ⊥
IsProgram Program = ⊤
IsProgram Scope = ⊥
IsProgram Tasklet = ⊥

program_is_not_scope : Program ≡ Scope → ⊥
program_is_not_scope is = subst IsProgram is tt

program_is_not_tasklet : Program ≡ Tasklet → ⊥
program_is_not_tasklet is = subst IsProgram is tt

if_kind : (kind : BlockKind) (at : ℕ) (when : Expression) (body other : Block) → Fits kind (statement_head (branch at when body other)) → block_is_misplaced kind (branch at when body other) ≡ false → kind ≡ Program
if_kind Top at when body other fit placed = absurd fit
if_kind Program at when body other fit placed = refl
if_kind Scope at when body other fit placed = true_is_not_false placed
if_kind Tasklet at when body other fit placed = absurd fit

when_kind : (kind : BlockKind) (at : ℕ) (when : Expression) (body other : Block) → Fits kind (statement_head (tasklet_branch at when body other)) → kind ≡ Tasklet
when_kind Top at when body other fit = absurd fit
when_kind Program at when body other fit = absurd fit
when_kind Scope at when body other fit = absurd fit
when_kind Tasklet at when body other fit = refl

-- a loop stands in a program
loop_kind : (kind : BlockKind) (s : StatementTree) → Fits kind (statement_head s) → Opens Program s → block_is_misplaced kind s ≡ false → kind ≡ Program
loop_kind Top s fit opens placed = absurd fit
loop_kind Program s fit opens placed = refl
loop_kind Scope (argument_array at name bits extents) fit opens placed = absurd opens
loop_kind Scope (local_array at name extents bits) fit opens placed = absurd opens
loop_kind Scope (local_stream at name bits size) fit opens placed = absurd opens
loop_kind Scope (assign at name subscripts add value) fit opens placed = absurd opens
loop_kind Scope (copy at to to_dimensions from from_dimensions) fit opens placed = absurd opens
loop_kind Scope (reduce at lambda from to axis identity) fit opens placed = absurd opens
loop_kind Scope (map_scope at parameters ranges body) fit opens placed = absurd (program_is_not_scope opens)
loop_kind Scope (tasklet at body) fit opens placed = absurd (program_is_not_tasklet opens)
loop_kind Scope (consume_scope at from size name element worker body) fit opens placed = absurd opens
loop_kind Scope (call at name arguments) fit opens placed = absurd opens
loop_kind Scope (for_loop at name begin end step body) fit opens placed = true_is_not_false placed
loop_kind Scope (while_loop at when body) fit opens placed = true_is_not_false placed
loop_kind Scope (branch at when body other) fit opens placed = absurd opens
loop_kind Scope (input at connector memlet) fit opens placed = absurd opens
loop_kind Scope (output at connector memlet) fit opens placed = absurd opens
loop_kind Scope (set at name value) fit opens placed = absurd opens
loop_kind Scope (set_at at name subscripts value) fit opens placed = absurd opens
loop_kind Scope (tasklet_branch at when body other) fit opens placed = absurd opens
loop_kind Tasklet (argument_array at name bits extents) fit opens placed = absurd fit
loop_kind Tasklet (local_array at name extents bits) fit opens placed = absurd fit
loop_kind Tasklet (local_stream at name bits size) fit opens placed = absurd fit
loop_kind Tasklet (assign at name subscripts add value) fit opens placed = absurd fit
loop_kind Tasklet (copy at to to_dimensions from from_dimensions) fit opens placed = absurd fit
loop_kind Tasklet (reduce at lambda from to axis identity) fit opens placed = absurd fit
loop_kind Tasklet (map_scope at parameters ranges body) fit opens placed = absurd fit
loop_kind Tasklet (tasklet at body) fit opens placed = absurd fit
loop_kind Tasklet (consume_scope at from size name element worker body) fit opens placed = absurd fit
loop_kind Tasklet (call at name arguments) fit opens placed = absurd fit
loop_kind Tasklet (for_loop at name begin end step body) fit opens placed = absurd fit
loop_kind Tasklet (while_loop at when body) fit opens placed = absurd fit
loop_kind Tasklet (branch at when body other) fit opens placed = absurd fit
loop_kind Tasklet (input at connector memlet) fit opens placed = absurd fit
loop_kind Tasklet (output at connector memlet) fit opens placed = absurd fit
loop_kind Tasklet (set at name value) fit opens placed = absurd opens
loop_kind Tasklet (set_at at name subscripts value) fit opens placed = absurd opens
loop_kind Tasklet (tasklet_branch at when body other) fit opens placed = absurd opens

module _ (Holds : Place → StatementTree → Type 0) (lines : HoldsInPlaces Holds) where
  abbrev pub above : Context → List FunctionTree
  above context = reverse context.functions

  abbrev pub at_now : Context → Place
  at_now context = now (above context) context.arguments context.block context.outer

  is_at_now : (context : Context) → IsWellNested context → IsInner context.block.kind → HoldsSoFar Holds context → IsAt Holds context.names (site_of context) (at_now context)
  is_at_now context shape inside good =
      let place = block_place Holds (above context) context.arguments context.block context.outer shape inside good.blocks in
      record {
        containers = good.agrees;
        programs = subst (SignaturesAgree context.names.meanings) (sym (programs_at (above context) context.arguments context.block context.outer)) good.programs;
        depth = place.depth;
        around = place.around;
      }

  -- a line whose statement is complete
  leaf : (context : Context) (s : StatementTree) (names : Names) (counts : Counts) (written : List Name) (connects : Bool) → IsWellNested context → IsInner context.block.kind →
      EveryAt Holds (at_now context) s → Agrees names.containers (behind s (at_now context).containers) →
      AgreeOutside Holds (above context) context.arguments names.containers context.block context.outer → SignaturesAgree names.meanings (above context) → HoldsSoFar Holds context →
      HoldsSoFar Holds (record context {
        names = names;
        counts = counts;
        written = written;
        connects = connects;
        awaited = nothing;
        block = record context.block { statements = context.block.statements ++ s ∷ [] };
      })
  leaf context s names counts written connects shape inside every agrees outside programs' good = record {
    blocks = one_more Holds (above context) context.arguments context.block context.outer s shape inside every good.blocks;
    agrees = subst (λ place. Agrees names.containers place.containers) (sym (now-more Holds (above context) context.arguments context.block context.outer s)) agrees;
    outside = outside-same Holds (above context) context.arguments names.containers context.block context.outer (context.block.statements ++ s ∷ []) outside;
    programs = programs';
    arguments = good.arguments;
    functions = good.functions;
    counted = good.counted;
    awaits = tt;
  }

  -- a line that opens a block
  open_block : (context : Context) (opener : Opener) (kind : BlockKind) (line deeper : ℕ) (before : InForce) (names : Names) (counts : Counts) (written : List Name) (connects : Bool) →
      IsGoodOpener Holds kind line opener (at_now context) → (begins context.arguments kind opener (at_now context)).depth ≡ context.block.depth + deeper →
      (begins context.arguments kind opener (at_now context)).around ≡ around_of kind → Agrees names.containers (begins context.arguments kind opener (at_now context)).containers →
      by_way Holds opener (AgreeOutside Holds (above context) context.arguments names.containers context.block context.outer)
      ((before.containers ≤ length names.containers) × (Agrees (take before.containers names.containers) (at_now context).containers × AgreeOutside Holds (above context) context.arguments (take before.containers names.containers) context.block context.outer)) →
      SignaturesAgree names.meanings (above context) → HoldsSoFar Holds context →
      HoldsSoFar Holds (record context {
        names = names;
        counts = counts;
        written = written;
        connects = connects;
        awaited = block;
        block = record { opener = opener; kind = kind; line = line; depth = context.block.depth + deeper; before = before; statements = [] };
        outer = context.block ∷ context.outer;
      })
  open_block context opener kind line deeper before names counts written connects good_opener depth around agrees outside programs' good = record {
    blocks = (record { opener = good_opener; all = tt; place = record { depth = depth; around = around } }, good.blocks);
    agrees = agrees;
    outside = outside;
    programs = programs';
    arguments = good.arguments;
    functions = good.functions;
    counted = good.counted;
    awaits = tt;
  }

  -- nothing is cut of what is in force
  abbrev CutAt : Context → List (Name × Container) → Type 0
  CutAt context known =
      (length context.names.containers ≤ length known)
      × (Agrees (take (length context.names.containers) known) (at_now context).containers × AgreeOutside Holds (above context) context.arguments (take (length context.names.containers) known) context.block context.outer)

  cut_whole : (context : Context) → HoldsSoFar Holds context → CutAt context context.names.containers
  cut_whole context good =
      (omega arith, subst (λ list. Agrees list (at_now context).containers × AgreeOutside Holds (above context) context.arguments list context.block context.outer) (sym (take-length context.names.containers)) (good.agrees, good.outside))

  local_containers : (names : Names) (name : Name) → (with_local names name).containers ≡ names.containers
  local_containers names name = by_test (declares_local (meaning_of names name)) where
    by_test : (test : Bool) → (if test then with_meaning names name Local else names).containers ≡ names.containers
    by_test true = refl
    by_test false = refl

  local_meanings : (names : Names) (name : Name) (programs : List FunctionTree) → SignaturesAgree names.meanings programs → SignaturesAgree (with_local names name).meanings programs
  local_meanings names name programs agree = by_test (declares_local (meaning_of names name)) where
    by_test : (test : Bool) → SignaturesAgree (if test then with_meaning names name Local else names).meanings programs
    by_test true = put_meaning names.meanings name Local programs (λ none. none) agree
    by_test false = agree

  statement_holds : (context : Context) (s : StatementTree) → Fits context.block.kind (statement_head s) → IsAccepted context (statement_head s) → IsWellNested context → HoldsSoFar Holds context → Holds (at_now context) s
  statement_holds context s fit accepted' shape good =
      lines.said context.names (site_of context) (at_now context) s (is_at_now context shape (inner_statement context.block.kind s fit) good) (of_line context.block.kind s fit) fit (passes context.names (site_of context) (statement_head s) accepted')

  new_container : (context : Context) (s : StatementTree) (name : Name) → declares context.names (statement_head s) ≡ name ∷ [] → IsAccepted context (statement_head s) → is_some (listed context.names.containers name) ≡ false
  new_container context s name is accepted' =
      free_container context.names name (first_new context.names name []
      (subst (λ list. are_not_new context.names [] list ≡ false) is (declares_new context.names (site_of context) (statement_head s) (passes context.names (site_of context) (statement_head s) accepted'))))

  statement_kept : (context : Context) (line : ℕ) (is_tasklet' : Bool) (s : StatementTree) → Fits context.block.kind (statement_head s) → IsAccepted context (statement_head s) → IsWellNested context → HoldsSoFar Holds context →
      HoldsSoFar Holds (context_after context line is_tasklet' (statement_head s))
  statement_kept context line is_tasklet' (argument_array at name bits extents) fit accepted' shape good = absurd (no_argument context.block.kind at name bits extents fit)
  statement_kept context line is_tasklet' (local_array at name extents bits) fit accepted' shape good =
      let new = new_container context (local_array at name extents bits) name refl accepted' in
      leaf context (local_array at name extents bits) (with_container context.names name (Array (affine_list context.names extents))) _ _ _ shape (inner_statement context.block.kind (local_array at name extents bits) fit)
      (statement_holds context (local_array at name extents bits) fit accepted' shape good)
      (subst (λ holder. Agrees (put context.names.containers name (Array (affine_list context.names extents))) ((name, holder) ∷ (at_now context).containers)) (local_holder context.names extents) (more_agrees context.names.containers (at_now context).containers name (Array (affine_list context.names extents)) good.agrees))
      (outside-put Holds (above context) context.arguments context.names.containers context.block context.outer name (Array (affine_list context.names extents)) new good.outside) good.programs good
  statement_kept context line is_tasklet' (local_stream at name bits size) fit accepted' shape good =
      let new = new_container context (local_stream at name bits size) name refl accepted' in
      leaf context (local_stream at name bits size) (with_container context.names name Stream) _ _ _ shape (inner_statement context.block.kind (local_stream at name bits size) fit)
      (statement_holds context (local_stream at name bits size) fit accepted' shape good)
      (more_agrees context.names.containers (at_now context).containers name Stream good.agrees)
      (outside-put Holds (above context) context.arguments context.names.containers context.block context.outer name Stream new good.outside) good.programs good
  statement_kept context line is_tasklet' (assign at name subscripts add value) fit accepted' shape good =
      leaf context (assign at name subscripts add value) context.names _ _ _ shape (inner_statement context.block.kind (assign at name subscripts add value) fit)
      (statement_holds context (assign at name subscripts add value) fit accepted' shape good) good.agrees good.outside good.programs good
  statement_kept context line is_tasklet' (copy at to to_dimensions from from_dimensions) fit accepted' shape good =
      leaf context (copy at to to_dimensions from from_dimensions) context.names _ _ _ shape (inner_statement context.block.kind (copy at to to_dimensions from from_dimensions) fit)
      (statement_holds context (copy at to to_dimensions from from_dimensions) fit accepted' shape good) good.agrees good.outside good.programs good
  statement_kept context line is_tasklet' (reduce at lambda from to axis identity) fit accepted' shape good = absurd (of_line context.block.kind (reduce at lambda from to axis identity) fit)
  statement_kept context line is_tasklet' (map_scope at parameters ranges body) fit accepted' shape good =
      open_block context (statement (map_scope at parameters ranges body)) Scope line 1 (in_force context.names) (all_meaning Variable context.names parameters) _ _ _ (lines.strip (at_now context) (map_scope at parameters ranges body) (statement_holds context (map_scope at parameters ranges body) fit accepted' shape good))
      (ap (λ n. n + 1) (is_at_now context shape (inner_statement context.block.kind (map_scope at parameters ranges body) fit) good).depth) refl (subst (λ list. Agrees list (at_now context).containers) (sym (same_containers parameters context.names)) good.agrees) (subst (CutAt context) (sym (same_containers parameters context.names)) (cut_whole context good)) (put_variables parameters context.names (above context) good.programs) good
  statement_kept context line is_tasklet' (tasklet at body) fit accepted' shape good =
      open_block context (statement (tasklet at body)) Tasklet line 0 (in_force context.names) context.names _ _ _ (lines.strip (at_now context) (tasklet at body) (statement_holds context (tasklet at body) fit accepted' shape good))
      ((is_at_now context shape (inner_statement context.block.kind (tasklet at body) fit) good).depth ∙ omega arith) refl good.agrees (cut_whole context good) good.programs good
  statement_kept context line is_tasklet' (consume_scope at from size name element worker body) fit accepted' shape good = absurd (of_line context.block.kind (consume_scope at from size name element worker body) fit)
  statement_kept context line is_tasklet' (call at name arguments) fit accepted' shape good =
      leaf context (call at name arguments) context.names _ _ _ shape (inner_statement context.block.kind (call at name arguments) fit)
      (statement_holds context (call at name arguments) fit accepted' shape good) good.agrees good.outside good.programs good
  statement_kept context line is_tasklet' (for_loop at name begin end step body) fit accepted' shape good =
      open_block context (statement (for_loop at name begin end step body)) Program line 1 (in_force context.names) (with_meaning context.names name Variable) _ _ _ (lines.strip (at_now context) (for_loop at name begin end step body) (statement_holds context (for_loop at name begin end step body) fit accepted' shape good))
      (ap (λ n. n + 1) (is_at_now context shape (inner_statement context.block.kind (for_loop at name begin end step body) fit) good).depth) ((is_at_now context shape (inner_statement context.block.kind (for_loop at name begin end step body) fit) good).around ∙ ap around_of (loop_kind context.block.kind (for_loop at name begin end step body) fit refl (placed_block context (for_loop at name begin end step body) accepted'))) good.agrees good.outside (put_meaning context.names.meanings name Variable (above context) (λ none. none) good.programs) good
  statement_kept context line is_tasklet' (while_loop at when body) fit accepted' shape good =
      open_block context (statement (while_loop at when body)) Program line 1 (in_force context.names) context.names _ _ _ (lines.strip (at_now context) (while_loop at when body) (statement_holds context (while_loop at when body) fit accepted' shape good))
      (ap (λ n. n + 1) (is_at_now context shape (inner_statement context.block.kind (while_loop at when body) fit) good).depth) ((is_at_now context shape (inner_statement context.block.kind (while_loop at when body) fit) good).around ∙ ap around_of (loop_kind context.block.kind (while_loop at when body) fit refl (placed_block context (while_loop at when body) accepted'))) good.agrees good.outside good.programs good
  statement_kept context line is_tasklet' (branch at when body other) fit accepted' shape good =
      open_block context (if_block [] when) Program line 0 (in_force context.names) context.names _ _ _ (tt, lines.moved (at_now context) at line when (lines.strip (at_now context) (branch at when body other) (statement_holds context (branch at when body other) fit accepted' shape good)))
      ((is_at_now context shape (inner_statement context.block.kind (branch at when body other) fit) good).depth ∙ omega arith) ((is_at_now context shape (inner_statement context.block.kind (branch at when body other) fit) good).around ∙ ap around_of (if_kind context.block.kind at when body other fit (placed_block context (branch at when body other) accepted'))) good.agrees good.outside good.programs good
  statement_kept context line is_tasklet' (input at connector memlet) fit accepted' shape good = absurd (of_line context.block.kind (input at connector memlet) fit)
  statement_kept context line is_tasklet' (output at connector memlet) fit accepted' shape good = absurd (of_line context.block.kind (output at connector memlet) fit)
  statement_kept context line is_tasklet' (set at name value) fit accepted' shape good =
      leaf context (set at name value) (with_local context.names name) _ _ _ shape (inner_statement context.block.kind (set at name value) fit)
      (statement_holds context (set at name value) fit accepted' shape good)
      (subst (λ list. Agrees list (at_now context).containers) (sym (local_containers context.names name)) good.agrees)
      (subst (λ list. AgreeOutside Holds (above context) context.arguments list context.block context.outer) (sym (local_containers context.names name)) good.outside)
      (local_meanings context.names name (above context) good.programs) good
  statement_kept context line is_tasklet' (set_at at name subscripts value) fit accepted' shape good =
      leaf context (set_at at name subscripts value) context.names _ _ _ shape (inner_statement context.block.kind (set_at at name subscripts value) fit)
      (statement_holds context (set_at at name subscripts value) fit accepted' shape good) good.agrees good.outside good.programs good
  statement_kept context line is_tasklet' (tasklet_branch at when body other) fit accepted' shape good =
      open_block context (if_block [] when) Tasklet line 0 (in_force context.names) context.names _ _ _ (tt, lines.moved_inside (at_now context) at line when (lines.strip (at_now context) (tasklet_branch at when body other) (statement_holds context (tasklet_branch at when body other) fit accepted' shape good)))
      ((is_at_now context shape (inner_statement context.block.kind (tasklet_branch at when body other) fit) good).depth ∙ omega arith) ((is_at_now context shape (inner_statement context.block.kind (tasklet_branch at when body other) fit) good).around ∙ ap around_of (when_kind context.block.kind at when body other fit)) good.agrees good.outside good.programs good

  -- ---- other heads

  worker_containers : (worker : Option Name) (names : Names) → (with_worker worker names).containers ≡ names.containers
  worker_containers None names = refl
  worker_containers (Some name) names = refl

  worker_meanings : (worker : Option Name) (names : Names) (programs : List FunctionTree) → SignaturesAgree names.meanings programs → SignaturesAgree (with_worker worker names).meanings programs
  worker_meanings None names programs agree = agree
  worker_meanings (Some name) names programs agree = put_meaning names.meanings name Worker programs (λ none. none) agree

  consume_opener : (awaited : Awaited) (kind : BlockKind) (line : ℕ) (place : Place) (name element : Name) (worker : Option Name) → is_wanted (wanted_of awaited) (consume_head name element worker) ≡ true → AwaitsWell Holds awaited place →
      IsGoodOpener Holds kind line (consumer_of awaited name element worker) place
  consume_opener nothing kind line place name element worker due awaits = false_is_not_true due
  consume_opener block kind line place name element worker due awaits = false_is_not_true due
  consume_opener (function_def at) kind line place name element worker due awaits = false_is_not_true due
  consume_opener (consume_def at from size) kind line place name element worker due awaits = awaits at name element worker

  consume_begins : (arguments : List StatementTree) (awaited : Awaited) (kind : BlockKind) (place : Place) (name element : Name) (worker : Option Name) →
      begins arguments kind (consumer_of awaited name element worker) place ≡ in_consume (is_tasklet kind) element place
  consume_begins arguments nothing kind place name element worker = refl
  consume_begins arguments block kind place name element worker = refl
  consume_begins arguments (function_def at) kind place name element worker = refl
  consume_begins arguments (consume_def at from size) kind place name element worker = refl

  consume_way : (awaited : Awaited) (name element : Name) (worker : Option Name) (kept cut : Type 0) → cut → by_way Holds (consumer_of awaited name element worker) kept cut
  consume_way nothing name element worker kept cut holds = holds
  consume_way block name element worker kept cut holds = holds
  consume_way (function_def at) name element worker kept cut holds = holds
  consume_way (consume_def at from size) name element worker kept cut holds = holds

  consume_kept : (context : Context) (line : ℕ) (is_tasklet' : Bool) (name element : Name) (worker : Option Name) → Fits context.block.kind (consume_head name element worker) →
      is_wanted (wanted_of context.awaited) (consume_head name element worker) ≡ true → IsAccepted context (consume_head name element worker) → IsWellNested context → HoldsSoFar Holds context →
      HoldsSoFar Holds (context_after context line is_tasklet' (consume_head name element worker))
  consume_kept context line true name element worker fit due accepted' shape good =
      let place = is_at_now context shape (consume_inside context.block.kind name element worker fit) good in
      let begin = consume_begins context.arguments context.awaited Tasklet (at_now context) name element worker in
      let names = with_meaning context.names element (Input 0) in
      open_block context (consumer_of context.awaited name element worker) Tasklet line 1 (in_force context.names) (with_worker worker names) _ _ _
      (consume_opener context.awaited Tasklet line (at_now context) name element worker due good.awaits)
      (ap (λ p. p.depth) begin ∙ ap (λ n. n + 1) place.depth) (ap (λ p. p.around) begin)
      (subst (λ list. Agrees list (begins context.arguments Tasklet (consumer_of context.awaited name element worker) (at_now context)).containers) (sym (worker_containers worker names))
      (subst (λ p. Agrees context.names.containers p.containers) (sym begin) good.agrees))
      (consume_way context.awaited name element worker _ _ (subst (CutAt context) (sym (worker_containers worker names)) (cut_whole context good)))
      (worker_meanings worker names (above context) (put_meaning context.names.meanings element (Input 0) (above context) (λ none. none) good.programs)) good
  consume_kept context line false name element worker fit due accepted' shape good =
      let place = is_at_now context shape (consume_inside context.block.kind name element worker fit) good in
      let begin = consume_begins context.arguments context.awaited Scope (at_now context) name element worker in
      let c = Array (one_extent ∷ []) in
      let names = with_container context.names element c in
      let new = free_container context.names element (first_new context.names element (optional worker) (declares_new context.names (site_of context) (consume_head name element worker) (passes context.names (site_of context) (consume_head name element worker) accepted'))) in
      let whole = cut_whole context good in
      let cut : CutAt context (put context.names.containers element c) = (
        length-put context.names.containers element c (length context.names.containers) new whole.0,
        subst (λ list. Agrees list (at_now context).containers × AgreeOutside Holds (above context) context.arguments list context.block context.outer) (sym (take-put context.names.containers element c (length context.names.containers) new whole.0)) whole.1,
      ) in
      open_block context (consumer_of context.awaited name element worker) Scope line 1 (in_force context.names) (with_worker worker names) _ _ _
      (consume_opener context.awaited Scope line (at_now context) name element worker due good.awaits)
      (ap (λ p. p.depth) begin ∙ ap (λ n. n + 1) place.depth) (ap (λ p. p.around) begin)
      (subst (λ list. Agrees list (begins context.arguments Scope (consumer_of context.awaited name element worker) (at_now context)).containers) (sym (worker_containers worker names))
      (subst (λ p. Agrees (put context.names.containers element c) p.containers) (sym begin) (more_agrees context.names.containers (at_now context).containers element c good.agrees)))
      (consume_way context.awaited name element worker _ _ (subst (CutAt context) (sym (worker_containers worker names)) cut))
      (worker_meanings worker names (above context) good.programs) good

  -- the same with something else awaited
  waiting : (context : Context) (names : Names) (counts : Counts) (parameters : List (Name × List Affine)) (written : List Name) (connects : Bool) (awaited : Awaited) (symbols : List Name) → names.containers ≡ context.names.containers →
      SignaturesAgree names.meanings (above context) → parameters ≡ context.parameters → AwaitsWell Holds awaited (at_now context) → HoldsSoFar Holds context →
      HoldsSoFar Holds (record context { names = names; counts = counts; parameters = parameters; written = written; connects = connects; awaited = awaited; symbols = symbols })
  waiting context names counts parameters written connects awaited symbols same programs' same_parameters awaits good = record {
    blocks = good.blocks;
    agrees = subst (λ list. Agrees list (at_now context).containers) (sym same) good.agrees;
    outside = subst (λ list. AgreeOutside Holds (above context) context.arguments list context.block context.outer) (sym same) good.outside;
    programs = programs';
    arguments = good.arguments;
    functions = good.functions;
    counted = ap length same_parameters ∙ good.counted;
    awaits = awaits;
  }

  program_kept : (context : Context) (line : ℕ) (is_tasklet' : Bool) (name : Name) (arguments : Block) → Fits context.block.kind (program_head name arguments) → IsWellNested context → HoldsSoFar Holds context →
      HoldsSoFar Holds (context_after context line is_tasklet' (program_head name arguments))
  program_kept context line is_tasklet' name arguments fit shape good =
      let alone = top_is_file context.block context.outer shape (program_top context.block.kind name arguments fit) in
      let file' : AreGoodBlocks Holds (above context) [] context.block [] = subst (AreGoodBlocks Holds (above context) context.arguments context.block) alone good.blocks in
      record {
        blocks = (
          record { opener = tt; all = tt; place = record { depth = sym (ap (λ n. n + 0) file'.1 ∙ omega arith); around = refl } },
          subst (AreGoodBlocks Holds (above context) [] context.block) (sym alone) file',
        );
        agrees = none_agrees [];
        outside = tt;
        programs = put_meaning context.names.meanings name (Program_name None) (above context) (λ none. none) good.programs;
        arguments = tt;
        functions = good.functions;
        counted = refl;
        awaits = tt;
      }

  pub pass_kept : (context : Context) (line : ℕ) (is_tasklet' : Bool) (head : HeadTree) → Fits context.block.kind head → is_wanted (wanted_of context.awaited) head ≡ true → IsAccepted context head → IsWellNested context →
      HoldsSoFar Holds context → HoldsSoFar Holds (context_after context line is_tasklet' head)
  pass_kept context line is_tasklet' import_line fit due accepted' shape good = waiting context context.names _ context.parameters _ _ nothing context.symbols refl good.programs refl tt good
  pass_kept context line is_tasklet' (symbol_line name quoted) fit due accepted' shape good =
      waiting context (with_meaning context.names name Symbol) _ context.parameters _ _ nothing _ refl (put_meaning context.names.meanings name Symbol (above context) (λ none. none) good.programs) refl tt good
  pass_kept context line is_tasklet' program_decorator fit due accepted' shape good = waiting context context.names _ context.parameters _ _ (function_def line) context.symbols refl good.programs refl tt good
  pass_kept context line is_tasklet' (program_head name arguments) fit due accepted' shape good = program_kept context line is_tasklet' name arguments fit shape good
  pass_kept context line is_tasklet' (statement_head s) fit due accepted' shape good = statement_kept context line is_tasklet' s fit accepted' shape good
  pass_kept context line is_tasklet' (reduce_head lambda from to axis identity) fit due accepted' shape good =
      let kind = reduce_kind context.block.kind lambda from to axis identity fit in
      leaf context (reduce line (lambda_or_last (kind_in lambda)) from to axis identity) context.names _ _ _ shape kind
      (lines.reduced context.names (site_of context) (at_now context) line lambda from to axis identity (is_at_now context shape kind good) fit (passes context.names (site_of context) (reduce_head lambda from to axis identity) accepted'))
      good.agrees good.outside good.programs good
  pass_kept context line is_tasklet' (input_head connector memlet) fit due accepted' shape good =
      let kind = input_kind context.block.kind connector memlet fit in
      leaf context (input line connector (memlet_of memlet)) (with_meaning context.names connector (Input (connector_dimensions context.names memlet))) _ _ _ shape kind
      (lines.put_in context.names (site_of context) (at_now context) line connector memlet (is_at_now context shape kind good) fit (passes context.names (site_of context) (input_head connector memlet) accepted'))
      good.agrees good.outside (put_meaning context.names.meanings connector _ (above context) (λ none. none) good.programs) good
  pass_kept context line is_tasklet' (output_head connector memlet) fit due accepted' shape good =
      let kind = output_kind context.block.kind connector memlet fit in
      leaf context (output line connector (memlet_of memlet)) (with_meaning context.names connector (Output (connector_dimensions context.names memlet))) _ _ _ shape kind
      (lines.put_out context.names (site_of context) (at_now context) line connector memlet (is_at_now context shape kind good) fit (passes context.names (site_of context) (output_head connector memlet) accepted'))
      good.agrees good.outside (put_meaning context.names.meanings connector _ (above context) (λ none. none) good.programs) good
  pass_kept context line is_tasklet' (consume_decorator from size) fit due accepted' shape good =
      waiting context context.names _ context.parameters _ _ (consume_def line from size) context.symbols refl good.programs refl
      (lines.decorated context.names (site_of context) (at_now context) from size (is_at_now context shape (decorator_kind context.block.kind from size fit) good) fit (passes context.names (site_of context) (consume_decorator from size) accepted')) good
  pass_kept context line is_tasklet' (consume_head name element worker) fit due accepted' shape good = consume_kept context line is_tasklet' name element worker fit due accepted' shape good
  pass_kept context line is_tasklet' (elif_head when) fit due accepted' shape good = waiting context context.names _ context.parameters _ _ block context.symbols refl good.programs refl tt good
  pass_kept context line is_tasklet' else_head fit due accepted' shape good = waiting context context.names _ context.parameters _ _ block context.symbols refl good.programs refl tt good
