-- Each accepted line keeps what is known of connectors.
use Rattle.std.proofs.Common.{◌≡◌, ◌∙◌, ℕ, ◌+◌, List, [], ◌∷◌, ◌++◌, length, take, Bool, true, false, not, ◌||◌, if◌then◌else◌, Option, Some, None, is_some, bytes_eq, refl, ap, sym, subst, arith}
use Rattle.std.specs.Bool.{⊤}
use Rattle.std.specs.List.{AllByRecursion, list_any}
use Rattle.sd_lex.specs.PlainTree.{Expressions, StatementTree, argument_array, local_array, local_stream, assign, copy, reduce, map_scope, tasklet, consume_scope, call, for_loop, while_loop, branch, input, output, set, set_at, tasklet_branch, Block}
use Rattle.sd_line.specs.declared.line.head.BlockKind.{BlockKind}
use Rattle.sd_line.specs.declared.line.head.BlockKind.TheVariants.{Top, Program, Scope, Tasklet}
use Rattle.sd_line.specs.line.Head.{HeadTree, import_line, symbol_line, program_decorator, program_head, statement_head, reduce_head, input_head, output_head, consume_decorator, consume_head, elif_head, else_head}
use Rattle.sd_phrase.specs.Memlet.{MemletTree}
use Rattle.sd_names.specs.declared.meaning.Meaning.{Meaning}
use Rattle.sd_names.specs.declared.meaning.Meaning.TheVariants.{Symbol, Variable, Program as Program_name, Worker, Input, Output, Local}
use Rattle.sd_names.specs.declared.meaning.Container.{Container}
use Rattle.sd_names.specs.declared.meaning.Container.TheVariants.{Array, Stream}
use Rattle.sd_names.specs.Names.{Name, Names, listed, put, meaning_of, is_free, is_among, noted, is_input, is_stream, with_meaning, all_meaning}
use Rattle.sd_names.specs.Expressions.{affine_list, count_of, optional}
use Rattle.sd_names.specs.Extents.{one_extent, or_one}
use Rattle.sd_refusal.specs.OverLimit.{is_tasklet}
use Rattle.sd_uses.specs.Uses.{part, target, uses}
use Rattle.sd_uses.specs.UnknownName.{is_unknown_use, assigns_unknown}
use Rattle.sd_refusal.specs.NotAForm.{is_misplaced, misuses, is_other_output}
use Rattle.sd_uses.specs.Twice.{are_not_new, declares_local, if_new}
use Rattle.sd_refusal.specs.declared.site.Site.{Site}
use Rattle.sd_context.specs.context.After.{context_after}
use Rattle.sd_context.specs.context.Context.{Opener, function, statement, if_block, OpenBlock, Awaited, nothing, block, function_def, consume_def, Context, site_of}
use Rattle.sd_context.specs.context.Declaring.{with_worker, element_names, connector_dimensions}
use Rattle.sd_context.specs.context.Placing.{memlet_of, kind_in, lambda_or_last, decorator_line, consumer_of}
use Rattle.sd_program.specs.Names.{Named, in_force}
use Rattle.sd_read.proofs.readable_lemmas.kept.Affine.{negated}
use Rattle.sd_read.proofs.readable_lemmas.kept.Heads.{AreExtents, Fits, IsBody, AreNested}
use Rattle.sd_read.proofs.readable_lemmas.kept.InForce.{listed-put, take-put}
use Rattle.sd_read.proofs.readable_lemmas.kept.Nesting.{top_is_file}
use Rattle.sd_read.proofs.readable_lemmas.kept.NewNames.{declares_new}
use Rattle.sd_read.proofs.readable_lemmas.kept.Passing.{Passes, passes, neither, true_is_not_false, false_is_not_true}
use Rattle.sd_read.proofs.readable_lemmas.kept.Steps.{IsAccepted, IsWellNested}
use Rattle.sd_read.proofs.readable_lemmas.kept.Trees.{all-more, of_line}
use Rattle.sd_made_valid.proofs.read_shapes_lemmas.Declared.{free_unlisted}
use Rattle.sd_made_valid.proofs.read_shapes_lemmas.Passed.{no_argument}
use Rattle.sd_made_valid.proofs.read_shapes_lemmas.Sound.{plain_extents, bounds_accepted}
use Rattle.sd_made_valid.specs.read_dimensions.Counts.{dimensions_in, Counts, CountsOf}
use Rattle.sd_made_valid.proofs.read_dimensions_lemmas.Connectors.{inputs_in, outputs_in}
use Rattle.sd_made_valid.proofs.read_dimensions_lemmas.Meanings.{AreTied, input_tied, output_tied, longer}
use Rattle.sd_made_valid.proofs.read_dimensions_lemmas.Accepted.{scalar_output, element_output, use_counted, uses_counted}
use Rattle.sd_made_valid.proofs.read_dimensions_lemmas.Wholes.{whole_dimensions, argument_whole, local_whole, input_connector, output_connector}
use Rattle.sd_made_valid.proofs.read_dimensions_lemmas.Stack.{in_task, inputs_by, outputs_by, IsStraight, inputs_open, outputs_open, IsGoodOpener, IsStack, IsGoodBy, IsGood, room, all_more, stack_more, file_stack}
use Rattle.sd_made_valid.proofs.read_dimensions_lemmas.Kept.{begun, fresh_of, plain_more, variables_more, opens, whole_taken, none_known, opens_body}
use Rattle.sd_made_valid.proofs.read_dimensions_lemmas.Held.{none_held, first_found, one_more, held_more}
use Rattle.sd_made_valid.proofs.read_dimensions_lemmas.Adding.{unknown_uses, wrong_uses, well_placed, quiet, fresh, new_names, leaf, as_before, one_leaf, none_in, body_opens, opened_fresh, declaring, connector_more}

same_containers : (parameters : List Name) (names : Names) → ((all_meaning Variable names parameters).containers ≡ names.containers) × ((all_meaning Variable names parameters).declared ≡ names.declared)
same_containers [] names = (refl, refl)
same_containers (parameter ∷ parameters) names = same_containers parameters (with_meaning names parameter Variable)

-- ---- arguments

pub argument_good : (context : Context) (line : ℕ) (scoped : Bool) (at : ℕ) (name : Name) (bits : ℕ) (extents : Expressions) → AreExtents extents → IsAccepted context (statement_head (argument_array at name bits extents)) → IsGood context →
    IsGood (context_after context line scoped (statement_head (argument_array at name bits extents)))
argument_good context line scoped at name bits extents few accepted' ((wholes, good), functions) =
    let s = argument_array at name bits extents in
    let names = context.names in
    let passed = passes names (site_of context) (statement_head s) accepted' in
    let free = (new_names context wholes good (site_of context) (statement_head s) passed).0 in
    let found : Container = Array (or_one (affine_list names extents)) in
    let more : Named ℕ = (name, whole_dimensions found) ∷ wholes in
    let has = one_more wholes names good.held name (whole_dimensions found) free in
    let counts : Counts more s = (whole_dimensions found, (first_found wholes name (whole_dimensions found), argument_whole names extents (bounds_accepted names (site_of context) s passed few (plain_extents extents)))) in (
      (
        more,
        record {
          stack = stack_more wholes more has context.block context.outer names.meanings false (quiet context wholes good);
          held = held_more wholes names good.held name found free;
          arguments = all-more _ context.arguments s (all_more wholes more has context.arguments good.arguments) counts;
        },
      ),
      functions,
    )

-- ---- statements

module _ (context : Context) (line : ℕ) (scoped : Bool) (wholes : Named ℕ) (good : IsGoodBy wholes context.block context.outer context.names context.connects context.arguments) where
  abbrev names : Names
  names = context.names

  abbrev outer : List OpenBlock
  outer = context.block ∷ context.outer

  abbrev tied : AreTied names.meanings (inputs_open wholes outer) (outputs_open wholes outer)
  tied = good.stack.tied

  abbrev Behind : HeadTree → Type 0
  Behind head = let after = context_after context line scoped head in (more : Named ℕ) × IsGoodBy more after.block after.outer after.names after.connects after.arguments

  statement_good : (s : StatementTree) → Fits context.block.kind (statement_head s) → IsAccepted context (statement_head s) → Behind (statement_head s)
  statement_good (argument_array at name bits extents) fit accepted' = absurd (no_argument context.block.kind (argument_array at name bits extents) fit)
  statement_good (local_array at name extents bits) fit accepted' =
      let s = local_array at name extents bits in
      let passed = passes names (site_of context) (statement_head s) accepted' in
      let free = (new_names context wholes good (site_of context) (statement_head s) passed).0 in
      let found : Container = Array (affine_list names extents) in
      declaring context wholes good s name found free (λ more known. refl) (λ more known. refl) (λ more. tt) (λ ins outs. tt)
      (whole_dimensions found, (first_found wholes name (whole_dimensions found), local_whole names extents (bounds_accepted names (site_of context) s passed (of_line context.block.kind s fit) (plain_extents extents))))
  statement_good (local_stream at name bits size) fit accepted' =
      let s = local_stream at name bits size in
      let passed = passes names (site_of context) (statement_head s) accepted' in
      let free = (new_names context wholes good (site_of context) (statement_head s) passed).0 in
      declaring context wholes good s name Stream free (λ more known. refl) (λ more known. refl) (λ more. tt) (λ ins outs. tt) (first_found wholes name 0)
  statement_good (assign at name subscripts add value) fit accepted' = (wholes, one_leaf context wholes good (assign at name subscripts add value) (λ known. refl) (λ known. refl) tt tt tt)
  statement_good (copy at to to_dimensions from from_dimensions) fit accepted' = (wholes, one_leaf context wholes good (copy at to to_dimensions from from_dimensions) (λ known. refl) (λ known. refl) tt tt tt)
  statement_good (reduce at lambda from to axis identity) fit accepted' = absurd (of_line context.block.kind (reduce at lambda from to axis identity) fit)
  statement_good (map_scope at parameters ranges body) fit accepted' =
      let s = map_scope at parameters ranges body in
      let passed = passes names (site_of context) (statement_head s) accepted' in
      let new : OpenBlock = begun (length names.containers) (statement s) Scope line (context.block.depth + 1) (length names.meanings) in
      let stack = body_opens context wholes good (statement s) Scope line (context.block.depth + 1) tt (none_in context wholes good s (λ none. none) fit) tt in
      let same = same_containers parameters names in (
        wholes,
        as_before context wholes good new outer (all_meaning Variable names parameters) false same.0 same.1
            (variables_more wholes new outer false parameters names (opened_fresh context wholes good new outer stack parameters (new_names context wholes good (site_of context) (statement_head s) passed)) stack),
      )
  statement_good (tasklet at body) fit accepted' =
      let s = tasklet at body in
      let new : OpenBlock = begun (length names.containers) (statement s) Tasklet line (context.block.depth + 0) (length names.meanings) in (
        wholes,
        as_before context wholes good new outer names true refl refl
            (opens wholes context.block context.outer names.meanings names.meanings context.connects true good.stack (omega arith) (whole_taken wholes names.meanings) (length names.containers) (statement s) Tasklet line (context.block.depth + 0) tt
            (none_in context wholes good s (λ none. none) fit) (λ may task. tt)),
      )
  statement_good (consume_scope at from size name element worker body) fit accepted' = absurd (of_line context.block.kind (consume_scope at from size name element worker body) fit)
  statement_good (call at name arguments) fit accepted' = (wholes, one_leaf context wholes good (call at name arguments) (λ known. refl) (λ known. refl) tt tt tt)
  statement_good (for_loop at name begin end step body) fit accepted' =
      let s = for_loop at name begin end step body in
      let passed = passes names (site_of context) (statement_head s) accepted' in
      let new : OpenBlock = begun (length names.containers) (statement s) Program line (context.block.depth + 1) (length names.meanings) in
      let stack = body_opens context wholes good (statement s) Program line (context.block.depth + 1) tt (none_in context wholes good s (λ none. none) fit) tt in
      let free = new_names context wholes good (site_of context) (statement_head s) passed in (
        wholes,
        as_before context wholes good new outer (with_meaning names name Variable) false refl refl
            (plain_more wholes new outer names.meanings false name Variable tt (opened_fresh context wholes good new outer stack (name ∷ []) free).0 stack),
      )
  statement_good (while_loop at when body) fit accepted' =
      let s = while_loop at when body in
      let stack = body_opens context wholes good (statement s) Program line (context.block.depth + 1) tt (none_in context wholes good s (λ none. none) fit) tt in
      (wholes, as_before context wholes good _ outer names false refl refl stack)
  statement_good (branch at when body other) fit accepted' =
      let stack = body_opens context wholes good (if_block [] when) Program line (context.block.depth + 0) tt (none_in context wholes good (branch at when body other) (λ none. none) fit) (tt, tt) in
      (wholes, as_before context wholes good _ outer names false refl refl stack)
  statement_good (input at connector memlet) fit accepted' = absurd (of_line context.block.kind (input at connector memlet) fit)
  statement_good (output at connector memlet) fit accepted' = absurd (of_line context.block.kind (output at connector memlet) fit)
  statement_good (set at name value) fit accepted' =
      (wholes, by_test (declares_local (meaning_of names name)) (new_names context wholes good (site_of context) (statement_head s) passed)) where
        s : StatementTree
        s = set at name value

        passed : Passes names (site_of context) (statement_head s)
        passed = passes names (site_of context) (statement_head s) accepted'

        now : OpenBlock
        now = record context.block { statements = context.block.statements ++ s ∷ [] }

        stack : IsStack wholes now context.outer names.meanings false
        stack = leaf context wholes good s (λ known. refl) (λ known. refl) tt tt (
          scalar_output names (inputs_open wholes outer) (outputs_open wholes outer) tied name (neither (is_input (meaning_of names name)) (is_other_output names name 0) (well_placed names (site_of context) s passed)).1,
          use_counted names (inputs_open wholes outer) (outputs_open wholes outer) tied value (unknown_uses names (site_of context) (statement_head s) passed) (wrong_uses names (site_of context) (statement_head s) passed),
        )

        by_test : (test : Bool) → AllByRecursion (λ name. is_free names name ≡ true) (if_new test name) → IsGoodBy wholes now context.outer (if test then with_meaning names name Local else names) false context.arguments
        by_test true free =
            as_before context wholes good now context.outer (with_meaning names name Local) false refl refl
            (plain_more wholes now context.outer names.meanings false name Local tt (fresh_of wholes now context.outer names.meanings false name stack (free_unlisted names name free.0).0) stack)
        by_test false free = as_before context wholes good now context.outer names false refl refl stack
  statement_good (set_at at name subscripts value) fit accepted' =
      let s = set_at at name subscripts value in
      let passed = passes names (site_of context) (statement_head s) accepted' in
      let ins = inputs_open wholes outer in
      let outs = outputs_open wholes outer in
      let assigned = (neither (assigns_unknown names (statement_head s)) (list_any (is_unknown_use names) (uses context.block.kind (statement_head s))) passed.known).0 in
      let placed = (neither (is_stream names name || is_input (meaning_of names name)) (is_other_output names name (count_of subscripts)) (well_placed names (site_of context) s passed)).1 in (
        wholes,
        one_leaf context wholes good s (λ known. refl) (λ known. refl) tt tt (
          element_output names ins outs tied name subscripts assigned placed,
          uses_counted names ins outs tied subscripts value (unknown_uses names (site_of context) (statement_head s) passed) (wrong_uses names (site_of context) (statement_head s) passed),
        ),
      )
  statement_good (tasklet_branch at when body other) fit accepted' =
      let s = tasklet_branch at when body other in
      let passed = passes names (site_of context) (statement_head s) accepted' in
      let right = use_counted names (inputs_open wholes outer) (outputs_open wholes outer) tied when (unknown_uses names (site_of context) (statement_head s) passed) (wrong_uses names (site_of context) (statement_head s) passed) in (
        wholes,
        as_before context wholes good _ outer names false refl refl
            (opens wholes context.block context.outer names.meanings names.meanings context.connects false good.stack (omega arith) (whole_taken wholes names.meanings) (length names.containers) (if_block [] when) Tasklet line (context.block.depth + 0)
            (tt, right) tied (λ may task. false_is_not_true may)),
      )

  -- ---- connectors

  may_connect : (site : Site) (head : HeadTree) → Passes names site head → is_misplaced names site head ≡ not site.connects → site.connects ≡ true
  may_connect site head passed is = negated site.connects (sym is ∙ (neither (is_misplaced names site head) (list_any (misuses names) (uses site.kind head)) passed.form).0)

  input_task : (kind : BlockKind) (connector : Name) (memlet : MemletTree) → Fits kind (input_head connector memlet) → kind ≡ Tasklet
  input_task Top connector memlet fit = absurd fit
  input_task Program connector memlet fit = absurd fit
  input_task Scope connector memlet fit = absurd fit
  input_task Tasklet connector memlet fit = refl

  output_task : (kind : BlockKind) (connector : Name) (memlet : MemletTree) → Fits kind (output_head connector memlet) → kind ≡ Tasklet
  output_task Top connector memlet fit = absurd fit
  output_task Program connector memlet fit = absurd fit
  output_task Scope connector memlet fit = absurd fit
  output_task Tasklet connector memlet fit = refl

  input_good : (connector : Name) (memlet : MemletTree) → Fits context.block.kind (input_head connector memlet) → IsAccepted context (input_head connector memlet) → Behind (input_head connector memlet)
  input_good connector memlet fit accepted' =
      let head = input_head connector memlet in
      let passed = passes names (site_of context) head accepted' in
      let task = input_task context.block.kind connector memlet fit in
      let s : StatementTree = input line connector (memlet_of memlet) in
      let meaning : Meaning = Input (connector_dimensions names memlet) in
      let new = (free_unlisted names connector (new_names context wholes good (site_of context) head passed).0).0 in
      let ins = inputs_open wholes outer in
      let outs = outputs_open wholes outer in
      let counted = input_connector wholes names good.held.known memlet.name memlet.dimensions (neither (is_unknown_use names (part memlet.name memlet.dimensions)) false (unknown_uses names (site_of context) head passed)).0 in
      let fresh' = fresh context wholes good connector (new_names context wholes good (site_of context) head passed).0 in
      let tied' : AreTied (put names.meanings connector meaning) ((connector, dimensions_in wholes (memlet_of memlet)) ∷ ins) outs =
      subst (λ count. AreTied (put names.meanings connector meaning) ((connector, count) ∷ ins) outs) counted.0 (input_tied names.meanings ins outs connector (connector_dimensions names memlet) fresh'.none.1 tied) in (
        wholes,
        as_before context wholes good _ context.outer (with_meaning names connector meaning) true refl refl
            (connector_more context wholes good s (put names.meanings connector meaning) refl task (good.stack.straight (may_connect (site_of context) head passed refl) task) tt counted.1 tied'
            (take-put names.meanings connector meaning context.block.before.meanings new (room wholes names.meanings context.block.before.meanings context.outer good.stack.outside)) (longer names.meanings connector meaning)),
      )

  output_good : (connector : Name) (memlet : MemletTree) → Fits context.block.kind (output_head connector memlet) → IsAccepted context (output_head connector memlet) → Behind (output_head connector memlet)
  output_good connector memlet fit accepted' =
      let head = output_head connector memlet in
      let passed = passes names (site_of context) head accepted' in
      let task = output_task context.block.kind connector memlet fit in
      let s : StatementTree = output line connector (memlet_of memlet) in
      let meaning : Meaning = Output (connector_dimensions names memlet) in
      let new = (free_unlisted names connector (new_names context wholes good (site_of context) head passed).0).0 in
      let ins = inputs_open wholes outer in
      let outs = outputs_open wholes outer in
      let counted = output_connector wholes names good.held.known memlet.name memlet.dimensions
      (neither (is_unknown_use names (target memlet.name memlet.dimensions)) false (unknown_uses names (site_of context) head passed)).0
      (neither (misuses names (target memlet.name memlet.dimensions)) false (wrong_uses names (site_of context) head passed)).0 in
      let fresh' = fresh context wholes good connector (new_names context wholes good (site_of context) head passed).0 in
      let tied' : AreTied (put names.meanings connector meaning) ins ((connector, dimensions_in wholes (memlet_of memlet)) ∷ outs) =
      subst (λ count. AreTied (put names.meanings connector meaning) ins ((connector, count) ∷ outs)) counted.0 (output_tied names.meanings ins outs connector (connector_dimensions names memlet) fresh'.none.0 tied) in (
        wholes,
        as_before context wholes good _ context.outer (with_meaning names connector meaning) true refl refl
            (connector_more context wholes good s (put names.meanings connector meaning) refl task (good.stack.straight (may_connect (site_of context) head passed refl) task) tt counted.1 tied'
            (take-put names.meanings connector meaning context.block.before.meanings new (room wholes names.meanings context.block.before.meanings context.outer good.stack.outside)) (longer names.meanings connector meaning)),
      )

  -- ---- the `def` of a consume

  consume_body : (kind : BlockKind) (name element : Name) (worker : Option Name) → Fits kind (consume_head name element worker) → IsBody kind
  consume_body Top name element worker fit = absurd fit
  consume_body Program name element worker fit = tt
  consume_body Scope name element worker fit = tt
  consume_body Tasklet name element worker fit = absurd fit

  consumer_good : (more ins outs : Named ℕ) (kind : BlockKind) (awaited : Awaited) (name element : Name) (worker : Option Name) → (is_tasklet kind ≡ false → in_force more element ≡ Some 0) → IsGoodOpener more ins outs kind (consumer_of awaited name element worker)
  consumer_good more ins outs kind nothing name element worker holds = holds
  consumer_good more ins outs kind block name element worker holds = holds
  consumer_good more ins outs kind (function_def at) name element worker holds = holds
  consumer_good more ins outs kind (consume_def at from size) name element worker holds = holds

  consumer_straight : (awaited : Awaited) (name element : Name) (worker : Option Name) → IsStraight (consumer_of awaited name element worker)
  consumer_straight nothing name element worker = tt
  consumer_straight block name element worker = tt
  consumer_straight (function_def at) name element worker = tt
  consumer_straight (consume_def at from size) name element worker = tt

  consumer_inputs : (awaited : Awaited) (name element : Name) (worker : Option Name) (outside : Named ℕ) → inputs_by (consumer_of awaited name element worker) (λ known. known) outside ≡ (element, 0) ∷ []
  consumer_inputs nothing name element worker outside = refl
  consumer_inputs block name element worker outside = refl
  consumer_inputs (function_def at) name element worker outside = refl
  consumer_inputs (consume_def at from size) name element worker outside = refl

  consumer_outputs : (awaited : Awaited) (name element : Name) (worker : Option Name) (outside : Named ℕ) → outputs_by (consumer_of awaited name element worker) (λ known. known) outside ≡ []
  consumer_outputs nothing name element worker outside = refl
  consumer_outputs block name element worker outside = refl
  consumer_outputs (function_def at) name element worker outside = refl
  consumer_outputs (consume_def at from size) name element worker outside = refl

  -- the worker is another name than the element
  abbrev IsNewWorker : Name → Option Name → Type 0
  IsNewWorker element None = ⊤
  IsNewWorker element (Some name) = (is_some (listed names.meanings name) ≡ false) × (bytes_eq name element ≡ false)

  new_worker : (element : Name) (worker : Option Name) → are_not_new names [] (element ∷ optional worker) ≡ false → IsNewWorker element worker
  new_worker element None none = tt
  new_worker element (Some name) none =
      let later = neither (not (is_free names element) || is_among [] element) (are_not_new names (noted [] element) (name ∷ [])) none in
      let own = neither (not (is_free names name) || is_among (noted [] element) name) (are_not_new names (noted (noted [] element) name) []) later.1 in
      let halves = neither (not (is_free names name)) (is_among (noted [] element) name) own.0 in
      ((free_unlisted names name (negated (is_free names name) halves.0)).0, (neither (bytes_eq name element) false halves.1).0)

  consume_good : (scoped' : Bool) (name element : Name) (worker : Option Name) → Fits context.block.kind (consume_head name element worker) → IsAccepted context (consume_head name element worker) →
      (let after = context_after context line scoped' (consume_head name element worker) in (more : Named ℕ) × IsGoodBy more after.block after.outer after.names after.connects after.arguments)
  consume_good false name element worker fit accepted' =
      (more, by_worker worker (new_worker element worker (declares_new names (site_of context) head passed))) where
        head : HeadTree
        head = consume_head name element worker

        passed : Passes names (site_of context) head
        passed = passes names (site_of context) head accepted'

        free : is_free names element ≡ true
        free = (new_names context wholes good (site_of context) head passed).0

        found : Container
        found = Array (one_extent ∷ [])

        more : Named ℕ
        more = (element, whole_dimensions found) ∷ wholes

        opener : Opener
        opener = consumer_of context.awaited name element worker

        new : OpenBlock
        new = begun (length names.containers) opener Scope line (context.block.depth + 1) (length names.meanings)

        before : IsStack more context.block context.outer names.meanings context.connects
        before = stack_more wholes more (one_more wholes names good.held element (whole_dimensions found) free) context.block context.outer names.meanings context.connects good.stack

        stack : IsStack more new outer names.meanings false
        stack = opens_body more context.block context.outer names.meanings context.connects (length names.containers) opener Scope line (context.block.depth + 1) tt
            (none_known more context.block context.outer names.meanings (consume_body context.block.kind name element worker fit) before.tied)
            (consumer_good more [] [] Scope context.awaited name element worker (λ none. first_found wholes element 0)) before

        with_stack : (after : List (Name × Meaning)) → IsStack more new outer after false → IsGoodBy more new outer (record names { meanings = after; containers = put names.containers element found; declared = noted names.declared element }) false context.arguments
        with_stack after now = record {
          stack = now;
          held = held_more wholes names good.held element found free;
          arguments = all_more wholes more (one_more wholes names good.held element (whole_dimensions found) free) context.arguments good.arguments;
        }

        by_worker : (worker : Option Name) → IsNewWorker element worker → IsGoodBy more new outer (with_worker worker (element_names false names element)) false context.arguments
        by_worker None fresh' = with_stack names.meanings stack
        by_worker (Some own) fresh' = with_stack (put names.meanings own Worker) (plain_more more new outer names.meanings false own Worker tt (fresh_of more new outer names.meanings false own stack fresh'.0) stack)
  consume_good true name element worker fit accepted' =
      (wholes, by_worker worker (new_worker element worker (declares_new names (site_of context) head passed))) where
        head : HeadTree
        head = consume_head name element worker

        passed : Passes names (site_of context) head
        passed = passes names (site_of context) head accepted'

        free : is_free names element ≡ true
        free = (new_names context wholes good (site_of context) head passed).0

        unlisted : is_some (listed names.meanings element) ≡ false
        unlisted = (free_unlisted names element free).0

        opener : Opener
        opener = consumer_of context.awaited name element worker

        new : OpenBlock
        new = begun (length names.containers) opener Tasklet line (context.block.depth + 1) (length names.meanings)

        after : List (Name × Meaning)
        after = put names.meanings element (Input 0)

        taken : take (length names.meanings) after ≡ names.meanings
        taken = take-put names.meanings element (Input 0) (length names.meanings) unlisted (omega arith) ∙ whole_taken wholes names.meanings

        none : AreTied names.meanings [] []
        none = none_known wholes context.block context.outer names.meanings (consume_body context.block.kind name element worker fit) tied

        now_tied : AreTied after (inputs_open wholes (new ∷ outer)) (outputs_open wholes (new ∷ outer))
        now_tied =
            subst (λ ins. AreTied after ins (outputs_open wholes (new ∷ outer))) (sym (consumer_inputs context.awaited name element worker (inputs_open wholes outer)))
            (subst (λ outs. AreTied after ((element, 0) ∷ []) outs) (sym (consumer_outputs context.awaited name element worker (outputs_open wholes outer))) (input_tied names.meanings [] [] element 0 refl none))

        stack : IsStack wholes new outer after true
        stack = opens wholes context.block context.outer names.meanings after context.connects true good.stack (longer names.meanings element (Input 0)) taken (length names.containers) opener Tasklet line (context.block.depth + 1)
            (consumer_good wholes (inputs_open wholes (new ∷ outer)) (outputs_open wholes (new ∷ outer)) Tasklet context.awaited name element worker (λ is. true_is_not_false is)) now_tied
            (λ may task. consumer_straight context.awaited name element worker)

        other : (own : Name) → (is_some (listed names.meanings own) ≡ false) × (bytes_eq own element ≡ false) → is_some (listed after own) ≡ false
        other own fresh' = ap is_some (listed-put names.meanings element (Input 0) own ∙ ap (λ test. if test then Some (Input 0) else listed names.meanings own) fresh'.1) ∙ fresh'.0

        by_worker : (worker : Option Name) → IsNewWorker element worker → IsGoodBy wholes new outer (with_worker worker (element_names true names element)) true context.arguments
        by_worker None fresh' = as_before context wholes good new outer (with_meaning names element (Input 0)) true refl refl stack
        by_worker (Some own) fresh' =
            as_before context wholes good new outer (with_meaning (with_meaning names element (Input 0)) own Worker) true refl refl
            (plain_more wholes new outer after true own Worker tt (fresh_of wholes new outer after true own stack (other own fresh')) stack)

  -- ---- the head of a program

  program_top : (kind : BlockKind) (name : Name) (arguments : Block) → Fits kind (program_head name arguments) → kind ≡ Top
  program_top Top name arguments fit = refl
  program_top Program name arguments fit = absurd fit
  program_top Scope name arguments fit = absurd fit
  program_top Tasklet name arguments fit = absurd fit

  program_good : (at : ℕ) (name : Name) (arguments : Block) → Fits context.block.kind (program_head name arguments) → IsAccepted context (program_head name arguments) → IsWellNested context →
      IsGoodBy [] (begun (length names.containers) (function name) Program at (context.block.depth + 0) (length names.meanings)) outer (with_meaning (record names { containers = []; declared = [] }) name (Program_name None)) false []
  program_good at name arguments fit accepted' shape =
      let head = program_head name arguments in
      let passed = passes names (site_of context) head accepted' in
      let top = program_top context.block.kind name arguments fit in
      let none = top_is_file context.block context.outer shape top in
      let before : IsStack [] context.block context.outer names.meanings context.connects =
      file_stack wholes [] context.block context.outer names.meanings context.connects top none (subst (AreNested context.block) none shape).1 good.stack in
      let new : OpenBlock = begun (length names.containers) (function name) Program at (context.block.depth + 0) (length names.meanings) in
      let tied' : AreTied names.meanings [] [] =
      subst (λ ins. AreTied names.meanings ins []) (ap (λ kind. in_task kind (inputs_by context.block.opener (inputs_in [] context.block.statements) (inputs_open [] context.outer))) top)
      (subst (λ outs. AreTied names.meanings (inputs_open [] outer) outs) (ap (λ kind. in_task kind (outputs_by context.block.opener (outputs_in [] context.block.statements) (outputs_open [] context.outer))) top) before.tied) in
      let stack : IsStack [] new outer names.meanings false = opens_body [] context.block context.outer names.meanings context.connects (length names.containers) (function name) Program at (context.block.depth + 0) tt tied' tt before in
      record {
        stack = plain_more [] new outer names.meanings false name (Program_name None) tt (fresh_of [] new outer names.meanings false name stack (free_unlisted names name (new_names context wholes good (site_of context) head passed).0).0) stack;
        held = none_held;
        arguments = tt;
      }

  -- ---- all lines

  silent : IsGoodBy wholes context.block context.outer names false context.arguments
  silent = as_before context wholes good context.block context.outer names false refl refl (quiet context wholes good)

  line_good : (head : HeadTree) → Fits context.block.kind head → IsAccepted context head → IsWellNested context → Behind head
  line_good import_line fit accepted' shape = (wholes, silent)
  line_good (symbol_line name quoted) fit accepted' shape =
      let passed = passes names (site_of context) (symbol_line name quoted) accepted' in (
        wholes,
        as_before context wholes good context.block context.outer (with_meaning names name Symbol) false refl refl
            (plain_more wholes context.block context.outer names.meanings false name Symbol tt (fresh context wholes good name (new_names context wholes good (site_of context) (symbol_line name quoted) passed).0) (quiet context wholes good)),
      )
  line_good program_decorator fit accepted' shape = (wholes, silent)
  line_good (program_head name arguments) fit accepted' shape = ([], program_good (decorator_line context.awaited line) name arguments fit accepted' shape)
  line_good (statement_head s) fit accepted' shape = statement_good s fit accepted'
  line_good (reduce_head lambda from to axis identity) fit accepted' shape =
      (wholes, one_leaf context wholes good (reduce line (lambda_or_last (kind_in lambda)) from to axis identity) (λ known. refl) (λ known. refl) tt tt tt)
  line_good (input_head connector memlet) fit accepted' shape = input_good connector memlet fit accepted'
  line_good (output_head connector memlet) fit accepted' shape = output_good connector memlet fit accepted'
  line_good (consume_decorator from size) fit accepted' shape = (wholes, silent)
  line_good (consume_head name element worker) fit accepted' shape = consume_good scoped name element worker fit accepted'
  line_good (elif_head when) fit accepted' shape = (wholes, silent)
  line_good else_head fit accepted' shape = (wholes, silent)

same_functions : (context : Context) (line : ℕ) (scoped : Bool) (head : HeadTree) → (context_after context line scoped head).functions ≡ context.functions
same_functions context line scoped import_line = refl
same_functions context line scoped (symbol_line name quoted) = refl
same_functions context line scoped program_decorator = refl
same_functions context line scoped (program_head name arguments) = refl
same_functions context line scoped (statement_head (argument_array at name bits extents)) = refl
same_functions context line scoped (statement_head s) = refl
same_functions context line scoped (reduce_head lambda from to axis identity) = refl
same_functions context line scoped (input_head connector memlet) = refl
same_functions context line scoped (output_head connector memlet) = refl
same_functions context line scoped (consume_decorator from size) = refl
same_functions context line scoped (consume_head name element worker) = refl
same_functions context line scoped (elif_head when) = refl
same_functions context line scoped else_head = refl

pub pass_good : (context : Context) (line : ℕ) (scoped : Bool) (head : HeadTree) → Fits context.block.kind head → IsAccepted context head → IsWellNested context → IsGood context → IsGood (context_after context line scoped head)
pass_good context line scoped head fit accepted' shape ((wholes, good), functions) =
    (line_good context line scoped wholes good head fit accepted' shape, subst (λ functions. AllByRecursion CountsOf functions) (sym (same_functions context line scoped head)) functions)
