-- The ends of blocks keep how long the chains of calls are.
use Rattle.std.proofs.Common.{◌≡◌, ◌≤◌, ℕ, ◌+◌, max, nat_lt, List, [], ◌∷◌, ◌++◌, take, reverse, Bool, true, false, if◌then◌else◌, Some, Ok, Err, refl, ap, sym, subst, arith}
use Rattle.std.specs.Bool.{⊤}
use Rattle.std.proofs.Math.Nat.{le-max_left, max-le}
use Rattle.std.proofs.lemmas.List.{reverse-append}
use Rattle.sd_lex.specs.PlainTree.{StatementTree, argument_array, local_array, local_stream, assign, copy, reduce, map_scope, tasklet, consume_scope, call, for_loop, while_loop, branch, input, output, set, set_at, tasklet_branch, Block, FunctionTree}
use Rattle.sd_lex.specs.TreeFold.{block_listed}
use Rattle.sd_line.specs.declared.line.head.BlockKind.{BlockKind}
use Rattle.sd_phrase.specs.declared.reading.Reading.TheVariants.{Form}
use Rattle.sd_line.specs.line.Head.{HeadTree, import_line, symbol_line, program_decorator, program_head, statement_head, reduce_head, input_head, output_head, consume_decorator, consume_head, elif_head, else_head}
use Rattle.sd_names.specs.declared.meaning.Meaning.TheVariants.{Program as Program_name}
use Rattle.sd_names.specs.Names.{Name, put}
use Rattle.sd_refusal.specs.Counting.{counts_behind}
use Rattle.sd_refusal.specs.NotAForm.{is_program}
use Rattle.sd_refusal.specs.OverLimit.{is_tasklet, call_depth}
use Rattle.sd_refusal.specs.declared.site.Counts.{Counts}
use Rattle.sd_context.specs.context.Context.{Branch, Opener, file, function, statement, consumer, if_block, else_block, OpenBlock, Context, site_of}
use Rattle.sd_context.specs.context.After.{begins_tasklet, first_connectors, context_after}
use Rattle.sd_context.specs.blocks.Closing.{states_behind, states_counted, late_states, branch_with, nested, with_body, finished_by, finished, signature_of, closed_by, closed_into}
use Rattle.sd_context.specs.blocks.Continuing.{goes_on, branches_of, next_opener}
use Rattle.sd_read.proofs.readable_lemmas.kept.Heads.{IsFile, Opens, IsOpenedIn, AreNested}
use Rattle.sd_read.proofs.readable_lemmas.kept.Passing.{passes, false_is_not_true}
use Rattle.sd_read.proofs.readable_lemmas.kept.Steps.{refused_is_none, IsAccepted, Keeps, branch_counted, behind_branch, behind_other}
use Rattle.sd_read.proofs.readable_lemmas.kept.Nesting.{top_is_file}
use Rattle.sd_read.proofs.readable_lemmas.kept.Trees.{all-more}
use Rattle.sd_read.proofs.readable_lemmas.kept.Affine.{none_is_not_some}
use Rattle.sd_read.proofs.readable_lemmas.kept.Counted.{within, same_counts}
use Rattle.sd_program.specs.Names.{Named}
use Rattle.sd_program.specs.Calls.{calls_in, calls_in_all, call_depths, CallShallowly}
use Rattle.sd_read.proofs.readable_lemmas.counts.Shallow.{DepthsAgree, line_meanings, take_agree, depth_agrees, AllFew, BranchesFew, Held, AreShallow, blocks-weaken, blocks-more, all-listed, FewCalls, same_calls, statement_after, counted_line, line_total}

-- ---- ends of blocks

late_calls : (lines : List ℕ) (counts now : Counts) → states_counted counts lines ≡ Ok now → now.calls ≡ counts.calls
late_calls [] counts now is = sym (ap (λ c. c.calls) (same_counts counts now is))
late_calls (line ∷ lines) counts now is = by_test (late_calls lines (record counts { states = counts.states + 1 }) now) (nat_lt 255 counts.states) is where
  by_test : (states_counted (record counts { states = counts.states + 1 }) lines ≡ Ok now → now.calls ≡ counts.calls) → (test : Bool) →
      states_behind (if test then Err (record { number = 8; line = line }) else Ok (record counts { states = counts.states + 1 })) (λ next. states_counted next lines) ≡ Ok now → now.calls ≡ counts.calls
  by_test go true is = refused_is_none (record { number = 8; line = line }) now is
  by_test go false is = go is

branch_calls : (last : OpenBlock) (counts now : Counts) → branch_counted last counts ≡ Ok now → now.calls ≡ counts.calls
branch_calls last counts now is = by_test (is_program last.kind) is where
  by_test : (test : Bool) → (if test then states_counted counts (last.line ∷ []) else Ok counts) ≡ Ok now → now.calls ≡ counts.calls
  by_test true is = late_calls (last.line ∷ []) counts now is
  by_test false is = sym (ap (λ c. c.calls) (same_counts counts now is))

body_few : (depths : Named ℕ) (most : ℕ) (kind : BlockKind) (s : StatementTree) (statements : List StatementTree) → Opens kind s → AllFew depths most statements → calls_in depths (with_body s (block_listed statements)) ≤ most
body_few depths most kind (argument_array at name bits extents) statements opens all = absurd opens
body_few depths most kind (local_array at name extents bits) statements opens all = absurd opens
body_few depths most kind (local_stream at name bits size) statements opens all = absurd opens
body_few depths most kind (assign at name subscripts add value) statements opens all = absurd opens
body_few depths most kind (copy at to to_dimensions from from_dimensions) statements opens all = absurd opens
body_few depths most kind (reduce at lambda from to axis identity) statements opens all = absurd opens
body_few depths most kind (map_scope at parameters ranges body) statements opens all = all-listed depths most statements all
body_few depths most kind (tasklet at body) statements opens all = omega arith
body_few depths most kind (consume_scope at from size name element worker body) statements opens all = absurd opens
body_few depths most kind (call at name arguments) statements opens all = absurd opens
body_few depths most kind (for_loop at name begin end step body) statements opens all = all-listed depths most statements all
body_few depths most kind (while_loop at when body) statements opens all = all-listed depths most statements all
body_few depths most kind (branch at when body other) statements opens all = absurd opens
body_few depths most kind (input at connector memlet) statements opens all = absurd opens
body_few depths most kind (output at connector memlet) statements opens all = absurd opens
body_few depths most kind (set at name value) statements opens all = absurd opens
body_few depths most kind (set_at at name subscripts value) statements opens all = absurd opens
body_few depths most kind (tasklet_branch at when body other) statements opens all = absurd opens

branch_few : (depths : Named ℕ) (most : ℕ) (kind : BlockKind) (b : Branch) (other : Block) → AllFew depths most b.statements → calls_in_all depths other ≤ most → calls_in depths (branch_with kind b other) ≤ most
branch_few depths most kind b other all others = by_kind (is_tasklet kind) where
  by_kind : (test : Bool) → calls_in depths (if test then tasklet_branch b.line b.when (block_listed b.statements) other else branch b.line b.when (block_listed b.statements) other) ≤ most
  by_kind true = omega arith
  by_kind false = max-le (all-listed depths most b.statements all) others

nested_few : (depths : Named ℕ) (most : ℕ) (kind : BlockKind) (branches : List Branch) (other : List StatementTree) → BranchesFew depths most branches → AllFew depths most other → AllFew depths most (nested kind branches other)
nested_few depths most kind [] other all others = others
nested_few depths most kind (b ∷ branches) other all others =
    (branch_few depths most kind b (block_listed (nested kind branches other)) all.0 (all-listed depths most (nested kind branches other) (nested_few depths most kind branches other all.1 others)), tt)

finished_few : (depths : Named ℕ) (most : ℕ) (about kind : BlockKind) (line : ℕ) (opener : Opener) (statements : List StatementTree) (Outside : Type 0) → IsOpenedIn about kind opener →
    Held depths most opener (AllFew depths most statements) Outside → AllFew depths most (finished_by kind line opener statements)
finished_few depths most about kind line file statements Outside opened held = absurd opened
finished_few depths most about kind line (function name) statements Outside opened held = tt
finished_few depths most about kind line (statement s) statements Outside opened held = (body_few depths most kind s statements opened.1 held.0, tt)
finished_few depths most about kind line (consumer at from size name element worker) statements Outside opened held = (all-listed depths most statements held.0, tt)
finished_few depths most about kind line (if_block earlier when) statements Outside opened held =
    let last : Branch = record { line = line; when = when; statements = statements } in
    nested_few depths most kind (earlier ++ last ∷ []) [] (all-more (λ b. AllFew depths most b.statements) earlier last held.0 held.1.0) tt
finished_few depths most about kind line (else_block earlier) statements Outside opened held = nested_few depths most kind earlier statements held.0 held.1.0

file_held : (depths : Named ℕ) (most : ℕ) (opener : Opener) (Own Outside : Type 0) → IsFile opener → Held depths most opener Own Outside
file_held depths most file Own Outside is = tt
file_held depths most (function name) Own Outside is = absurd is
file_held depths most (statement s) Own Outside is = absurd is
file_held depths most (consumer line from size name element worker) Own Outside is = absurd is
file_held depths most (if_block earlier when) Own Outside is = absurd is
file_held depths most (else_block earlier) Own Outside is = absurd is

close_total : (outer : List OpenBlock) (context : Context) → context.outer ≡ outer → AreNested context.block outer →
    AreShallow (call_depths (reverse context.functions)) context.counts.calls (context.block ∷ outer) → context.counts.calls ≤ 8 → DepthsAgree context.names.meanings (reverse context.functions) →
    CallShallowly (reverse context.functions) → FewCalls (closed_into outer context)
close_total [] context is shape shallow few known functions =
    record { shallow = subst (λ outer. AreShallow (call_depths (reverse context.functions)) context.counts.calls (context.block ∷ outer)) (sym is) shallow; few = few; known = known; functions = functions }
close_total (about ∷ rest) context is shape shallow few known functions =
    by_opener context.block.opener shape.0
    (finished_few (call_depths (reverse context.functions)) context.counts.calls about.kind context.block.kind context.block.line context.block.opener context.block.statements
    (AreShallow (call_depths (reverse context.functions)) context.counts.calls (about ∷ rest)) shape.0 shallow) shallow where
      by_opener : (opener : Opener) → IsOpenedIn about.kind context.block.kind opener → AllFew (call_depths (reverse context.functions)) context.counts.calls (finished context.block) →
          Held (call_depths (reverse context.functions)) context.counts.calls opener (AllFew (call_depths (reverse context.functions)) context.counts.calls context.block.statements)
          (AreShallow (call_depths (reverse context.functions)) context.counts.calls (about ∷ rest)) → FewCalls (closed_by opener about rest context)
      by_opener file opened done held = absurd opened
      by_opener (function name) opened done held =
          let programs = reverse context.functions in
          let f : FunctionTree = record { name = name; line = context.block.line; arguments = block_listed context.arguments; body = block_listed context.block.statements } in
          let deep = all-listed (call_depths programs) context.counts.calls context.block.statements held in
          let more : f ∷ programs ≡ reverse (context.functions ++ f ∷ []) = sym (reverse-append context.functions (f ∷ [])) in
          let signature' = signature_of context.written context.parameters context.counts.calls in
          record {
            shallow = file_held (call_depths (reverse (context.functions ++ f ∷ []))) context.counts.calls about.opener _ _ (subst (AreNested about) (top_is_file about rest shape.1 opened.0) shape.1).1;
            few = few;
            known = subst (DepthsAgree (put (take context.block.before.meanings context.names.meanings) name (Program_name (Some signature')))) more
                (depth_agrees context.names.meanings context.block.before.meanings f signature' programs deep known);
            functions = subst CallShallowly more (omega (arith, deep, few), functions);
          }
      by_opener (statement s) opened done held = record {
        shallow = blocks-more (call_depths (reverse context.functions)) context.counts.calls about rest (finished context.block) done held.1;
        few = few;
        known = take_agree context.names.meanings context.block.before.meanings (reverse context.functions) known;
        functions = functions;
      }
      by_opener (consumer line from size name element worker) opened done held = record {
        shallow = blocks-more (call_depths (reverse context.functions)) context.counts.calls about rest (finished context.block) done held.1;
        few = few;
        known = take_agree context.names.meanings context.block.before.meanings (reverse context.functions) known;
        functions = functions;
      }
      by_opener (if_block earlier when) opened done held = record {
        shallow = blocks-more (call_depths (reverse context.functions)) context.counts.calls about rest (finished context.block) done held.1.1;
        few = few;
        known = take_agree context.names.meanings context.block.before.meanings (reverse context.functions) known;
        functions = functions;
      }
      by_opener (else_block earlier) opened done held = record {
        shallow = blocks-more (call_depths (reverse context.functions)) context.counts.calls about rest (finished context.block) done held.1.1;
        few = few;
        known = take_agree context.names.meanings context.block.before.meanings (reverse context.functions) known;
        functions = functions;
      }

-- ---- `elif` and `else`

next_held : (depths : Named ℕ) (most : ℕ) (branches : List Branch) (head : HeadTree) (Outside : Type 0) → BranchesFew depths most branches → Outside → Held depths most (next_opener branches head) ⊤ Outside
next_held depths most branches import_line Outside all outside = (all, (tt, outside))
next_held depths most branches (symbol_line name quoted) Outside all outside = (all, (tt, outside))
next_held depths most branches program_decorator Outside all outside = (all, (tt, outside))
next_held depths most branches (program_head name arguments) Outside all outside = (all, (tt, outside))
next_held depths most branches (statement_head s) Outside all outside = (all, (tt, outside))
next_held depths most branches (reduce_head lambda from to axis identity) Outside all outside = (all, (tt, outside))
next_held depths most branches (input_head connector memlet) Outside all outside = (all, (tt, outside))
next_held depths most branches (output_head connector memlet) Outside all outside = (all, (tt, outside))
next_held depths most branches (consume_decorator from size) Outside all outside = (all, (tt, outside))
next_held depths most branches (consume_head name element worker) Outside all outside = (all, (tt, outside))
next_held depths most branches (elif_head when) Outside all outside = (all, (tt, outside))
next_held depths most branches else_head Outside all outside = (all, (tt, outside))

next_few : (depths : Named ℕ) (most : ℕ) (line : ℕ) (statements : List StatementTree) (opener : Opener) (head : HeadTree) (Outside : Type 0) → goes_on (Form head) opener ≡ true →
    Held depths most opener (AllFew depths most statements) Outside → Held depths most (next_opener (branches_of line statements opener) head) ⊤ Outside
next_few depths most line statements file head Outside on held = false_is_not_true on
next_few depths most line statements (function name) head Outside on held = false_is_not_true on
next_few depths most line statements (statement s) head Outside on held = false_is_not_true on
next_few depths most line statements (consumer at from size name element worker) head Outside on held = false_is_not_true on
next_few depths most line statements (if_block earlier when) head Outside on held =
    let last : Branch = record { line = line; when = when; statements = statements } in
    next_held depths most (earlier ++ last ∷ []) head Outside (all-more (λ b. AllFew depths most b.statements) earlier last held.0 held.1.0) held.1.1
next_few depths most line statements (else_block earlier) head Outside on held = false_is_not_true on

no_program : (name : Name) (arguments : Block) (opener : Opener) → goes_on (Form (program_head name arguments)) opener ≡ true → ⊥
no_program name arguments file on = false_is_not_true on
no_program name arguments (function other) on = false_is_not_true on
no_program name arguments (statement s) on = false_is_not_true on
no_program name arguments (consumer at from size other element worker) on = false_is_not_true on
no_program name arguments (if_block earlier when) on = false_is_not_true on
no_program name arguments (else_block earlier) on = false_is_not_true on

other_counted : (context : Context) (counts : Counts) (about : OpenBlock) (outer : List OpenBlock) (line : ℕ) (head : HeadTree) → goes_on (Form head) context.block.opener ≡ true →
    (behind_other context counts about outer line head).counts.calls ≡ max counts.calls (call_depth (behind_branch context counts about outer).names head)
other_counted context counts about outer line import_line on = same_calls (begins_tasklet false import_line) (first_connectors import_line) 0 (counts_behind (behind_branch context counts about outer).names counts about.kind import_line)
other_counted context counts about outer line (symbol_line name quoted) on = same_calls (begins_tasklet false (symbol_line name quoted)) (first_connectors (symbol_line name quoted)) 0 (counts_behind (behind_branch context counts about outer).names counts about.kind (symbol_line name quoted))
other_counted context counts about outer line program_decorator on = same_calls (begins_tasklet false program_decorator) (first_connectors program_decorator) 0 (counts_behind (behind_branch context counts about outer).names counts about.kind program_decorator)
other_counted context counts about outer line (program_head name arguments) on = absurd (no_program name arguments context.block.opener on)
other_counted context counts about outer line (statement_head s) on = same_calls (begins_tasklet false (statement_head s)) (first_connectors (statement_head s)) 0 (counts_behind (behind_branch context counts about outer).names counts about.kind (statement_head s))
other_counted context counts about outer line (reduce_head lambda from to axis identity) on = same_calls (begins_tasklet false (reduce_head lambda from to axis identity)) (first_connectors (reduce_head lambda from to axis identity)) 0 (counts_behind (behind_branch context counts about outer).names counts about.kind (reduce_head lambda from to axis identity))
other_counted context counts about outer line (input_head connector memlet) on = same_calls (begins_tasklet false (input_head connector memlet)) (first_connectors (input_head connector memlet)) 0 (counts_behind (behind_branch context counts about outer).names counts about.kind (input_head connector memlet))
other_counted context counts about outer line (output_head connector memlet) on = same_calls (begins_tasklet false (output_head connector memlet)) (first_connectors (output_head connector memlet)) 0 (counts_behind (behind_branch context counts about outer).names counts about.kind (output_head connector memlet))
other_counted context counts about outer line (consume_decorator from size) on = same_calls (begins_tasklet false (consume_decorator from size)) (first_connectors (consume_decorator from size)) 0 (counts_behind (behind_branch context counts about outer).names counts about.kind (consume_decorator from size))
other_counted context counts about outer line (consume_head name element worker) on = same_calls (begins_tasklet false (consume_head name element worker)) (first_connectors (consume_head name element worker)) 0 (counts_behind (behind_branch context counts about outer).names counts about.kind (consume_head name element worker))
other_counted context counts about outer line (elif_head when) on = same_calls (begins_tasklet false (elif_head when)) (first_connectors (elif_head when)) 0 (counts_behind (behind_branch context counts about outer).names counts about.kind (elif_head when))
other_counted context counts about outer line else_head on = same_calls (begins_tasklet false else_head) (first_connectors else_head) 0 (counts_behind (behind_branch context counts about outer).names counts about.kind else_head)

other_total : (context : Context) (counts : Counts) (about : OpenBlock) (outer : List OpenBlock) (line : ℕ) (head : HeadTree) → context.outer ≡ about ∷ outer →
    goes_on (Form head) context.block.opener ≡ true → branch_counted context.block context.counts ≡ Ok counts → IsAccepted (behind_branch context counts about outer) head →
    FewCalls context → FewCalls (behind_other context counts about outer line head)
other_total context counts about outer line head is on counted accepted' good =
    let now = behind_branch context counts about outer in
    let after = behind_other context counts about outer line head in
    let kept = within now.names (site_of now) head (passes now.names (site_of now) head accepted') in
    let late = branch_calls context.block context.counts counts counted in
    let same = other_counted context counts about outer line head on in
    let depths = call_depths (reverse context.functions) in
    let most = max counts.calls (call_depth now.names head) in
    let low : counts.calls ≤ 8 = subst (λ n. n ≤ 8) (sym late) good.few in
    let before : AreShallow depths context.counts.calls (context.block ∷ about ∷ outer) = subst (λ outer. AreShallow depths context.counts.calls (context.block ∷ outer)) is good.shallow in
    let wide : AreShallow depths most (context.block ∷ about ∷ outer) =
    blocks-weaken depths context.counts.calls most (subst (λ n. n ≤ most) late (le-max_left counts.calls (call_depth now.names head))) (context.block ∷ about ∷ outer) before in
    let next : AreShallow depths most (after.block ∷ after.outer) =
    next_few depths most context.block.line context.block.statements context.block.opener head (AreShallow depths most (about ∷ outer)) on wide in
    record {
      shallow = subst (λ n. AreShallow depths n (after.block ∷ after.outer)) (sym same) next;
      few = subst (λ n. n ≤ 8) (sym same) (max-le low kept.calls);
      known = line_meanings now.names false head (reverse context.functions) (take_agree context.names.meanings context.block.before.meanings (reverse context.functions) good.known);
      functions = good.functions;
    }

pub calls_are_kept : Keeps FewCalls
calls_are_kept = record {
  begin = record { shallow = tt; few = omega arith; known = λ name signature' is. none_is_not_some (Program_name (Some signature')) is; functions = tt };
  pass = λ context line scoped head fit due accepted' shape good. line_total context line scoped head fit good accepted';
  argument = λ context line scoped at name bits extents few begun accepted' shape good.
      counted_line context (context_after context line scoped (statement_head (argument_array at name bits extents))) (statement_head (argument_array at name bits extents)) good accepted'
      (statement_after context line scoped (argument_array at name bits extents)).0 (refl, good.known) (λ most le all. all);
  close = λ context counts free counted right shape good.
      let late = late_calls (late_states context.block) context.counts counts counted in
      close_total context.outer (record context { counts = counts }) refl shape
      (subst (λ n. AreShallow (call_depths (reverse context.functions)) n (context.block ∷ context.outer)) (sym late) good.shallow)
      (subst (λ n. n ≤ 8) (sym late) good.few) good.known good.functions;
  go_on = λ context counts about outer line head free is on counted fit accepted' shape good. other_total context counts about outer line head is on counted accepted' good;
}
