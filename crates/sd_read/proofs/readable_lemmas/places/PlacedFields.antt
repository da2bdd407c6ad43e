-- Forms in their places, calls of programs above, and how many scopes and loops are about a statement.
use Rattle.std.proofs.Common.{◌≡◌, ◌≤◌, ℕ, nat_eq, nat_lt, ℤ, List, [], length, false, not, ◌||◌, Option, Some, None, refl, sym, ap, ◌∙◌, subst}
use Rattle.std.specs.List.{list_any, zip}
use Rattle.std.proofs.lemmas.Bool.{ltb-false, eqb-true}
use Rattle.sd_lex.specs.PlainTree.{Expression, Dimension, StatementTree, argument_array, local_array, local_stream, assign, copy, reduce, map_scope, tasklet, consume_scope, call, for_loop, while_loop, branch, input, output, set, set_at, tasklet_branch, no_statement, FunctionTree}
use Rattle.sd_phrase.specs.Memlet.{LambdaTree, MemletTree}
use Rattle.sd_line.specs.declared.line.head.BlockKind.{BlockKind}
use Rattle.sd_line.specs.declared.line.head.BlockKind.TheVariants.{Top, Program, Scope, Tasklet}
use Rattle.sd_line.specs.line.Head.{HeadTree, statement_head, reduce_head, input_head, output_head, consume_decorator, elif_head}
use Rattle.sd_names.specs.declared.meaning.Meaning.{Meaning}
use Rattle.sd_names.specs.declared.meaning.Meaning.TheVariants.{Symbol, Variable, Program as Program_name, Worker, Input, Output, Local}
use Rattle.sd_names.specs.declared.meaning.Signature.{Signature}
use Rattle.sd_names.specs.Names.{Name, Names, meaning_of, signature_by}
use Rattle.sd_names.specs.Expressions.{is_wide}
use Rattle.sd_uses.specs.Uses.{uses}
use Rattle.sd_refusal.specs.NotAForm.{block_is_misplaced, map_is_misplaced, set_is_misplaced, is_misplaced, misuses}
use Rattle.sd_refusal.specs.NotAffine.{any_bound}
use Rattle.sd_refusal.specs.OverLimit.{is_wide_or_long, counts_much}
use Rattle.sd_uses.specs.ShapeMismatch.{is_no_call, is_no_argument, is_shared}
use Rattle.sd_refusal.specs.declared.site.Site.{Site}
use Rattle.sd_context.specs.context.Placing.{memlet_of, kind_in, lambda_or_last}
use Rattle.sd_context.specs.blocks.Closing.{branch_with}
use Rattle.sd_program.specs.Names.{in_force}
use Rattle.sd_program.specs.Place.{Around, program, scope, task, signature, Place}
use Rattle.sd_program.specs.Known.{StandsInSignature, StandsInScope, StandsInProgram, StandsInTasklet, StandsIn, IsPlaced}
use Rattle.sd_program.specs.Calls.{argument_counts, IsCallable}
use Rattle.sd_program.specs.Limits.{HasFewAbout}
use Rattle.sd_read.proofs.readable_lemmas.kept.Passing.{Passes, neither, true_is_not_false}
use Rattle.sd_read.proofs.readable_lemmas.kept.Heads.{IsBodyStatement, IsTaskletStatement, IsIf, Fits}
use Rattle.sd_read.proofs.readable_lemmas.kept.Trees.{bare}
use Rattle.sd_read.proofs.readable_lemmas.kept.Affine.{negated, none_is_not_some}
use Rattle.sd_read.proofs.readable_lemmas.places.Placed.{around_of, SignaturesAgree, HoldsInPlaces}

-- ---- forms in their places

strip_Signature : (s : StatementTree) → StandsInSignature s → StandsInSignature (bare s)
strip_Signature (argument_array at name bits extents) holds = holds
strip_Signature (local_array at name extents bits) holds = holds
strip_Signature (local_stream at name bits size) holds = holds
strip_Signature (assign at name subscripts add value) holds = holds
strip_Signature (copy at to to_dimensions from from_dimensions) holds = holds
strip_Signature (reduce at lambda from to axis identity) holds = holds
strip_Signature (map_scope at parameters ranges body) holds = holds
strip_Signature (tasklet at body) holds = holds
strip_Signature (consume_scope at from size name element worker body) holds = holds
strip_Signature (call at name arguments) holds = holds
strip_Signature (for_loop at name begin end step body) holds = holds
strip_Signature (while_loop at when body) holds = holds
strip_Signature (branch at when body other) holds = holds
strip_Signature (input at connector memlet) holds = holds
strip_Signature (output at connector memlet) holds = holds
strip_Signature (set at name value) holds = holds
strip_Signature (set_at at name subscripts value) holds = holds
strip_Signature (tasklet_branch at when body other) holds = holds

fill_Signature : (s : StatementTree) → StandsInSignature (bare s) → StandsInSignature s
fill_Signature (argument_array at name bits extents) holds = holds
fill_Signature (local_array at name extents bits) holds = holds
fill_Signature (local_stream at name bits size) holds = holds
fill_Signature (assign at name subscripts add value) holds = holds
fill_Signature (copy at to to_dimensions from from_dimensions) holds = holds
fill_Signature (reduce at lambda from to axis identity) holds = holds
fill_Signature (map_scope at parameters ranges body) holds = holds
fill_Signature (tasklet at body) holds = holds
fill_Signature (consume_scope at from size name element worker body) holds = holds
fill_Signature (call at name arguments) holds = holds
fill_Signature (for_loop at name begin end step body) holds = holds
fill_Signature (while_loop at when body) holds = holds
fill_Signature (branch at when body other) holds = holds
fill_Signature (input at connector memlet) holds = holds
fill_Signature (output at connector memlet) holds = holds
fill_Signature (set at name value) holds = holds
fill_Signature (set_at at name subscripts value) holds = holds
fill_Signature (tasklet_branch at when body other) holds = holds

strip_Scope : (s : StatementTree) → StandsInScope s → StandsInScope (bare s)
strip_Scope (argument_array at name bits extents) holds = holds
strip_Scope (local_array at name extents bits) holds = holds
strip_Scope (local_stream at name bits size) holds = holds
strip_Scope (assign at name subscripts add value) holds = holds
strip_Scope (copy at to to_dimensions from from_dimensions) holds = holds
strip_Scope (reduce at lambda from to axis identity) holds = holds
strip_Scope (map_scope at parameters ranges body) holds = holds
strip_Scope (tasklet at body) holds = holds
strip_Scope (consume_scope at from size name element worker body) holds = holds
strip_Scope (call at name arguments) holds = holds
strip_Scope (for_loop at name begin end step body) holds = holds
strip_Scope (while_loop at when body) holds = holds
strip_Scope (branch at when body other) holds = holds
strip_Scope (input at connector memlet) holds = holds
strip_Scope (output at connector memlet) holds = holds
strip_Scope (set at name value) holds = holds
strip_Scope (set_at at name subscripts value) holds = holds
strip_Scope (tasklet_branch at when body other) holds = holds

fill_Scope : (s : StatementTree) → StandsInScope (bare s) → StandsInScope s
fill_Scope (argument_array at name bits extents) holds = holds
fill_Scope (local_array at name extents bits) holds = holds
fill_Scope (local_stream at name bits size) holds = holds
fill_Scope (assign at name subscripts add value) holds = holds
fill_Scope (copy at to to_dimensions from from_dimensions) holds = holds
fill_Scope (reduce at lambda from to axis identity) holds = holds
fill_Scope (map_scope at parameters ranges body) holds = holds
fill_Scope (tasklet at body) holds = holds
fill_Scope (consume_scope at from size name element worker body) holds = holds
fill_Scope (call at name arguments) holds = holds
fill_Scope (for_loop at name begin end step body) holds = holds
fill_Scope (while_loop at when body) holds = holds
fill_Scope (branch at when body other) holds = holds
fill_Scope (input at connector memlet) holds = holds
fill_Scope (output at connector memlet) holds = holds
fill_Scope (set at name value) holds = holds
fill_Scope (set_at at name subscripts value) holds = holds
fill_Scope (tasklet_branch at when body other) holds = holds

strip_Program : (s : StatementTree) → StandsInProgram s → StandsInProgram (bare s)
strip_Program (argument_array at name bits extents) holds = holds
strip_Program (local_array at name extents bits) holds = holds
strip_Program (local_stream at name bits size) holds = holds
strip_Program (assign at name subscripts add value) holds = holds
strip_Program (copy at to to_dimensions from from_dimensions) holds = holds
strip_Program (reduce at lambda from to axis identity) holds = holds
strip_Program (map_scope at parameters ranges body) holds = holds
strip_Program (tasklet at body) holds = holds
strip_Program (consume_scope at from size name element worker body) holds = holds
strip_Program (call at name arguments) holds = holds
strip_Program (for_loop at name begin end step body) holds = holds
strip_Program (while_loop at when body) holds = holds
strip_Program (branch at when body other) holds = holds
strip_Program (input at connector memlet) holds = holds
strip_Program (output at connector memlet) holds = holds
strip_Program (set at name value) holds = holds
strip_Program (set_at at name subscripts value) holds = holds
strip_Program (tasklet_branch at when body other) holds = holds

fill_Program : (s : StatementTree) → StandsInProgram (bare s) → StandsInProgram s
fill_Program (argument_array at name bits extents) holds = holds
fill_Program (local_array at name extents bits) holds = holds
fill_Program (local_stream at name bits size) holds = holds
fill_Program (assign at name subscripts add value) holds = holds
fill_Program (copy at to to_dimensions from from_dimensions) holds = holds
fill_Program (reduce at lambda from to axis identity) holds = holds
fill_Program (map_scope at parameters ranges body) holds = holds
fill_Program (tasklet at body) holds = holds
fill_Program (consume_scope at from size name element worker body) holds = holds
fill_Program (call at name arguments) holds = holds
fill_Program (for_loop at name begin end step body) holds = holds
fill_Program (while_loop at when body) holds = holds
fill_Program (branch at when body other) holds = holds
fill_Program (input at connector memlet) holds = holds
fill_Program (output at connector memlet) holds = holds
fill_Program (set at name value) holds = holds
fill_Program (set_at at name subscripts value) holds = holds
fill_Program (tasklet_branch at when body other) holds = holds

strip_Tasklet : (s : StatementTree) → StandsInTasklet s → StandsInTasklet (bare s)
strip_Tasklet (argument_array at name bits extents) holds = holds
strip_Tasklet (local_array at name extents bits) holds = holds
strip_Tasklet (local_stream at name bits size) holds = holds
strip_Tasklet (assign at name subscripts add value) holds = holds
strip_Tasklet (copy at to to_dimensions from from_dimensions) holds = holds
strip_Tasklet (reduce at lambda from to axis identity) holds = holds
strip_Tasklet (map_scope at parameters ranges body) holds = holds
strip_Tasklet (tasklet at body) holds = holds
strip_Tasklet (consume_scope at from size name element worker body) holds = holds
strip_Tasklet (call at name arguments) holds = holds
strip_Tasklet (for_loop at name begin end step body) holds = holds
strip_Tasklet (while_loop at when body) holds = holds
strip_Tasklet (branch at when body other) holds = holds
strip_Tasklet (input at connector memlet) holds = holds
strip_Tasklet (output at connector memlet) holds = holds
strip_Tasklet (set at name value) holds = holds
strip_Tasklet (set_at at name subscripts value) holds = holds
strip_Tasklet (tasklet_branch at when body other) holds = holds

fill_Tasklet : (s : StatementTree) → StandsInTasklet (bare s) → StandsInTasklet s
fill_Tasklet (argument_array at name bits extents) holds = holds
fill_Tasklet (local_array at name extents bits) holds = holds
fill_Tasklet (local_stream at name bits size) holds = holds
fill_Tasklet (assign at name subscripts add value) holds = holds
fill_Tasklet (copy at to to_dimensions from from_dimensions) holds = holds
fill_Tasklet (reduce at lambda from to axis identity) holds = holds
fill_Tasklet (map_scope at parameters ranges body) holds = holds
fill_Tasklet (tasklet at body) holds = holds
fill_Tasklet (consume_scope at from size name element worker body) holds = holds
fill_Tasklet (call at name arguments) holds = holds
fill_Tasklet (for_loop at name begin end step body) holds = holds
fill_Tasklet (while_loop at when body) holds = holds
fill_Tasklet (branch at when body other) holds = holds
fill_Tasklet (input at connector memlet) holds = holds
fill_Tasklet (output at connector memlet) holds = holds
fill_Tasklet (set at name value) holds = holds
fill_Tasklet (set_at at name subscripts value) holds = holds
fill_Tasklet (tasklet_branch at when body other) holds = holds

strip_place : (around : Around) (s : StatementTree) → StandsIn around s → StandsIn around (bare s)
strip_place program s holds = strip_Program s holds
strip_place scope s holds = strip_Scope s holds
strip_place task s holds = strip_Tasklet s holds
strip_place signature s holds = strip_Signature s holds

fill_place : (around : Around) (s : StatementTree) → StandsIn around (bare s) → StandsIn around s
fill_place program s holds = fill_Program s holds
fill_place scope s holds = fill_Scope s holds
fill_place task s holds = fill_Tasklet s holds
fill_place signature s holds = fill_Signature s holds

body_stands : (kind : BlockKind) (s : StatementTree) → IsBodyStatement kind s → StandsInProgram s
body_stands kind (argument_array at name bits extents) fit = absurd fit
body_stands kind (local_array at name extents bits) fit = tt
body_stands kind (local_stream at name bits size) fit = tt
body_stands kind (assign at name subscripts add value) fit = tt
body_stands kind (copy at to to_dimensions from from_dimensions) fit = tt
body_stands kind (reduce at lambda from to axis identity) fit = absurd fit
body_stands kind (map_scope at parameters ranges body) fit = tt
body_stands kind (tasklet at body) fit = tt
body_stands kind (consume_scope at from size name element worker body) fit = absurd fit
body_stands kind (call at name arguments) fit = tt
body_stands kind (for_loop at name begin end step body) fit = tt
body_stands kind (while_loop at when body) fit = tt
body_stands kind (branch at when body other) fit = tt
body_stands kind (input at connector memlet) fit = absurd fit
body_stands kind (output at connector memlet) fit = absurd fit
body_stands kind (set at name value) fit = absurd fit
body_stands kind (set_at at name subscripts value) fit = absurd fit
body_stands kind (tasklet_branch at when body other) fit = absurd fit

scope_stands : (kind : BlockKind) (s : StatementTree) → IsBodyStatement kind s → block_is_misplaced Scope s ≡ false → StandsInScope s
scope_stands kind (argument_array at name bits extents) fit placed = absurd fit
scope_stands kind (local_array at name extents bits) fit placed = tt
scope_stands kind (local_stream at name bits size) fit placed = tt
scope_stands kind (assign at name subscripts add value) fit placed = tt
scope_stands kind (copy at to to_dimensions from from_dimensions) fit placed = tt
scope_stands kind (reduce at lambda from to axis identity) fit placed = absurd fit
scope_stands kind (map_scope at parameters ranges body) fit placed = tt
scope_stands kind (tasklet at body) fit placed = tt
scope_stands kind (consume_scope at from size name element worker body) fit placed = absurd fit
scope_stands kind (call at name arguments) fit placed = tt
scope_stands kind (for_loop at name begin end step body) fit placed = true_is_not_false placed
scope_stands kind (while_loop at when body) fit placed = true_is_not_false placed
scope_stands kind (branch at when body other) fit placed = true_is_not_false placed
scope_stands kind (input at connector memlet) fit placed = absurd fit
scope_stands kind (output at connector memlet) fit placed = absurd fit
scope_stands kind (set at name value) fit placed = absurd fit
scope_stands kind (set_at at name subscripts value) fit placed = absurd fit
scope_stands kind (tasklet_branch at when body other) fit placed = absurd fit

tasklet_stands : (s : StatementTree) → IsTaskletStatement s → StandsInTasklet s
tasklet_stands (argument_array at name bits extents) fit = absurd fit
tasklet_stands (local_array at name extents bits) fit = absurd fit
tasklet_stands (local_stream at name bits size) fit = absurd fit
tasklet_stands (assign at name subscripts add value) fit = absurd fit
tasklet_stands (copy at to to_dimensions from from_dimensions) fit = absurd fit
tasklet_stands (reduce at lambda from to axis identity) fit = absurd fit
tasklet_stands (map_scope at parameters ranges body) fit = absurd fit
tasklet_stands (tasklet at body) fit = absurd fit
tasklet_stands (consume_scope at from size name element worker body) fit = absurd fit
tasklet_stands (call at name arguments) fit = absurd fit
tasklet_stands (for_loop at name begin end step body) fit = absurd fit
tasklet_stands (while_loop at when body) fit = absurd fit
tasklet_stands (branch at when body other) fit = absurd fit
tasklet_stands (input at connector memlet) fit = absurd fit
tasklet_stands (output at connector memlet) fit = absurd fit
tasklet_stands (set at name value) fit = tt
tasklet_stands (set_at at name subscripts value) fit = tt
tasklet_stands (tasklet_branch at when body other) fit = tt

line_stands : (kind : BlockKind) (s : StatementTree) → Fits kind (statement_head s) → block_is_misplaced kind s ≡ false → StandsIn (around_of kind) s
line_stands Top s fit placed = absurd fit
line_stands Program s fit placed = body_stands Program s fit
line_stands Scope s fit placed = scope_stands Scope s fit placed
line_stands Tasklet s fit placed = tasklet_stands s fit

placed_line : (names : Names) (site : Site) (s : StatementTree) → Passes names site (statement_head s) → block_is_misplaced site.kind s ≡ false
placed_line names site s passed =
    let misplaced = neither (is_misplaced names site (statement_head s)) (list_any (misuses names) (uses site.kind (statement_head s))) passed.form in
    (neither (block_is_misplaced site.kind s) (map_is_misplaced s) (neither (block_is_misplaced site.kind s || map_is_misplaced s) (set_is_misplaced names s) misplaced.0).0).0

reduce_stands : (kind : BlockKind) (line : ℕ) (lambda : LambdaTree) (from to : Name) (axis identity : Option ℤ) → Fits kind (reduce_head lambda from to axis identity) → StandsIn (around_of kind) (reduce line (lambda_or_last (kind_in lambda)) from to axis identity)
reduce_stands Top line lambda from to axis identity fit = absurd fit
reduce_stands Program line lambda from to axis identity fit = tt
reduce_stands Scope line lambda from to axis identity fit = tt
reduce_stands Tasklet line lambda from to axis identity fit = absurd fit

consume_stands : (kind : BlockKind) (from : Name) (size : ℤ) (line : ℕ) (name element : Name) (worker : Option Name) → Fits kind (consume_decorator from size) → StandsIn (around_of kind) (consume_scope line from size name element worker no_statement)
consume_stands Top from size line name element worker fit = absurd fit
consume_stands Program from size line name element worker fit = tt
consume_stands Scope from size line name element worker fit = tt
consume_stands Tasklet from size line name element worker fit = absurd fit

input_stands : (kind : BlockKind) (line : ℕ) (connector : Name) (memlet : MemletTree) → Fits kind (input_head connector memlet) → StandsIn (around_of kind) (input line connector (memlet_of memlet))
input_stands Top line connector memlet fit = absurd fit
input_stands Program line connector memlet fit = absurd fit
input_stands Scope line connector memlet fit = absurd fit
input_stands Tasklet line connector memlet fit = tt

output_stands : (kind : BlockKind) (line : ℕ) (connector : Name) (memlet : MemletTree) → Fits kind (output_head connector memlet) → StandsIn (around_of kind) (output line connector (memlet_of memlet))
output_stands Top line connector memlet fit = absurd fit
output_stands Program line connector memlet fit = absurd fit
output_stands Scope line connector memlet fit = absurd fit
output_stands Tasklet line connector memlet fit = tt

other_stands : (kind : BlockKind) (line : ℕ) (when : Expression) → IsIf kind → StandsIn (around_of kind) (branch_with kind (record { line = line; when = when; statements = [] }) no_statement)
other_stands Top line when may = absurd may
other_stands Program line when may = tt
other_stands Scope line when may = absurd may
other_stands Tasklet line when may = tt

moved_branch : (around : Around) (line other : ℕ) (when : Expression) → StandsIn around (branch line when no_statement no_statement) → StandsIn around (branch other when no_statement no_statement)
moved_branch program line other when holds = holds
moved_branch scope line other when holds = holds
moved_branch task line other when holds = holds
moved_branch signature line other when holds = holds

moved_when : (around : Around) (line other : ℕ) (when : Expression) → StandsIn around (tasklet_branch line when no_statement no_statement) → StandsIn around (tasklet_branch other when no_statement no_statement)
moved_when program line other when holds = holds
moved_when scope line other when holds = holds
moved_when task line other when holds = holds
moved_when signature line other when holds = holds

standing : (s : StatementTree) (around kind : Around) → around ≡ kind → StandsIn kind s → StandsIn around s
standing s around kind is holds = subst (λ around. StandsIn around s) (sym is) holds

pub forms_hold : HoldsInPlaces IsPlaced
forms_hold = record {
  strip = λ place s holds. strip_place place.around s holds;
  fill = λ place s holds. fill_place place.around s holds;
  moved = λ place line other when holds. moved_branch place.around line other when holds;
  moved_inside = λ place line other when holds. moved_when place.around line other when holds;
  said = λ names site place s at of fit passed. subst (λ around. StandsIn around s) (sym at.around) (line_stands site.kind s fit (placed_line names site s passed));
  argument = λ names site place line name bits extents few around depth passed. subst (λ around. StandsIn around (argument_array line name bits extents)) (sym around) tt;
  reduced = λ names site place line lambda from to axis identity at fit passed. standing (reduce line (lambda_or_last (kind_in lambda)) from to axis identity) place.around (around_of site.kind) at.around (reduce_stands site.kind line lambda from to axis identity fit);
  decorated = λ names site place from size at fit passed line name element worker. standing (consume_scope line from size name element worker no_statement) place.around (around_of site.kind) at.around (consume_stands site.kind from size line name element worker fit);
  put_in = λ names site place line connector memlet at fit passed. standing (input line connector (memlet_of memlet)) place.around (around_of site.kind) at.around (input_stands site.kind line connector memlet fit);
  put_out = λ names site place line connector memlet at fit passed. standing (output line connector (memlet_of memlet)) place.around (around_of site.kind) at.around (output_stands site.kind line connector memlet fit);
  other = λ names site place line when may at fit passed. standing (branch_with site.kind (record { line = line; when = when; statements = [] }) no_statement) place.around (around_of site.kind) at.around (other_stands site.kind line when may);
}

-- ---- scopes and loops about a statement

few_about : (names : Names) (site : Site) (head : HeadTree) (place : Place) → place.depth ≡ site.depth → Passes names site head → place.depth ≤ 7
few_about names site head place is passed =
    let not_much = neither (nat_lt 7 site.depth || list_any (any_bound (is_wide names.meanings)) (uses site.kind head) || is_wide_or_long head) (counts_much names site head) passed.limited in
    let not_long = neither (nat_lt 7 site.depth || list_any (any_bound (is_wide names.meanings)) (uses site.kind head)) (is_wide_or_long head) not_much.0 in
    subst (λ n. n ≤ 7) (sym is) (ltb-false 7 site.depth (neither (nat_lt 7 site.depth) (list_any (any_bound (is_wide names.meanings)) (uses site.kind head)) not_long.0).0)

pub depths_hold : HoldsInPlaces HasFewAbout
depths_hold = record {
  strip = λ place s holds. holds;
  fill = λ place s holds. holds;
  moved = λ place line other when holds. holds;
  moved_inside = λ place line other when holds. holds;
  said = λ names site place s at of fit passed. few_about names site (statement_head s) place at.depth passed;
  argument = λ names site place line name bits extents few around depth passed. subst (λ n. n ≤ 7) (sym depth) (ltb-false 7 0 refl);
  reduced = λ names site place line lambda from to axis identity at fit passed. few_about names site (reduce_head lambda from to axis identity) place at.depth passed;
  decorated = λ names site place from size at fit passed line name element worker. few_about names site (consume_decorator from size) place at.depth passed;
  put_in = λ names site place line connector memlet at fit passed. few_about names site (input_head connector memlet) place at.depth passed;
  put_out = λ names site place line connector memlet at fit passed. few_about names site (output_head connector memlet) place at.depth passed;
  other = λ names site place line when may at fit passed. few_about names site (elif_head when) place at.depth passed;
}

-- ---- calls

strip_calls : (place : Place) (s : StatementTree) → IsCallable place s → IsCallable place (bare s)
strip_calls place (argument_array at name bits extents) holds = holds
strip_calls place (local_array at name extents bits) holds = holds
strip_calls place (local_stream at name bits size) holds = holds
strip_calls place (assign at name subscripts add value) holds = holds
strip_calls place (copy at to to_dimensions from from_dimensions) holds = holds
strip_calls place (reduce at lambda from to axis identity) holds = holds
strip_calls place (map_scope at parameters ranges body) holds = holds
strip_calls place (tasklet at body) holds = holds
strip_calls place (consume_scope at from size name element worker body) holds = holds
strip_calls place (call at name arguments) holds = holds
strip_calls place (for_loop at name begin end step body) holds = holds
strip_calls place (while_loop at when body) holds = holds
strip_calls place (branch at when body other) holds = holds
strip_calls place (input at connector memlet) holds = holds
strip_calls place (output at connector memlet) holds = holds
strip_calls place (set at name value) holds = holds
strip_calls place (set_at at name subscripts value) holds = holds
strip_calls place (tasklet_branch at when body other) holds = holds

fill_calls : (place : Place) (s : StatementTree) → IsCallable place (bare s) → IsCallable place s
fill_calls place (argument_array at name bits extents) holds = holds
fill_calls place (local_array at name extents bits) holds = holds
fill_calls place (local_stream at name bits size) holds = holds
fill_calls place (assign at name subscripts add value) holds = holds
fill_calls place (copy at to to_dimensions from from_dimensions) holds = holds
fill_calls place (reduce at lambda from to axis identity) holds = holds
fill_calls place (map_scope at parameters ranges body) holds = holds
fill_calls place (tasklet at body) holds = holds
fill_calls place (consume_scope at from size name element worker body) holds = holds
fill_calls place (call at name arguments) holds = holds
fill_calls place (for_loop at name begin end step body) holds = holds
fill_calls place (while_loop at when body) holds = holds
fill_calls place (branch at when body other) holds = holds
fill_calls place (input at connector memlet) holds = holds
fill_calls place (output at connector memlet) holds = holds
fill_calls place (set at name value) holds = holds
fill_calls place (set_at at name subscripts value) holds = holds
fill_calls place (tasklet_branch at when body other) holds = holds

branch_calls : (place : Place) (kind : BlockKind) (line : ℕ) (when : Expression) → IsCallable place (branch_with kind (record { line = line; when = when; statements = [] }) no_statement)
branch_calls place Top line when = tt
branch_calls place Program line when = tt
branch_calls place Scope line when = tt
branch_calls place Tasklet line when = tt

-- a name with a signature means a program
by_signature : {P : Type 0} (meaning : Option Meaning) (signature' : Signature) → signature_by meaning ≡ Some signature' → (meaning ≡ Some (Program_name (Some signature')) → P) → P
by_signature None signature' is go = none_is_not_some signature' is
by_signature (Some Symbol) signature' is go = none_is_not_some signature' is
by_signature (Some Variable) signature' is go = none_is_not_some signature' is
by_signature (Some (Program_name found)) signature' is go = go (ap (λ found. Some (Program_name found)) is)
by_signature (Some Worker) signature' is go = none_is_not_some signature' is
by_signature (Some (Input dimensions)) signature' is go = none_is_not_some signature' is
by_signature (Some (Output dimensions)) signature' is go = none_is_not_some signature' is
by_signature (Some Local) signature' is go = none_is_not_some signature' is

call_fits : (names : Names) (programs : List FunctionTree) (name : Name) (arguments : List (Name × List Dimension)) → SignaturesAgree names.meanings programs → is_no_call names arguments (signature_by (meaning_of names name)) ≡ false →
    in_force (argument_counts programs) name ≡ Some (length arguments)
call_fits names programs name arguments agree matching = by_found (signature_by (meaning_of names name)) refl matching where
  by_found : (found : Option Signature) → signature_by (meaning_of names name) ≡ found → is_no_call names arguments found ≡ false → in_force (argument_counts programs) name ≡ Some (length arguments)
  by_found None is fits = true_is_not_false fits
  by_found (Some signature') is fits =
      by_signature (meaning_of names name) signature' is
      (λ known.
      let all = neither (not (nat_eq (length arguments) (length signature'.parameters)) || list_any (is_no_argument names) (zip arguments signature'.parameters)) (list_any (is_shared arguments) (zip arguments signature'.parameters)) fits in
      let count = neither (not (nat_eq (length arguments) (length signature'.parameters))) (list_any (is_no_argument names) (zip arguments signature'.parameters)) all.0 in
      agree name signature' known ∙ ap Some (sym (eqb-true (length arguments) (length signature'.parameters) (negated (nat_eq (length arguments) (length signature'.parameters)) count.0))))

said_calls : (names : Names) (site : Site) (place : Place) (s : StatementTree) → SignaturesAgree names.meanings place.programs → Passes names site (statement_head s) → IsCallable place s
said_calls names site place (argument_array at name bits extents) agree passed = tt
said_calls names site place (local_array at name extents bits) agree passed = tt
said_calls names site place (local_stream at name bits size) agree passed = tt
said_calls names site place (assign at name subscripts add value) agree passed = tt
said_calls names site place (copy at to to_dimensions from from_dimensions) agree passed = tt
said_calls names site place (reduce at lambda from to axis identity) agree passed = tt
said_calls names site place (map_scope at parameters ranges body) agree passed = tt
said_calls names site place (tasklet at body) agree passed = tt
said_calls names site place (consume_scope at from size name element worker body) agree passed = tt
said_calls names site place (call at name arguments) agree passed = call_fits names place.programs name arguments agree passed.matching
said_calls names site place (for_loop at name begin end step body) agree passed = tt
said_calls names site place (while_loop at when body) agree passed = tt
said_calls names site place (branch at when body other) agree passed = tt
said_calls names site place (input at connector memlet) agree passed = tt
said_calls names site place (output at connector memlet) agree passed = tt
said_calls names site place (set at name value) agree passed = tt
said_calls names site place (set_at at name subscripts value) agree passed = tt
said_calls names site place (tasklet_branch at when body other) agree passed = tt

pub calls_hold : HoldsInPlaces IsCallable
calls_hold = record {
  strip = strip_calls;
  fill = fill_calls;
  moved = λ place line other when holds. holds;
  moved_inside = λ place line other when holds. holds;
  said = λ names site place s at of fit passed. said_calls names site place s at.programs passed;
  argument = λ names site place line name bits extents few around depth passed. tt;
  reduced = λ names site place line lambda from to axis identity at fit passed. tt;
  decorated = λ names site place from size at fit passed line name element worker. tt;
  put_in = λ names site place line connector memlet at fit passed. tt;
  put_out = λ names site place line connector memlet at fit passed. tt;
  other = λ names site place line when may at fit passed. branch_calls place site.kind line when;
}
