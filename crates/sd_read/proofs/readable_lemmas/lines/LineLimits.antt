-- The limits of single lines.
use Rattle.std.proofs.Common.{◌≡◌, ◌≤◌, ◌<◌, ℕ, ℤ, pos, negsuc, nat_lt, List, [], ◌∷◌, length, false, ◌||◌, Option, Some, None, refl, ap, sym, subst, arith}
use Rattle.std.specs.Bool.{⊤}
use Rattle.std.specs.List.{AllByRecursion, list_any}
use Rattle.std.proofs.lemmas.Bool.{ltb-true, ltb-false}
use Rattle.sd_lex.specs.PlainTree.{Expression, Expressions, no_expression, and_expression, Dimension, index, span, StatementTree, argument_array, local_array, local_stream, assign, copy, reduce, map_scope, tasklet, consume_scope, call, for_loop, while_loop, branch, input, output, set, set_at, tasklet_branch, no_statement}
use Rattle.sd_line.specs.declared.line.head.BlockKind.{BlockKind}
use Rattle.sd_line.specs.declared.line.head.BlockKind.TheVariants.{Top, Program, Scope, Tasklet}
use Rattle.sd_line.specs.line.Head.{HeadTree, statement_head, input_head, output_head}
use Rattle.sd_names.specs.Names.{Name, Names}
use Rattle.sd_names.specs.Expressions.{count_of, is_wide}
use Rattle.sd_uses.specs.Uses.{uses}
use Rattle.sd_refusal.specs.NotAffine.{any_bound}
use Rattle.sd_refusal.specs.OverLimit.{is_wide_step, has_wide_step, argument_has_wide_step, statement_has_wide_step, head_has_wide_step, statement_is_long, is_long, is_wide_or_long, counts_much}
use Rattle.sd_refusal.specs.declared.site.Site.{Site}
use Rattle.sd_context.specs.blocks.Closing.{branch_with}
use Rattle.sd_program.specs.Place.{length_of}
use Rattle.sd_program.specs.Limits.{IsStep, HasStep, HasSteps, HasFewDimensions, HasFewParameters}
use Rattle.sd_read.specs.readable.Parts.{HasParts}
use Rattle.sd_read.proofs.readable_lemmas.kept.Passing.{Passes, neither}
use Rattle.sd_read.proofs.readable_lemmas.kept.Heads.{IsFromOne, GoesOn, IsOfLine}
use Rattle.sd_read.proofs.readable_lemmas.kept.Trees.{bare, HoldsOfLines}
use Rattle.sd_read.proofs.readable_lemmas.kept.Affine.{negated}

-- no limit of the line itself is passed
short : (names : Names) (site : Site) (head : HeadTree) → Passes names site head → (head_has_wide_step head ≡ false) × (is_long head ≡ false)
short names site head passed =
    let not_much = neither (nat_lt 7 site.depth || list_any (any_bound (is_wide names.meanings)) (uses site.kind head) || is_wide_or_long head) (counts_much names site head) passed.limited in
    let not_long = neither (nat_lt 7 site.depth || list_any (any_bound (is_wide names.meanings)) (uses site.kind head)) (is_wide_or_long head) not_much.0 in
    neither (head_has_wide_step head) (is_long head) not_long.1

-- ---- steps

step : (s : Option ℤ) → IsFromOne s → is_wide_step s ≡ false → IsStep s
step None on narrow = tt
step (Some (pos n)) (m, (is, low)) narrow =
    let below : n < 1099511627776 = ltb-true n 1099511627776 (negated (nat_lt n 1099511627776) narrow) in
    (n, (refl, (subst (λ z. 1 ≤ z) (same_number m n (sym is)) low, omega (arith, below)))) where
      number : ℤ → ℕ
      number (pos k) = k
      number (negsuc k) = 0

      same_number : (m n : ℕ) → pos m ≡ pos n → m ≡ n
      same_number m n is = ap number is
step (Some (negsuc n)) (m, (is, low)) narrow = absurd (subst IsNegative is tt) where
  IsNegative : ℤ → Type 0
  IsNegative (pos k) = ⊥
  IsNegative (negsuc k) = ⊤

dimension_step : (d : Dimension) → GoesOn d → has_wide_step d ≡ false → HasStep d
dimension_step (index at) on narrow = tt
dimension_step (span begin end s) on narrow = step s on.0 narrow

dimension_steps : (ds : List Dimension) → AllByRecursion GoesOn ds → list_any has_wide_step ds ≡ false → AllByRecursion HasStep ds
dimension_steps [] on narrow = tt
dimension_steps (first ∷ rest) on narrow =
    let halves = neither (has_wide_step first) (list_any has_wide_step rest) narrow in (dimension_step first on.0 halves.0, dimension_steps rest on.1 halves.1)

argument_steps : (arguments : List (Name × List Dimension)) → AllByRecursion (λ argument. AllByRecursion GoesOn argument.1) arguments → list_any argument_has_wide_step arguments ≡ false →
    AllByRecursion (λ argument. AllByRecursion HasStep argument.1) arguments
argument_steps [] on narrow = tt
argument_steps (first ∷ rest) on narrow =
    let halves = neither (argument_has_wide_step first) (list_any argument_has_wide_step rest) narrow in (dimension_steps first.1 on.0 halves.0, argument_steps rest on.1 halves.1)

statement_steps : (s : StatementTree) → IsOfLine s → statement_has_wide_step s ≡ false → HasSteps s
statement_steps (argument_array line name bits extents) of narrow = tt
statement_steps (local_array line name extents bits) of narrow = tt
statement_steps (local_stream line name bits size) of narrow = tt
statement_steps (assign line name at add value) of narrow = tt
statement_steps (copy line to to_dimensions from from_dimensions) of narrow = let halves = neither (list_any has_wide_step to_dimensions) (list_any has_wide_step from_dimensions) narrow in (dimension_steps to_dimensions of.0 halves.0, dimension_steps from_dimensions of.1 halves.1)
statement_steps (reduce line lambda from to axis identity) of narrow = tt
statement_steps (map_scope line parameters ranges body) of narrow = dimension_steps ranges of.1.1 narrow
statement_steps (tasklet line body) of narrow = tt
statement_steps (consume_scope line from size name element worker body) of narrow = tt
statement_steps (call line name arguments) of narrow = argument_steps arguments of narrow
statement_steps (for_loop line name begin end by body) of narrow = step by of.0 narrow
statement_steps (while_loop line when body) of narrow = tt
statement_steps (branch line when body other) of narrow = tt
statement_steps (input line connector memlet) of narrow = absurd of
statement_steps (output line connector memlet) of narrow = absurd of
statement_steps (set line name value) of narrow = tt
statement_steps (set_at line name at value) of narrow = tt
statement_steps (tasklet_branch line when body other) of narrow = tt

strip_steps : (s : StatementTree) → HasSteps s → HasSteps (bare s)
strip_steps (argument_array line name bits extents) holds = holds
strip_steps (local_array line name extents bits) holds = holds
strip_steps (local_stream line name bits size) holds = holds
strip_steps (assign line name at add value) holds = holds
strip_steps (copy line to to_dimensions from from_dimensions) holds = holds
strip_steps (reduce line lambda from to axis identity) holds = holds
strip_steps (map_scope line parameters ranges body) holds = holds
strip_steps (tasklet line body) holds = holds
strip_steps (consume_scope line from size name element worker body) holds = holds
strip_steps (call line name arguments) holds = holds
strip_steps (for_loop line name begin end step body) holds = holds
strip_steps (while_loop line when body) holds = holds
strip_steps (branch line when body other) holds = holds
strip_steps (input line connector memlet) holds = holds
strip_steps (output line connector memlet) holds = holds
strip_steps (set line name value) holds = holds
strip_steps (set_at line name at value) holds = holds
strip_steps (tasklet_branch line when body other) holds = holds

fill_steps : (s : StatementTree) → HasSteps (bare s) → HasSteps s
fill_steps (argument_array line name bits extents) holds = holds
fill_steps (local_array line name extents bits) holds = holds
fill_steps (local_stream line name bits size) holds = holds
fill_steps (assign line name at add value) holds = holds
fill_steps (copy line to to_dimensions from from_dimensions) holds = holds
fill_steps (reduce line lambda from to axis identity) holds = holds
fill_steps (map_scope line parameters ranges body) holds = holds
fill_steps (tasklet line body) holds = holds
fill_steps (consume_scope line from size name element worker body) holds = holds
fill_steps (call line name arguments) holds = holds
fill_steps (for_loop line name begin end step body) holds = holds
fill_steps (while_loop line when body) holds = holds
fill_steps (branch line when body other) holds = holds
fill_steps (input line connector memlet) holds = holds
fill_steps (output line connector memlet) holds = holds
fill_steps (set line name value) holds = holds
fill_steps (set_at line name at value) holds = holds
fill_steps (tasklet_branch line when body other) holds = holds

branch_steps : (kind : BlockKind) (line : ℕ) (when : Expression) → HasSteps (branch_with kind (record { line = line; when = when; statements = [] }) no_statement)
branch_steps Top line when = tt
branch_steps Program line when = tt
branch_steps Scope line when = tt
branch_steps Tasklet line when = tt

pub steps_hold : HoldsOfLines HasSteps
steps_hold = record {
  fill = λ s small. fill_steps s;
  moved = λ line other when holds. holds;
  moved_inside = λ line other when holds. holds;
  said = λ names site s of passed. strip_steps s (statement_steps s of (short names site (statement_head s) passed).0);
  reduced = λ line lambda from to axis identity. tt;
  taken = λ line from size name element worker. tt;
  put_in = λ names site line connector memlet on passed. dimension_steps memlet.dimensions on (short names site (input_head connector memlet) passed).0;
  put_out = λ names site line connector memlet on passed. dimension_steps memlet.dimensions on (short names site (output_head connector memlet) passed).0;
  other = λ names site line when passed. branch_steps site.kind line when;
}

-- ---- dimensions

same_count : (es : Expressions) → count_of es ≡ length_of es
same_count no_expression = refl
same_count (and_expression first rest) = rw (same_count rest) refl

statement_dimensions : (s : StatementTree) → IsOfLine s → statement_is_long s ≡ false → HasFewDimensions s
statement_dimensions (argument_array line name bits extents) of short' = of.0
statement_dimensions (local_array line name extents bits) of short' = subst (λ n. n ≤ 4) (same_count extents) (ltb-false 4 (count_of extents) short')
statement_dimensions (local_stream line name bits size) of short' = tt
statement_dimensions (assign line name at add value) of short' = tt
statement_dimensions (copy line to to_dimensions from from_dimensions) of short' = tt
statement_dimensions (reduce line lambda from to axis identity) of short' = tt
statement_dimensions (map_scope line parameters ranges body) of short' = tt
statement_dimensions (tasklet line body) of short' = tt
statement_dimensions (consume_scope line from size name element worker body) of short' = tt
statement_dimensions (call line name arguments) of short' = tt
statement_dimensions (for_loop line name begin end step body) of short' = tt
statement_dimensions (while_loop line when body) of short' = tt
statement_dimensions (branch line when body other) of short' = tt
statement_dimensions (input line connector memlet) of short' = tt
statement_dimensions (output line connector memlet) of short' = tt
statement_dimensions (set line name value) of short' = tt
statement_dimensions (set_at line name at value) of short' = tt
statement_dimensions (tasklet_branch line when body other) of short' = tt

strip_dimensions : (s : StatementTree) → HasFewDimensions s → HasFewDimensions (bare s)
strip_dimensions (argument_array line name bits extents) holds = holds
strip_dimensions (local_array line name extents bits) holds = holds
strip_dimensions (local_stream line name bits size) holds = holds
strip_dimensions (assign line name at add value) holds = holds
strip_dimensions (copy line to to_dimensions from from_dimensions) holds = holds
strip_dimensions (reduce line lambda from to axis identity) holds = holds
strip_dimensions (map_scope line parameters ranges body) holds = holds
strip_dimensions (tasklet line body) holds = holds
strip_dimensions (consume_scope line from size name element worker body) holds = holds
strip_dimensions (call line name arguments) holds = holds
strip_dimensions (for_loop line name begin end step body) holds = holds
strip_dimensions (while_loop line when body) holds = holds
strip_dimensions (branch line when body other) holds = holds
strip_dimensions (input line connector memlet) holds = holds
strip_dimensions (output line connector memlet) holds = holds
strip_dimensions (set line name value) holds = holds
strip_dimensions (set_at line name at value) holds = holds
strip_dimensions (tasklet_branch line when body other) holds = holds

fill_dimensions : (s : StatementTree) → HasFewDimensions (bare s) → HasFewDimensions s
fill_dimensions (argument_array line name bits extents) holds = holds
fill_dimensions (local_array line name extents bits) holds = holds
fill_dimensions (local_stream line name bits size) holds = holds
fill_dimensions (assign line name at add value) holds = holds
fill_dimensions (copy line to to_dimensions from from_dimensions) holds = holds
fill_dimensions (reduce line lambda from to axis identity) holds = holds
fill_dimensions (map_scope line parameters ranges body) holds = holds
fill_dimensions (tasklet line body) holds = holds
fill_dimensions (consume_scope line from size name element worker body) holds = holds
fill_dimensions (call line name arguments) holds = holds
fill_dimensions (for_loop line name begin end step body) holds = holds
fill_dimensions (while_loop line when body) holds = holds
fill_dimensions (branch line when body other) holds = holds
fill_dimensions (input line connector memlet) holds = holds
fill_dimensions (output line connector memlet) holds = holds
fill_dimensions (set line name value) holds = holds
fill_dimensions (set_at line name at value) holds = holds
fill_dimensions (tasklet_branch line when body other) holds = holds

branch_dimensions : (kind : BlockKind) (line : ℕ) (when : Expression) → HasFewDimensions (branch_with kind (record { line = line; when = when; statements = [] }) no_statement)
branch_dimensions Top line when = tt
branch_dimensions Program line when = tt
branch_dimensions Scope line when = tt
branch_dimensions Tasklet line when = tt

pub dimensions_hold : HoldsOfLines HasFewDimensions
dimensions_hold = record {
  fill = λ s small. fill_dimensions s;
  moved = λ line other when holds. holds;
  moved_inside = λ line other when holds. holds;
  said = λ names site s of passed. strip_dimensions s (statement_dimensions s of (short names site (statement_head s) passed).1);
  reduced = λ line lambda from to axis identity. tt;
  taken = λ line from size name element worker. tt;
  put_in = λ names site line connector memlet on passed. tt;
  put_out = λ names site line connector memlet on passed. tt;
  other = λ names site line when passed. branch_dimensions site.kind line when;
}

-- ---- parameters

statement_parameters : (s : StatementTree) → IsOfLine s → statement_is_long s ≡ false → HasFewParameters s
statement_parameters (argument_array line name bits extents) of short' = tt
statement_parameters (local_array line name extents bits) of short' = tt
statement_parameters (local_stream line name bits size) of short' = tt
statement_parameters (assign line name at add value) of short' = tt
statement_parameters (copy line to to_dimensions from from_dimensions) of short' = tt
statement_parameters (reduce line lambda from to axis identity) of short' = tt
statement_parameters (map_scope line parameters ranges body) of short' = (of.1.0, ltb-false 8 (length parameters) short')
statement_parameters (tasklet line body) of short' = tt
statement_parameters (consume_scope line from size name element worker body) of short' = tt
statement_parameters (call line name arguments) of short' = tt
statement_parameters (for_loop line name begin end step body) of short' = tt
statement_parameters (while_loop line when body) of short' = tt
statement_parameters (branch line when body other) of short' = tt
statement_parameters (input line connector memlet) of short' = tt
statement_parameters (output line connector memlet) of short' = tt
statement_parameters (set line name value) of short' = tt
statement_parameters (set_at line name at value) of short' = tt
statement_parameters (tasklet_branch line when body other) of short' = tt

strip_parameters : (s : StatementTree) → HasFewParameters s → HasFewParameters (bare s)
strip_parameters (argument_array line name bits extents) holds = holds
strip_parameters (local_array line name extents bits) holds = holds
strip_parameters (local_stream line name bits size) holds = holds
strip_parameters (assign line name at add value) holds = holds
strip_parameters (copy line to to_dimensions from from_dimensions) holds = holds
strip_parameters (reduce line lambda from to axis identity) holds = holds
strip_parameters (map_scope line parameters ranges body) holds = holds
strip_parameters (tasklet line body) holds = holds
strip_parameters (consume_scope line from size name element worker body) holds = holds
strip_parameters (call line name arguments) holds = holds
strip_parameters (for_loop line name begin end step body) holds = holds
strip_parameters (while_loop line when body) holds = holds
strip_parameters (branch line when body other) holds = holds
strip_parameters (input line connector memlet) holds = holds
strip_parameters (output line connector memlet) holds = holds
strip_parameters (set line name value) holds = holds
strip_parameters (set_at line name at value) holds = holds
strip_parameters (tasklet_branch line when body other) holds = holds

fill_parameters : (s : StatementTree) → HasFewParameters (bare s) → HasFewParameters s
fill_parameters (argument_array line name bits extents) holds = holds
fill_parameters (local_array line name extents bits) holds = holds
fill_parameters (local_stream line name bits size) holds = holds
fill_parameters (assign line name at add value) holds = holds
fill_parameters (copy line to to_dimensions from from_dimensions) holds = holds
fill_parameters (reduce line lambda from to axis identity) holds = holds
fill_parameters (map_scope line parameters ranges body) holds = holds
fill_parameters (tasklet line body) holds = holds
fill_parameters (consume_scope line from size name element worker body) holds = holds
fill_parameters (call line name arguments) holds = holds
fill_parameters (for_loop line name begin end step body) holds = holds
fill_parameters (while_loop line when body) holds = holds
fill_parameters (branch line when body other) holds = holds
fill_parameters (input line connector memlet) holds = holds
fill_parameters (output line connector memlet) holds = holds
fill_parameters (set line name value) holds = holds
fill_parameters (set_at line name at value) holds = holds
fill_parameters (tasklet_branch line when body other) holds = holds

branch_parameters : (kind : BlockKind) (line : ℕ) (when : Expression) → HasFewParameters (branch_with kind (record { line = line; when = when; statements = [] }) no_statement)
branch_parameters Top line when = tt
branch_parameters Program line when = tt
branch_parameters Scope line when = tt
branch_parameters Tasklet line when = tt

pub parameters_hold : HoldsOfLines HasFewParameters
parameters_hold = record {
  fill = λ s small. fill_parameters s;
  moved = λ line other when holds. holds;
  moved_inside = λ line other when holds. holds;
  said = λ names site s of passed. strip_parameters s (statement_parameters s of (short names site (statement_head s) passed).1);
  reduced = λ line lambda from to axis identity. tt;
  taken = λ line from size name element worker. tt;
  put_in = λ names site line connector memlet on passed. tt;
  put_out = λ names site line connector memlet on passed. tt;
  other = λ names site line when passed. branch_parameters site.kind line when;
}

-- ---- parts

statement_parts : (s : StatementTree) → IsOfLine s → HasParts s
statement_parts (argument_array line name bits extents) of = tt
statement_parts (local_array line name extents bits) of = of.0
statement_parts (local_stream line name bits size) of = tt
statement_parts (assign line name at add value) of = tt
statement_parts (copy line to to_dimensions from from_dimensions) of = tt
statement_parts (reduce line lambda from to axis identity) of = tt
statement_parts (map_scope line parameters ranges body) of = of.0
statement_parts (tasklet line body) of = tt
statement_parts (consume_scope line from size name element worker body) of = tt
statement_parts (call line name arguments) of = tt
statement_parts (for_loop line name begin end step body) of = tt
statement_parts (while_loop line when body) of = tt
statement_parts (branch line when body other) of = tt
statement_parts (input line connector memlet) of = tt
statement_parts (output line connector memlet) of = tt
statement_parts (set line name value) of = tt
statement_parts (set_at line name at value) of = tt
statement_parts (tasklet_branch line when body other) of = tt

strip_parts : (s : StatementTree) → HasParts s → HasParts (bare s)
strip_parts (argument_array line name bits extents) holds = holds
strip_parts (local_array line name extents bits) holds = holds
strip_parts (local_stream line name bits size) holds = holds
strip_parts (assign line name at add value) holds = holds
strip_parts (copy line to to_dimensions from from_dimensions) holds = holds
strip_parts (reduce line lambda from to axis identity) holds = holds
strip_parts (map_scope line parameters ranges body) holds = holds
strip_parts (tasklet line body) holds = holds
strip_parts (consume_scope line from size name element worker body) holds = holds
strip_parts (call line name arguments) holds = holds
strip_parts (for_loop line name begin end step body) holds = holds
strip_parts (while_loop line when body) holds = holds
strip_parts (branch line when body other) holds = holds
strip_parts (input line connector memlet) holds = holds
strip_parts (output line connector memlet) holds = holds
strip_parts (set line name value) holds = holds
strip_parts (set_at line name at value) holds = holds
strip_parts (tasklet_branch line when body other) holds = holds

fill_parts : (s : StatementTree) → HasParts (bare s) → HasParts s
fill_parts (argument_array line name bits extents) holds = holds
fill_parts (local_array line name extents bits) holds = holds
fill_parts (local_stream line name bits size) holds = holds
fill_parts (assign line name at add value) holds = holds
fill_parts (copy line to to_dimensions from from_dimensions) holds = holds
fill_parts (reduce line lambda from to axis identity) holds = holds
fill_parts (map_scope line parameters ranges body) holds = holds
fill_parts (tasklet line body) holds = holds
fill_parts (consume_scope line from size name element worker body) holds = holds
fill_parts (call line name arguments) holds = holds
fill_parts (for_loop line name begin end step body) holds = holds
fill_parts (while_loop line when body) holds = holds
fill_parts (branch line when body other) holds = holds
fill_parts (input line connector memlet) holds = holds
fill_parts (output line connector memlet) holds = holds
fill_parts (set line name value) holds = holds
fill_parts (set_at line name at value) holds = holds
fill_parts (tasklet_branch line when body other) holds = holds

branch_parts : (kind : BlockKind) (line : ℕ) (when : Expression) → HasParts (branch_with kind (record { line = line; when = when; statements = [] }) no_statement)
branch_parts Top line when = tt
branch_parts Program line when = tt
branch_parts Scope line when = tt
branch_parts Tasklet line when = tt

pub parts_hold : HoldsOfLines HasParts
parts_hold = record {
  fill = λ s small. fill_parts s;
  moved = λ line other when holds. holds;
  moved_inside = λ line other when holds. holds;
  said = λ names site s of passed. strip_parts s (statement_parts s of);
  reduced = λ line lambda from to axis identity. tt;
  taken = λ line from size name element worker. tt;
  put_in = λ names site line connector memlet on passed. tt;
  put_out = λ names site line connector memlet on passed. tt;
  other = λ names site line when passed. branch_parts site.kind line when;
}
