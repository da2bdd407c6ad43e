-- The expressions of each line have few levels.
use Rattle.std.proofs.Common.{◌≡◌, ℕ, List, [], ◌∷◌, Bool, true, false, refl, sym, subst}
use Rattle.std.specs.List.{AllByRecursion}
use Rattle.sd_lex.specs.PlainTree.{Expression, Dimension, StatementTree, argument_array, local_array, local_stream, assign, copy, reduce, map_scope, tasklet, consume_scope, call, for_loop, while_loop, branch, input, output, set, set_at, tasklet_branch, no_statement}
use Rattle.sd_line.specs.declared.line.head.BlockKind.{BlockKind}
use Rattle.sd_line.specs.declared.line.head.BlockKind.TheVariants.{Top, Program, Scope, Tasklet}
use Rattle.sd_line.specs.line.Head.{statement_head, elif_head}
use Rattle.sd_names.specs.Names.{Name}
use Rattle.sd_program.specs.Bounds.{EachDimension}
use Rattle.sd_program.specs.Place.{Place}
use Rattle.sd_context.specs.blocks.Closing.{branch_with}
use Rattle.sd_read.specs.readable.Levels.{IsShallow, value_levels, HasFewLevels}
use Rattle.sd_read.proofs.readable_lemmas.kept.Heads.{levels_of_value, GoesOn, IsBodyStatement, IsTaskletStatement, Fits}
use Rattle.sd_read.proofs.readable_lemmas.kept.Trees.{bare, input_fits, output_fits}
use Rattle.sd_read.proofs.readable_lemmas.places.Placed.{around_of, HoldsInPlaces}

few_ends : (dimensions : List Dimension) → AllByRecursion GoesOn dimensions → EachDimension (IsShallow 64) dimensions
few_ends [] on = tt
few_ends (first ∷ rest) on = (on.0.1, few_ends rest on.1)

few_in_arguments : (arguments : List (Name × List Dimension)) → AllByRecursion (λ argument. AllByRecursion GoesOn argument.1) arguments → AllByRecursion (λ argument. EachDimension (IsShallow 64) argument.1) arguments
few_in_arguments [] on = tt
few_in_arguments (first ∷ rest) on = (few_ends first.1 on.0, few_in_arguments rest on.1)

same_levels : (kind : BlockKind) (add : Bool) → levels_of_value kind add ≡ value_levels (around_of kind) add
same_levels Top true = refl
same_levels Top false = refl
same_levels Program true = refl
same_levels Program false = refl
same_levels Scope true = refl
same_levels Scope false = refl
same_levels Tasklet true = refl
same_levels Tasklet false = refl

body_levels : (kind : BlockKind) (place : Place) (s : StatementTree) → place.around ≡ around_of kind → IsBodyStatement kind s → HasFewLevels place s
body_levels kind place (argument_array line name bits extents) is fit = absurd fit
body_levels kind place (local_array line name extents bits) is fit = fit.1
body_levels kind place (local_stream line name bits size) is fit = tt
body_levels kind place (assign line name at add value) is fit = (
  fit.1.0,
  subst (λ around. IsShallow (value_levels around add) value) (sym is) (subst (λ levels. IsShallow levels value) (same_levels kind add) fit.1.1),
)
body_levels kind place (copy line to to_dimensions from from_dimensions) is fit = (few_ends to_dimensions fit.0, few_ends from_dimensions fit.1)
body_levels kind place (reduce line lambda from to axis identity) is fit = absurd fit
body_levels kind place (map_scope line parameters ranges body) is fit = few_ends ranges fit.1.1
body_levels kind place (tasklet line body) is fit = tt
body_levels kind place (consume_scope line from size name element worker body) is fit = absurd fit
body_levels kind place (call line name arguments) is fit = few_in_arguments arguments fit
body_levels kind place (for_loop line name begin end step body) is fit = fit.1
body_levels kind place (while_loop line when body) is fit = fit
body_levels kind place (branch line when body other) is fit = fit
body_levels kind place (input line connector memlet) is fit = absurd fit
body_levels kind place (output line connector memlet) is fit = absurd fit
body_levels kind place (set line name value) is fit = absurd fit
body_levels kind place (set_at line name at value) is fit = absurd fit
body_levels kind place (tasklet_branch line when body other) is fit = absurd fit

code_levels : (place : Place) (s : StatementTree) → IsTaskletStatement s → HasFewLevels place s
code_levels place (argument_array line name bits extents) fit = absurd fit
code_levels place (local_array line name extents bits) fit = absurd fit
code_levels place (local_stream line name bits size) fit = absurd fit
code_levels place (assign line name at add value) fit = absurd fit
code_levels place (copy line to to_dimensions from from_dimensions) fit = absurd fit
code_levels place (reduce line lambda from to axis identity) fit = absurd fit
code_levels place (map_scope line parameters ranges body) fit = absurd fit
code_levels place (tasklet line body) fit = absurd fit
code_levels place (consume_scope line from size name element worker body) fit = absurd fit
code_levels place (call line name arguments) fit = absurd fit
code_levels place (for_loop line name begin end step body) fit = absurd fit
code_levels place (while_loop line when body) fit = absurd fit
code_levels place (branch line when body other) fit = absurd fit
code_levels place (input line connector memlet) fit = absurd fit
code_levels place (output line connector memlet) fit = absurd fit
code_levels place (set line name value) fit = fit
code_levels place (set_at line name at value) fit = fit
code_levels place (tasklet_branch line when body other) fit = fit

said_levels : (kind : BlockKind) (place : Place) (s : StatementTree) → place.around ≡ around_of kind → Fits kind (statement_head s) → HasFewLevels place s
said_levels Top place s is fit = absurd fit
said_levels Program place s is fit = body_levels Program place s is fit
said_levels Scope place s is fit = body_levels Scope place s is fit
said_levels Tasklet place s is fit = code_levels place s fit

strip_levels : (place : Place) (s : StatementTree) → HasFewLevels place s → HasFewLevels place (bare s)
strip_levels place (argument_array line name bits extents) holds = holds
strip_levels place (local_array line name extents bits) holds = holds
strip_levels place (local_stream line name bits size) holds = holds
strip_levels place (assign line name at add value) holds = holds
strip_levels place (copy line to to_dimensions from from_dimensions) holds = holds
strip_levels place (reduce line lambda from to axis identity) holds = holds
strip_levels place (map_scope line parameters ranges body) holds = holds
strip_levels place (tasklet line body) holds = holds
strip_levels place (consume_scope line from size name element worker body) holds = holds
strip_levels place (call line name arguments) holds = holds
strip_levels place (for_loop line name begin end step body) holds = holds
strip_levels place (while_loop line when body) holds = holds
strip_levels place (branch line when body other) holds = holds
strip_levels place (input line connector memlet) holds = holds
strip_levels place (output line connector memlet) holds = holds
strip_levels place (set line name value) holds = holds
strip_levels place (set_at line name at value) holds = holds
strip_levels place (tasklet_branch line when body other) holds = holds

fill_levels : (place : Place) (s : StatementTree) → HasFewLevels place (bare s) → HasFewLevels place s
fill_levels place (argument_array line name bits extents) holds = holds
fill_levels place (local_array line name extents bits) holds = holds
fill_levels place (local_stream line name bits size) holds = holds
fill_levels place (assign line name at add value) holds = holds
fill_levels place (copy line to to_dimensions from from_dimensions) holds = holds
fill_levels place (reduce line lambda from to axis identity) holds = holds
fill_levels place (map_scope line parameters ranges body) holds = holds
fill_levels place (tasklet line body) holds = holds
fill_levels place (consume_scope line from size name element worker body) holds = holds
fill_levels place (call line name arguments) holds = holds
fill_levels place (for_loop line name begin end step body) holds = holds
fill_levels place (while_loop line when body) holds = holds
fill_levels place (branch line when body other) holds = holds
fill_levels place (input line connector memlet) holds = holds
fill_levels place (output line connector memlet) holds = holds
fill_levels place (set line name value) holds = holds
fill_levels place (set_at line name at value) holds = holds
fill_levels place (tasklet_branch line when body other) holds = holds

other_levels : (kind : BlockKind) (place : Place) (line : ℕ) (when : Expression) → Fits kind (elif_head when) → HasFewLevels place (branch_with kind (record { line = line; when = when; statements = [] }) no_statement)
other_levels Top place line when fit = absurd fit
other_levels Program place line when fit = fit
other_levels Scope place line when fit = fit
other_levels Tasklet place line when fit = fit

pub levels_hold : HoldsInPlaces HasFewLevels
levels_hold = record {
  strip = strip_levels;
  fill = fill_levels;
  moved = λ place line other when holds. holds;
  moved_inside = λ place line other when holds. holds;
  said = λ names site place s at of fit passed. said_levels site.kind place s at.around fit;
  argument = λ names site place line name bits extents few around depth passed. few.1;
  reduced = λ names site place line lambda from to axis identity at fit passed. tt;
  decorated = λ names site place from size at fit passed line name element worker. tt;
  put_in = λ names site place line connector memlet at fit passed. few_ends memlet.dimensions (input_fits site.kind connector memlet fit);
  put_out = λ names site place line connector memlet at fit passed. few_ends memlet.dimensions (output_fits site.kind connector memlet fit);
  other = λ names site place line when may at fit passed. other_levels site.kind place line when fit;
}
