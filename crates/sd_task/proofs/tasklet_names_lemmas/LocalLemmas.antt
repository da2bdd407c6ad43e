-- The locals that are in force behind a line.
use Rattle.std.proofs.Common.{◌≡◌, ℕ, suc, ◌-◌, ◌≤◌, ◌∷◌, length, drop, refl, ap, arith, Bool, true, false, cond}
use Rattle.sd_lex.specs.PlainTree.{StatementTree, argument_array, local_array, local_stream, assign, copy, reduce, map_scope, tasklet, consume_scope, call, for_loop, while_loop, branch, input, output, set, set_at, tasklet_branch}
use Rattle.sd_program.specs.Names.{Name, Named}
use Rattle.sd_task.specs.in_force.Stack.{oldest}
use Rattle.sd_task.specs.tasklet_names.UsedNames.{is_assigned, locals_behind}

pub oldest_all : (names : Named ℕ) → oldest (length names) names ≡ names
oldest_all names =
    let none : length names - length names ≡ 0 = omega arith in
    ap (λ n. drop n names) none

oldest_more : (entry : Name × ℕ) (names : Named ℕ) (count : ℕ) → count ≤ length names → oldest count (entry ∷ names) ≡ oldest count names
oldest_more entry names count few =
    let one : length (entry ∷ names) - count ≡ suc (length names - count) = omega (arith, few) in
    ap (λ n. drop n (entry ∷ names)) one

oldest_chosen : (test : Bool) (entry : Name × ℕ) (names : Named ℕ) (count : ℕ) → count ≤ length names → oldest count (cond test names (entry ∷ names)) ≡ oldest count names
oldest_chosen true entry names count few = refl
oldest_chosen false entry names count few = oldest_more entry names count few

longer_chosen : (test : Bool) (entry : Name × ℕ) (names : Named ℕ) (count : ℕ) → count ≤ length names → count ≤ length (cond test names (entry ∷ names))
longer_chosen true entry names count few = few
longer_chosen false entry names count few = omega (arith, few)

module _ (variables ins outs : Named ℕ) where
  -- a line keeps the older locals
  pub behind_keeps : (statement : StatementTree) (locals : Named ℕ) (next count : ℕ) → count ≤ length locals → oldest count (locals_behind variables ins outs statement locals next) ≡ oldest count locals
  behind_keeps (set line name value) locals next count few = oldest_chosen (is_assigned variables ins outs locals name) (name, next) locals count few
  behind_keeps (argument_array line name bits extents) locals next count few = refl
  behind_keeps (local_array line name extents bits) locals next count few = refl
  behind_keeps (local_stream line name bits size) locals next count few = refl
  behind_keeps (assign line name at add value) locals next count few = refl
  behind_keeps (copy line to to_dimensions from from_dimensions) locals next count few = refl
  behind_keeps (reduce line lambda from to axis identity) locals next count few = refl
  behind_keeps (map_scope line parameters ranges body) locals next count few = refl
  behind_keeps (tasklet line body) locals next count few = refl
  behind_keeps (consume_scope line stream size name element worker body) locals next count few = refl
  behind_keeps (call line name arguments) locals next count few = refl
  behind_keeps (for_loop line name begin end step body) locals next count few = refl
  behind_keeps (while_loop line when body) locals next count few = refl
  behind_keeps (branch line when body other) locals next count few = refl
  behind_keeps (input line connector memlet) locals next count few = refl
  behind_keeps (output line connector memlet) locals next count few = refl
  behind_keeps (set_at line name at value) locals next count few = refl
  behind_keeps (tasklet_branch line when body other) locals next count few = refl

  pub behind_longer : (statement : StatementTree) (locals : Named ℕ) (next count : ℕ) → count ≤ length locals → count ≤ length (locals_behind variables ins outs statement locals next)
  behind_longer (set line name value) locals next count few = longer_chosen (is_assigned variables ins outs locals name) (name, next) locals count few
  behind_longer (argument_array line name bits extents) locals next count few = few
  behind_longer (local_array line name extents bits) locals next count few = few
  behind_longer (local_stream line name bits size) locals next count few = few
  behind_longer (assign line name at add value) locals next count few = few
  behind_longer (copy line to to_dimensions from from_dimensions) locals next count few = few
  behind_longer (reduce line lambda from to axis identity) locals next count few = few
  behind_longer (map_scope line parameters ranges body) locals next count few = few
  behind_longer (tasklet line body) locals next count few = few
  behind_longer (consume_scope line stream size name element worker body) locals next count few = few
  behind_longer (call line name arguments) locals next count few = few
  behind_longer (for_loop line name begin end step body) locals next count few = few
  behind_longer (while_loop line when body) locals next count few = few
  behind_longer (branch line when body other) locals next count few = few
  behind_longer (input line connector memlet) locals next count few = few
  behind_longer (output line connector memlet) locals next count few = few
  behind_longer (set_at line name at value) locals next count few = few
  behind_longer (tasklet_branch line when body other) locals next count few = few
