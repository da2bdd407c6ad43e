-- Names in force that are put back at the end of a scope.
use Rattle.std.proofs.Common.{◌≡◌, ◌∙◌, ℕ, suc, ◌+◌, ◌-◌, ◌≤◌, List, [], ◌∷◌, length, drop, refl, ap, arith}
use Rattle.sd_lex.specs.PlainTree.{StatementTree, argument_array, local_array, local_stream, assign, copy, reduce, map_scope, tasklet, consume_scope, call, for_loop, while_loop, branch, input, output, set, set_at, tasklet_branch}
use Rattle.sd_program.specs.Names.{Name, Named}
use Rattle.sd_task.specs.in_force.Names.{with_numbered}
use Rattle.sd_task.specs.in_force.Stack.{oldest}
use Rattle.sd_task.specs.task.Table.{Table, with_container}
use Rattle.sd_elab.specs.items.NamesBehind.{table_behind}

-- the containers in force before are the oldest ones, so many
pub record IsKept (count : ℕ) (before now : Table) : Type 0 where
  pub containers : oldest count now.containers ≡ before.containers
  pub few : count ≤ length now.containers
  pub variables : now.variables ≡ before.variables
  pub all : now.all ≡ before.all

oldest_of_more : (count : ℕ) (entry : Name × ℕ) (names : Named ℕ) → count ≤ length names → oldest count (entry ∷ names) ≡ oldest count names
oldest_of_more count entry names few =
    let more : length (entry ∷ names) - count ≡ suc (length names - count) = omega (arith, few) in
    ap (λ n. drop n (entry ∷ names)) more

oldest_all : (names : Named ℕ) → oldest (length names) names ≡ names
oldest_all names =
    let none : length names - length names ≡ 0 = omega arith in
    ap (λ n. drop n names) none

kept_with : (count : ℕ) (before now : Table) (name : Name) (container : ℕ) → IsKept count before now → IsKept count before (with_container name container now)
kept_with count before now name container kept = record {
  containers = oldest_of_more count (name, container) now.containers kept.few ∙ kept.containers;
  few = omega (arith, kept.few);
  variables = kept.variables;
  all = kept.all;
}

-- all is kept where nothing is declared yet
pub kept_at_first : (table : Table) → IsKept (length table.containers) table table
kept_at_first table = record { containers = oldest_all table.containers; few = omega arith; variables = refl; all = refl }

-- a declaration keeps what was in force
pub kept_behind : (count : ℕ) (before now : Table) (statement : StatementTree) (next : ℕ) → IsKept count before now → IsKept count before (table_behind statement next now)
kept_behind count before now (argument_array line name bits extents) next kept = kept
kept_behind count before now (local_array line name extents bits) next kept = kept_with count before now name next kept
kept_behind count before now (local_stream line name bits size) next kept = kept_with count before now name next kept
kept_behind count before now (assign line name at add value) next kept = kept
kept_behind count before now (copy line to to_dimensions from from_dimensions) next kept = kept
kept_behind count before now (reduce line lambda from to axis identity) next kept = kept
kept_behind count before now (map_scope line parameters ranges body) next kept = kept
kept_behind count before now (tasklet line body) next kept = kept
kept_behind count before now (consume_scope line stream size name element worker body) next kept = kept
kept_behind count before now (call line name arguments) next kept = kept
kept_behind count before now (for_loop line name begin end step body) next kept = kept
kept_behind count before now (while_loop line when body) next kept = kept
kept_behind count before now (branch line when body other) next kept = kept
kept_behind count before now (input line connector memlet) next kept = kept
kept_behind count before now (output line connector memlet) next kept = kept
kept_behind count before now (set line name value) next kept = kept
kept_behind count before now (set_at line name at value) next kept = kept
kept_behind count before now (tasklet_branch line when body other) next kept = kept

-- a table of the same parts
same_table : (containers variables : Named ℕ) (other before : Table) → containers ≡ before.containers → variables ≡ before.variables → other.all ≡ before.all →
    record { containers = containers; variables = variables; all = other.all } ≡ before
same_table containers variables other before c v a =
    ap (λ containers. record { containers = containers; variables = variables; all = other.all }) c
    ∙ ap (λ variables. record { containers = before.containers; variables = variables; all = other.all }) v
    ∙ ap (λ all. record { containers = before.containers; variables = before.variables; all = all }) a

-- the containers of a scope go out of force
pub containers_back : (count : ℕ) (before now : Table) → IsKept count before now → record { containers = oldest count now.containers; variables = now.variables; all = now.all } ≡ before
containers_back count before now kept = same_table (oldest count now.containers) now.variables now before kept.containers kept.variables kept.all

oldest_numbered : (names : List Name) (next count : ℕ) (known : Named ℕ) → count ≤ length known → oldest count (with_numbered names next known) ≡ oldest count known
oldest_numbered [] next count known few = refl
oldest_numbered (name ∷ names) next count known few =
    oldest_numbered names (next + 1) count ((name, next) ∷ known) (omega (arith, few)) ∙ oldest_of_more count (name, next) known few

-- the parameters of a map go out of force
pub variables_back : (names : List Name) (next : ℕ) (known : Named ℕ) → oldest (length known) (with_numbered names next known) ≡ known
variables_back names next known = oldest_numbered names next (length known) known (omega arith) ∙ oldest_all known

-- the same, where the table inside is one with these parameters, and so many variables are left
pub variables_restored : (before inside : Table) (names : List Name) (next kept : ℕ) (numbered cut : Named ℕ) →
    kept ≡ length before.variables → numbered ≡ with_numbered names next before.variables →
    inside ≡ record { containers = before.containers; variables = numbered; all = before.all } → cut ≡ oldest kept inside.variables →
    record { containers = inside.containers; variables = cut; all = inside.all } ≡ before
variables_restored before inside names next kept numbered cut kept-is numbered-is inside-is cut-is =
    same_table inside.containers cut inside before
    (ap (λ (table : Table). table.containers) inside-is)
    (cut-is
    ∙ ap (λ count. oldest count inside.variables) kept-is
    ∙ ap (λ (table : Table). oldest (length before.variables) table.variables) inside-is
    ∙ ap (λ variables. oldest (length before.variables) variables) numbered-is
    ∙ variables_back names next before.variables)
    (ap (λ (table : Table). table.all) inside-is)
