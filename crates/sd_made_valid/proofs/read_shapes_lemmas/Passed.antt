-- What a statement that is accepted leaves as it was.
use Rattle.std.proofs.Common.{◌≡◌, ℕ, List, [], ◌∷◌, Bool, refl}
use Rattle.std.specs.Bool.{⊤}
use Rattle.sd_lex.specs.PlainTree.{StatementTree, argument_array, reduce, map_scope, tasklet, consume_scope, for_loop, while_loop, branch, tasklet_branch}
use Rattle.sd_line.specs.declared.line.head.BlockKind.{BlockKind}
use Rattle.sd_line.specs.declared.line.head.BlockKind.TheVariants.{Top, Program, Scope, Tasklet}
use Rattle.sd_line.specs.line.Head.{statement_head}
use Rattle.sd_names.specs.Names.{Name}
use Rattle.sd_context.specs.context.Context.{Context}
use Rattle.sd_context.specs.context.After.{context_after}
use Rattle.sd_context.specs.context.Declaring.{statement_names}
use Rattle.sd_context.specs.context.Writing.{statement_writes, noted_all}
use Rattle.sd_read.proofs.readable_lemmas.kept.Heads.{Fits}
use Rattle.sd_read.proofs.readable_lemmas.kept.Trees.{bare, of_line}
use Rattle.sd_made_valid.proofs.read_shapes_lemmas.Blocks.{BlocksHold, blocks_more}

abbrev pub IsNoArgument : StatementTree → Type 0
IsNoArgument (argument_array line name bits extents) = ⊥
IsNoArgument s = ⊤

pub no_argument : (kind : BlockKind) (s : StatementTree) → Fits kind (statement_head s) → IsNoArgument s
no_argument Top s fit = absurd fit
no_argument Program (argument_array line name bits extents) fit = fit
no_argument Program s fit = tt
no_argument Scope (argument_array line name bits extents) fit = fit
no_argument Scope s fit = tt
no_argument Tasklet (argument_array line name bits extents) fit = fit
no_argument Tasklet s fit = tt

-- the programs that have ended, the arguments of this one, and what it has written
pub record IsPassed (context after : Context) (more : List Name) : Type 0 where
  pub symbols : after.symbols ≡ context.symbols
  pub functions : after.functions ≡ context.functions
  pub written : after.written ≡ noted_all context.written more
  pub parameters : after.parameters ≡ context.parameters
  pub arguments : after.arguments ≡ context.arguments

pub statement_passed : (context : Context) (line : ℕ) (scoped : Bool) (s : StatementTree) → IsNoArgument s → IsPassed context (context_after context line scoped (statement_head s)) (statement_writes context.names s)
statement_passed context line scoped (argument_array at name bits extents) not' = absurd not'
statement_passed context line scoped s not' = record { symbols = refl; functions = refl; written = refl; parameters = refl; arguments = refl }

pub same_names : (context : Context) (line : ℕ) (scoped : Bool) (s : StatementTree) → (context_after context line scoped (statement_head s)).names ≡ statement_names context.names s
same_names context line scoped (argument_array at name bits extents) = refl
same_names context line scoped s = refl

-- a statement goes to the innermost block, or opens one
pub statement_blocks : (Holds : StatementTree → Type 0) (context : Context) (line : ℕ) (scoped : Bool) (s : StatementTree) → Fits context.block.kind (statement_head s) → Holds (bare s) → BlocksHold Holds (context.block ∷ context.outer) →
    let after = context_after context line scoped (statement_head s) in BlocksHold Holds (after.block ∷ after.outer)
statement_blocks Holds context line scoped (argument_array at name bits extents) fit holds all = all
statement_blocks Holds context line scoped (reduce at lambda from to axis identity) fit holds all = absurd (of_line context.block.kind (reduce at lambda from to axis identity) fit)
statement_blocks Holds context line scoped (map_scope at parameters ranges body) fit holds all = (holds, (tt, all))
statement_blocks Holds context line scoped (tasklet at body) fit holds all = (holds, (tt, all))
statement_blocks Holds context line scoped (consume_scope at from size name element worker body) fit holds all = absurd (of_line context.block.kind (consume_scope at from size name element worker body) fit)
statement_blocks Holds context line scoped (for_loop at name begin end step body) fit holds all = (holds, (tt, all))
statement_blocks Holds context line scoped (while_loop at when body) fit holds all = (holds, (tt, all))
statement_blocks Holds context line scoped (branch at when body other) fit holds all = (tt, (tt, all))
statement_blocks Holds context line scoped (tasklet_branch at when body other) fit holds all = (tt, (tt, all))
statement_blocks Holds context line scoped s fit holds all = blocks_more Holds context.block context.outer (s ∷ []) (holds, tt) all
