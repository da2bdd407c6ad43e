-- The plain trees of consume scopes and branches.
use Rattle.std.proofs.Common.{◌≡◌, ℕ, ℤ, Option, option_map, String, string_bytes}
use Rattle.std.specs.declared.alloc.Global.{Global}
use Rattle.std.specs.declared.vec.Vec.{Vec}
use Rattle.sd_lex.specs.PlainTree.{StatementTree, consume_scope, branch}
use Rattle.sd_lex.specs.TreeFold.{statement_step, statement_of, block_of, expression_of}
use Rattle.sd_lex.specs.declared.syntax.expression.Expr.{Expr}
use Rattle.sd_lex.specs.declared.syntax.statement.Statement as statement
use Rattle.sd_lex.specs.declared.syntax.statement.Statement.{Statement}
use Rattle.sd_lex.specs.declared.syntax.statement.Statement.TheOpen.{Consume, If}
use Rattle.sd_lex.specs.declared.syntax.statement.Statement.TheFolds.{fold-roll-Statement}

pub consume_tree : (line : ℕ) (stream : String Global) (size : ℤ) (name element : String Global) (worker : Option (String Global)) (body : Vec Statement Global) →
    statement_of (statement.Consume line stream size name element worker body)
    ≡ consume_scope line (string_bytes stream) size (string_bytes name) (string_bytes element) (option_map string_bytes worker) (block_of body.items)
unfolding statement.roll-Statement denote.Hole.Carrier.roll
consume_tree line stream size name element worker body = fold-roll-Statement StatementTree statement_step (Consume line stream size name element worker body)

pub if_tree : (line : ℕ) (when : Expr) (body other : Vec Statement Global) →
    statement_of (statement.If line when body other) ≡ branch line (expression_of when) (block_of body.items) (block_of other.items)
unfolding statement.roll-Statement denote.Hole.Carrier.roll
if_tree line when body other = fold-roll-Statement StatementTree statement_step (If line when body other)
