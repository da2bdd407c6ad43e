-- The plain tree of a `for` loop.
use Rattle.std.proofs.Common.{◌≡◌, ℕ, ℤ, Option, option_map, String, string_bytes}
use Rattle.std.specs.declared.alloc.Global.{Global}
use Rattle.std.specs.declared.vec.Vec.{Vec}
use Rattle.sd_lex.specs.PlainTree.{StatementTree, for_loop}
use Rattle.sd_lex.specs.TreeFold.{statement_step, statement_of, block_of, expression_of}
use Rattle.sd_lex.specs.declared.syntax.expression.Expr.{Expr}
use Rattle.sd_lex.specs.declared.syntax.statement.Statement as statement
use Rattle.sd_lex.specs.declared.syntax.statement.Statement.{Statement}
use Rattle.sd_lex.specs.declared.syntax.statement.Statement.TheOpen.{For}
use Rattle.sd_lex.specs.declared.syntax.statement.Statement.TheFolds.{fold-roll-Statement}

pub for_tree : (line : ℕ) (name : String Global) (begin : Option Expr) (end : Expr) (step : Option ℤ) (body : Vec Statement Global) →
    statement_of (statement.For line name begin end step body) ≡ for_loop line (string_bytes name) (option_map expression_of begin) (expression_of end) step (block_of body.items)
unfolding statement.roll-Statement denote.Hole.Carrier.roll
for_tree line name begin end step body = fold-roll-Statement StatementTree statement_step (For line name begin end step body)
