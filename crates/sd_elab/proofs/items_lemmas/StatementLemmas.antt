-- The plain trees of statements.
use Rattle.std.proofs.Common.{◌≡◌, ◌∙◌, ℕ, ℤ, Option, map, option_map, ap, sym, String, string_bytes}
use Rattle.std.specs.declared.alloc.Global.{Global}
use Rattle.std.specs.declared.vec.Vec.{Vec}
use Rattle.sd_lex.specs.PlainTree.{StatementTree, tasklet, consume_scope, call}
use Rattle.sd_lex.specs.TreeFold.{statement_step, statement_of, block_of, call_argument_of}
use Rattle.sd_lex.specs.declared.syntax.memlet.Slot.{Slot}
use Rattle.sd_lex.specs.declared.syntax.statement.Statement.{Statement}
use Rattle.sd_lex.specs.declared.syntax.statement.Statement.TheOpen as layers
use Rattle.sd_lex.specs.declared.syntax.statement.Statement.TheFolds.{fold-roll-Statement}
use Rattle.sd_lex.specs.declared.syntax.statement.Statement.TheVariants.{Call, Tasklet, Consume, rolls-Call, rolls-Tasklet, rolls-Consume}

pub call_told : (line : ℕ) (name : String Global) (arguments : Vec (String Global × Vec Slot Global) Global) →
    statement_of (Call line name arguments) ≡ call line (string_bytes name) (map call_argument_of arguments.items)
call_told line name arguments = ap statement_of (sym (rolls-Call line name arguments)) ∙ fold-roll-Statement StatementTree statement_step (layers.Call line name arguments)

pub tasklet_told : (line : ℕ) (body : Vec Statement Global) → statement_of (Tasklet line body) ≡ tasklet line (block_of body.items)
tasklet_told line body = ap statement_of (sym (rolls-Tasklet line body)) ∙ fold-roll-Statement StatementTree statement_step (layers.Tasklet line body)

pub consume_told : (line : ℕ) (stream : String Global) (size : ℤ) (name element : String Global) (worker : Option (String Global)) (body : Vec Statement Global) →
    statement_of (Consume line stream size name element worker body)
    ≡ consume_scope line (string_bytes stream) size (string_bytes name) (string_bytes element) (option_map string_bytes worker) (block_of body.items)
consume_told line stream size name element worker body =
    ap statement_of (sym (rolls-Consume line stream size name element worker body))
    ∙ fold-roll-Statement StatementTree statement_step (layers.Consume line stream size name element worker body)
