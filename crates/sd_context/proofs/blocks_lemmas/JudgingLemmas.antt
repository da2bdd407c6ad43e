-- The arguments of a program one after another.
use Rattle.std.proofs.Common.{◌≡◌, refl, ℕ, Bool, List, [], ◌∷◌, ◌++◌}
use Rattle.std.specs.Prelude.{Option}
use Rattle.sd_lex.specs.declared.syntax.statement.Statement.{Statement}
use Rattle.sd_lex.specs.TreeFold.{block_of, statement_of}
use Rattle.sd_line.specs.line.Head.{statement_head}
use Rattle.sd_context.specs.context.Context.{Context}
use Rattle.sd_context.specs.blocks.Judging.{judged_one, judged_all, statement_heads}

pub arguments_last : (line : ℕ) (is_tasklet : Bool) (so_far : Option ℕ × Context) (statements : List Statement) (last : Statement) → judged_all line is_tasklet so_far (statement_heads (block_of (statements ++ last ∷ []))) ≡ judged_one line is_tasklet (judged_all line is_tasklet so_far (statement_heads (block_of statements))) (statement_head (statement_of last))
arguments_last line is_tasklet so_far [] last = refl
arguments_last line is_tasklet so_far (s ∷ statements) last = arguments_last line is_tasklet (judged_one line is_tasklet so_far (statement_head (statement_of s))) statements last
