use Rattle.std.proofs.Common.{◌∙◌}
use Rattle.sd_leaves.proofs.moves_lemmas.Todos.{done-is}
use Rattle.sd_leaves.proofs.moves.doing.Doing.is_done.Goals as goal

pub returns : goal.returns
returns c = done-is c.args.self.now.todo.items c.args.self.now.done c.len.result (c.len.ensures ∙ c.args.self.now.todo.ok.0)
