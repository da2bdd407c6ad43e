use Rattle.std.proofs.Common.{sym, ◌∙◌}
use Rattle.sd_core.proofs.release_lemmas.Sparse.{sparse-over, sparse-stays}
use Rattle.sd_core.proofs.release.sparse.release_sparse.Goals as goal

pub returns-in_default : goal.returns-in_default
returns-in_default c = λ summed. sparse-stays c.args.tasks.now c.args.points.now summed

pub returns-then-not-is_over_at : goal.returns-then-not-is_over_at
returns-then-not-is_over_at c = λ summed. sparse-stays c.args.tasks.now c.args.points.now summed

pub returns : goal.returns
returns c = λ summed.
    sparse-over c.args.tasks.now c.args.points.now c.swap.new.stretch c.in-Some.number.now _ c.new.ensures.items
    (sym (c.is_over_at.ensures summed) ∙ c.if-not-is_over_at.false)
    (c.in_ok-swap.ensures.points summed) (c.in_ok-swap.ensures.summed summed)
