use Rattle.std.proofs.Common.{◌∙◌}
use Rattle.std.proofs.lemmas.Result.{IfOk-weaker}
use Rattle.sd_graph.specs.PlainTree.{consume_scope}
use Rattle.sd_scope.specs.scope.Standing.{context_of}
use Rattle.sd_fire.proofs.begin_lemmas.Rolled.{pool-begins, same-number}
use Rattle.sd_fire.proofs.begin.leaf.begin_pool.Goals as goal

pub returns-clause-begun : goal.returns-clause-begun
returns-clause-begun c = IfOk-weaker c.pool.result _ _ (λ left kept tree element line private body.
    pool-begins (context_of tree c.args.base.now c.args.scope.now) line c.args.stream element private body c.in_ok-from.from left (c.in_ok-from.ensures.level tree) (c.in_ok-from.ensures.container tree)
    (kept (consume_scope c.args.stream element private body) line (context_of tree c.args.base.now c.args.scope.now))) c.pool.ensures.kept

pub returns-clause-counted : goal.returns-clause-counted
returns-clause-counted c = IfOk-weaker c.pool.result _ _ (λ left counted. counted c.args.machine.now.memories ∙ same-number _ _ c.waiting-waiting.ensures) c.pool.ensures.counted
