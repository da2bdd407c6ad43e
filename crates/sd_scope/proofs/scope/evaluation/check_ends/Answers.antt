use Rattle.std.proofs.Common.{rules, subst}
use Rattle.std.proofs.lemmas.List.{take_all}
use Rattle.std.proofs.lemmas.List.Elements.{All-more}
use Rattle.sd_range.specs.Affine.{IsEvaluable}
use Rattle.sd_scope.proofs.scope.evaluation.check_ends.Goals as goal

pub loop-end-preserved : goal.loop-end-preserved
loop-end-preserved c =
    All-more (IsEvaluable c.args.values.now) c.args.ends.now c.loop-end.end-index c.end-item.result (search rules) c.loop-end.invariant
    (subst (λ end. IsEvaluable c.args.values.now end) c.end-item.is c.in_ok-check_evaluable.ensures)

pub returns : goal.returns
returns c = rw (take_all c.loop-end.end-index c.args.ends.now (search rules)) at c.loop-end.invariant
