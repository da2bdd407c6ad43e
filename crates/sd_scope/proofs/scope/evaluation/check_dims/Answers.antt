use Rattle.std.proofs.Common.{rules, subst}
use Rattle.std.proofs.lemmas.List.{take_all}
use Rattle.std.proofs.lemmas.List.Elements.{All-more}
use Rattle.sd_range.specs.Subset.{IsDim}
use Rattle.sd_subset.specs.elements.Way.{IsEvaluableDim}
use Rattle.sd_scope.proofs.scope.evaluation.check_dims.Goals as goal

pub loop-dim-preserved : goal.loop-dim-preserved
loop-dim-preserved c = record {
  dims = All-more IsDim c.args.dims.now c.loop-dim.dim-index c.dim-item.result (search rules) c.loop-dim.invariant.dims
      (subst IsDim c.dim-item.is c.in_ok-check_dim.ensures.dim);
  evaluable = All-more (IsEvaluableDim c.args.values.now) c.args.dims.now c.loop-dim.dim-index c.dim-item.result (search rules) c.loop-dim.invariant.evaluable
      (subst (IsEvaluableDim c.args.values.now) c.dim-item.is c.in_ok-check_dim.ensures.evaluable);
}

pub returns-clause-dims : goal.returns-clause-dims
returns-clause-dims c = rw (take_all c.loop-dim.dim-index c.args.dims.now (search rules)) at c.loop-dim.invariant.dims

pub returns-clause-evaluable : goal.returns-clause-evaluable
returns-clause-evaluable c = rw (take_all c.loop-dim.dim-index c.args.dims.now (search rules)) at c.loop-dim.invariant.evaluable
