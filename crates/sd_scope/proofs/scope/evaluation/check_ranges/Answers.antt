use Rattle.std.proofs.Common.{rules, subst, ℕ}
use Rattle.std.proofs.lemmas.List.{take_all}
use Rattle.std.proofs.lemmas.List.Elements.{All-more, All-map}
use Rattle.sd_range.specs.declared.range.Range.{Range}
use Rattle.sd_range.specs.Range.{IsRange, IsEvaluableRange}
use Rattle.sd_scope.proofs.scope.evaluation.check_ranges.Goals as goal

pub loop-range-preserved : goal.loop-range-preserved
loop-range-preserved c = record {
  ranges = All-more (λ (param : ℕ × Range). IsRange param.1) c.args.params.now c.loop-range.range-index c.loop-range-item.result (search rules) c.loop-range.invariant.ranges
      (subst (λ (param : ℕ × Range). IsRange param.1) c.loop-range-item.is c.in_ok-check_range.ensures.range);
  evaluable = All-more (λ (param : ℕ × Range). IsEvaluableRange c.args.values.now param.1) c.args.params.now c.loop-range.range-index c.loop-range-item.result (search rules) c.loop-range.invariant.evaluable
      (subst (λ (param : ℕ × Range). IsEvaluableRange c.args.values.now param.1) c.loop-range-item.is c.in_ok-check_range.ensures.evaluable);
}

pub returns-clause-ranges : goal.returns-clause-ranges
returns-clause-ranges c =
    All-map IsRange (λ (param : ℕ × Range). param.1) c.args.params.now
    (rw (take_all c.loop-range.range-index c.args.params.now (search rules)) at c.loop-range.invariant.ranges)

pub returns-clause-evaluable : goal.returns-clause-evaluable
returns-clause-evaluable c =
    All-map (IsEvaluableRange c.args.values.now) (λ (param : ℕ × Range). param.1) c.args.params.now
    (rw (take_all c.loop-range.range-index c.args.params.now (search rules)) at c.loop-range.invariant.evaluable)
