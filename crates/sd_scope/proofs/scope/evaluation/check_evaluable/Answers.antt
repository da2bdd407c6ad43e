use Rattle.std.proofs.Common.{rules, ℕ, ℤ, ◌<◌, length, pos, get_or, FitsSigned}
use Rattle.std.specs.Int.{w128}
use Rattle.std.proofs.lemmas.List.{take_all}
use Rattle.std.proofs.lemmas.List.Elements.{All-more}
use Rattle.sd_scope.proofs.scope.evaluation.check_evaluable.Goals as goal

pub loop-variable-preserved : goal.loop-variable-preserved
loop-variable-preserved c =
    let i = c.loop-variable.variable-index in
    let within : i < length c.args.affine.now.terms = rw c.as_slice-variable-items.ensures.terms at c.loop-variable-test.true in
    let known : (get_or c.args.affine.now.terms i (0, pos 0)).0 < length c.args.values.now = search rules in
    All-more (λ (term : ℕ × ℤ). term.0 < length c.args.values.now) c.args.affine.now.terms i (0, pos 0) within c.loop-variable.invariant known

pub returns : goal.returns
returns c =
    let fits : FitsSigned w128 c.in_ok-value_of.field-0 = search rules in
    record {
      known = rw (take_all c.loop-variable.variable-index c.args.affine.now.terms (search rules)) at c.loop-variable.invariant;
      fits = rw c.in_ok-value_of.ensures at fits;
    }
