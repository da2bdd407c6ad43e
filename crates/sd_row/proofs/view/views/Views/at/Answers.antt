use Rattle.std.proofs.Common.{map, ap, sym, ◌∙◌}
use Rattle.sd_num.specs.Wrapped.{wrapped}
use Rattle.sd_range.specs.Affine.{variable_value}
use Rattle.sd_graph.specs.TreeFold.{graph_tree}
use Rattle.sd_scope.specs.scope.Standing.{context_of}
use Rattle.sd_row.proofs.instance_lemmas.Matched.{found_so}
use Rattle.sd_row.proofs.view.views.Views.at.Goals as goal

pub returns-clause-views : goal.returns-clause-views
returns-clause-views c =
    let program = graph_tree c.args.graph.now in
    let context = context_of program c.args.base.now c.args.scope.now in
    record {
      inputs = found_so _ c.in_ok-inputs.field-0 c.in-Some.inputs c.in-Some.is c.in_ok-inputs.ensures.windows;
      outputs = found_so _ c.in_ok-outputs.field-0 c.in-Some-2.outputs c.in-Some-2.is c.in_ok-outputs.ensures program c.args.base.now;
      variables = ap (map (λ variable. wrapped (variable_value context.values variable))) (sym c.as_slice.ensures.value) ∙ c.in_ok-variables.ensures;
      targets = c.in_ok-targets.ensures;
    }
