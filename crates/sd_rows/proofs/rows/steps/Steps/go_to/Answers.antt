use Rattle.std.proofs.Common.{◌≡◌, ℤ, List, [], ◌∷◌, ◌++◌, OnOk, ap, ◌∙◌, subst, rules, FitsSigned}
use Rattle.std.specs.Int.{w128}
use Rattle.std.proofs.lemmas.Int.{to_z-of_z}
use Rattle.sd_graph.specs.TreeFold.{graph_tree}
use Rattle.sd_graph.specs.Unfold.{at_point}
use Rattle.sd_rows.specs.rows.Map.{standing, context_at}
use Rattle.sd_rows.proofs.rows.steps.Steps.go_to.Goals as goal

pub returns-clause-context : goal.returns-clause-context
returns-clause-context c inside =
    let task = c.args.task.now in
    let fits : FitsSigned w128 c.in_ok-value.value = search rules in
    subst (λ (point : List ℤ). OnOk c.at_point.result (standing task c.at_point.new.self ≡ at_point (context_at task) task.params.now task.private.now point))
    (c.as_slice.ensures.value ∙ c.in_ok-point.ensures ∙ ap (λ value. c.args.row.now ++ value ∷ []) (to_z-of_z w128 c.in_ok-value.value fits ∙ c.in_ok-value.ensures))
    (c.at_point.ensures.context (graph_tree task.graph.now) task.base.now task.private.now inside)
