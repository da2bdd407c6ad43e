use Rattle.std.proofs.Common.{◌≡◌, Some, option_map, ap, sym, ◌∙◌, subst}
use Rattle.sd_graph.specs.TreeFold.{graph_tree}
use Rattle.sd_prop.specs.propagation.Scopes.{scope_at, scope_with}
use Rattle.sd_race.specs.checking.Found.{IsVerdict}
use Rattle.sd_race.proofs.checking.search.scope_accepted.Goals as goal

pub returns : goal.returns
returns c =
    let found : scope_at (graph_tree c.args.bound.now.graph) c.args.path.now.steps ≡ Some c.in-Some.scope.now =
    (λ i. scope_with (sym c.as_slice-2.ensures i) (sym (c.as_slice.ensures.value ∙ c.in_ok-all.ensures) i))
    ∙ sym c.scope_with.ensures
    ∙ ap (λ found. option_map (λ scope. scope.now) found) c.in-Some.is in
    subst (IsVerdict (Some c.in_ok-is_free_of_races.field-0)) (sym found) c.in_ok-is_free_of_races.ensures
