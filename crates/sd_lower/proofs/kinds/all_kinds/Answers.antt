use Rattle.std.specs.List.{flat_map}
use Rattle.std.proofs.Common.{◌≡◌, ◌≤◌, rules, length, take_all, ap, ◌∙◌}
use Rattle.sd_graph.specs.TreeFold.{graph_tree}
use Rattle.sd_prop.specs.propagation.Joined.{annotated}
use Rattle.sd_lower.specs.Kinds.{kinds_at}
use Rattle.sd_lower.proofs.Paths.{Top, told-tops}
use Rattle.sd_lower.proofs.kinds.all_kinds.Goals as goal

pub returns : goal.returns
returns c =
    let tree = graph_tree c.args.bound.now.graph in
    let tops = c.as_slice-top-items.result.now in
    let shown : tops ≡ annotated tree = c.as_slice-top-items.ensures.value ∙ c.in_ok-tops.ensures in
    let past : length tops ≤ c.loop-top.top-index = search rules in
    c.loop-top.invariant ∙ ap (flat_map (λ (top : Top). kinds_at tree top.0)) (take_all c.loop-top.top-index tops past ∙ shown) ∙ told-tops (kinds_at tree) tree
