use Rattle.std.proofs.Common.{◌≡◌, rules, map, ap, ◌∙◌}
use Rattle.sd_graph.specs.TreeFold.{graph_tree, item_tree, named_container}
use Rattle.sd_graph.specs.PlainTree.{GraphTree}
use Rattle.sd_prop.specs.propagation.Scopes.{all_scopes}
use Rattle.sd_lower.specs.Hulls.{hulls_of, enclosed, graph_of, first_accesses}
use Rattle.sd_lower.proofs.Alone.{alone-hulls}
use Rattle.sd_lower.proofs.hulls.item_hulls.Goals as goal

pub returns : goal.returns
returns c =
    let containers = map named_container c.args.containers.now.entries in
    let tree : graph_tree c.in_ok-graph.graph ≡ graph_of containers (enclosed (item_tree c.args.item.now)) = c.in_ok-graph.ensures ∙ ap (graph_of containers) c.in_ok-enclosed.ensures in
    let hulls : c.in_ok-hulls.hulls ≡ hulls_of containers (first_accesses (all_scopes (graph_tree c.in_ok-graph.graph))) = search rules in
    hulls ∙ ap (λ (g : GraphTree). hulls_of containers (first_accesses (all_scopes g))) tree ∙ alone-hulls containers (item_tree c.args.item.now).0 (item_tree c.args.item.now).1
