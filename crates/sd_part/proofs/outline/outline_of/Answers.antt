use Rattle.std.proofs.Common.{◌≡◌, rules, map, ap, sym, ◌∙◌}
use Rattle.sd_graph.specs.TreeFold.{graph_tree, item_tree, named_container, PlainItem}
use Rattle.sd_graph.specs.PlainTree.{GraphTree}
use Rattle.sd_wire.proofs.wiring_lemmas.ItemLists.{item_opened}
use Rattle.sd_prop.specs.propagation.Scopes.{all_scopes}
use Rattle.sd_part.specs.Outline.{cut_params, enclosed, graph_of, first_accesses}
use Rattle.sd_part.proofs.Enclosed.{is-outline}
use Rattle.sd_part.proofs.outline.outline_of.Goals as goal

pub returns : goal.returns
returns c =
    let containers = map named_container c.args.containers.now.entries in
    let params : c.in_ok-params.params ≡ cut_params (item_tree c.args.item.now).1 = c.in_ok-params.ensures ∙ sym (ap (λ (t : PlainItem). cut_params t.1) (item_opened c.args.item.now)) in
    let tree : graph_tree c.in_ok-graph.graph ≡ graph_of containers (enclosed (item_tree c.args.item.now)) = c.in_ok-graph.ensures ∙ ap (graph_of containers) c.in_ok-enclosed.ensures in
    let accesses : c.in_ok-accesses.accesses ≡ first_accesses (all_scopes (graph_tree c.in_ok-graph.graph)) = search rules in
    is-outline containers (item_tree c.args.item.now).0 (item_tree c.args.item.now).1 record { params = c.in_ok-params.params; accesses = c.in_ok-accesses.accesses }
    params (accesses ∙ ap (λ (g : GraphTree). first_accesses (all_scopes g)) tree)
