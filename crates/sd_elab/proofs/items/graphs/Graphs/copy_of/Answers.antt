use Rattle.std.proofs.Common.{◌≡◌, ◌∙◌, ap, sym, subst, rules, Some, IfOk, length, option_map, unwrap_or}
use Rattle.sd_program.specs.Names.{in_force}
use Rattle.sd_graph.specs.TreeFold.{graph_tree}
use Rattle.sd_elab.specs.items.Graphs.{graph_named, no_graph}
use Rattle.sd_elab.specs.items.GraphsByNumber.{graph_at, graphs_of}
use Rattle.sd_elab.proofs.items_lemmas.GraphsLemmas.{named_found, found_below, graph_found}
use Rattle.sd_elab.proofs.items.graphs.Graphs.copy_of.Goals as goal

pub returns-in-Some : goal.returns-in-Some
returns-in-Some c =
    let graphs = c.self.inside.graphs.items in
    let name = c.args.name.now in
    let found : in_force c.self.inside.numbers name ≡ Some c.in-Some.number = search rules in
    let below = found_below (length graphs) c.self.inside.numbers name c.in-Some.number c.self.invariant found in
    let same : graph_named (graphs_of c.args.self.now) name ≡ graph_tree c.index.result.now =
    ap (λ known. graph_named (graphs_of known) name) (sym c.self.view_is) ∙ named_found graphs c.self.inside.numbers name
    ∙ ap (λ found. unwrap_or (option_map (graph_at graphs) found) no_graph) found ∙ graph_found graphs c.in-Some.number c.index.result.now below (sym c.index.ensures) in
    subst (λ tree. IfOk c.copy_of.result (λ graph. graph_tree graph ≡ tree)) (sym same) c.copy_of.ensures
