use Rattle.std.proofs.Common.{◌≡◌, ap, ◌∙◌, sym, map, string_bytes, subst, false, ℕ, List}
use Rattle.sd_graph.specs.declared.container.Container.{Container}
use Rattle.sd_graph.specs.PlainTree.{graph, GraphTree}
use Rattle.sd_graph.specs.TreeFold.{named_container, state_trees}
use Rattle.sd_graph.specs.TreeParts.{with_container, has_name, containers_of}
use Rattle.sd_graph.proofs.NameLemmas.{entries_grown}
use Rattle.sd_graph.proofs.TreeLemmas.{graph_rolled, graph_opened, graph_made}
use Rattle.sd_graph.specs.declared.graph.ItemKind.TheViews.{out-Sdfg}
use Rattle.sd_graph.proofs.graph.Sdfg.push_container.Goals as goal

pub returns-clause-ok : goal.returns-clause-ok
returns-clause-ok c =
    let before = out-Sdfg c.args.self.now in
    let made : List (List ℕ × Container) → GraphTree = λ containers. graph (string_bytes before.name) containers before.arguments (map string_bytes before.variables.items) before.symbols (state_trees before.states.items) in
    let new : has_name (containers_of (graph_made before)) (string_bytes c.args.name) ≡ false = subst (λ (tree : GraphTree). has_name (containers_of tree) (string_bytes c.args.name) ≡ false) (graph_opened c.args.self.now) c.requires in
    graph_rolled _ ∙ ap (λ entries. made (map named_container entries)) c.in_ok-insert.ensures.entries ∙ ap made (entries_grown before.containers.entries c.args.name c.args.container new) ∙ ap (λ tree. with_container tree (string_bytes c.args.name) c.args.container) (sym (graph_opened c.args.self.now))
