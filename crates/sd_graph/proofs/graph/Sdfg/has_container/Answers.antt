use Rattle.std.proofs.Common.{ap, ◌∙◌, sym}
use Rattle.sd_graph.specs.TreeParts.{has_name, containers_of}
use Rattle.sd_graph.proofs.NameLemmas.{name_found}
use Rattle.sd_graph.proofs.TreeLemmas.{graph_opened}
use Rattle.sd_graph.specs.declared.graph.ItemKind.TheViews.{out-Sdfg}
use Rattle.sd_graph.proofs.graph.Sdfg.has_container.Goals as goal

pub returns : goal.returns
returns c =
    c.contains_key.ensures ∙ name_found (out-Sdfg c.args.self.now).containers.entries c.args.name.now ∙ ap (λ tree. has_name (containers_of tree) c.args.name.now) (sym (graph_opened c.args.self.now))
