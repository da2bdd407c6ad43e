use Rattle.std.proofs.Common.{◌<◌, length, sym, ap, ◌∙◌, subst, rules}
use Rattle.std.proofs.lemmas.List.{length-map}
use Rattle.sd_graph.specs.TreeFold.{named_container}
use Rattle.sd_graph.specs.declared.graph.ItemKind.TheViews.{out-Sdfg}
use Rattle.sd_row.proofs.instance_lemmas.Bodies.{containers_in}
use Rattle.sd_rows.proofs.consume.setup.is_there.Goals as goal

pub returns : goal.returns
returns c is =
    let entries = (out-Sdfg c.args.graph.now).containers.entries in
    let within : c.args.container < length entries = search rules in
    subst (λ many. c.args.container < many) (sym (length-map entries named_container) ∙ ap length (containers_in c.args.graph.now)) within
