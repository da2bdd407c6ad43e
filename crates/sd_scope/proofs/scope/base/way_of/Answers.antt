use Rattle.std.proofs.Common.{rules, ◌≡◌, Some, true, length, slice_get, refl, sym, ◌∙◌}
use Rattle.std.proofs.lemmas.Option.{slice_get_read}
use Rattle.sd_graph.specs.TreeFold.{graph_tree}
use Rattle.sd_graph.specs.ContainerParts.{is_argument}
use Rattle.sd_scope.specs.scope.Standing.{context_of}
use Rattle.sd_scope.proofs.scope_lemmas.Ways.{argument_inside}
use Rattle.sd_scope.proofs.scope.base.way_of.Goals as goal

pub returns-in_ok-way-in-Some : goal.returns-in_ok-way-in-Some
returns-in_ok-way-in-Some c = λ inner same.
    let kind : is_argument c.args.container.now.kind ≡ true = search rules in
    let linked : slice_get c.args.links.now c.args.number ≡ Some c.in-Some.link.now =
    slice_get_read c.args.links.now (length c.args.links.now) c.args.number c.in-Some.link.now refl c.in-Some.ensures.lookup.3.0 c.in-Some.ensures.lookup.1
    in
    c.in_ok-way-in-Some.ensures inner c.args.number
    ∙ sym (argument_inside (context_of (graph_tree c.args.graph.now) c.args.base.now c.args.scope.now) c.args.links.now inner c.args.number c.args.container.now c.in-Some.link.now same kind linked)
