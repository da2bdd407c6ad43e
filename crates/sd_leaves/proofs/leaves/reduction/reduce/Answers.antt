use Rattle.std.proofs.Common.{Option, map, subst}
use Rattle.sd_range.specs.Subset.{whole}
use Rattle.sd_work.specs.declared.fault.FaultKind.{FaultKind}
use Rattle.sd_work.specs.Leaf.{identities}
use Rattle.sd_graph.specs.TreeFold.{graph_tree}
use Rattle.sd_graph.specs.Context.{link_elements, link_extents}
use Rattle.sd_scope.specs.scope.Standing.{context_of}
use Rattle.sd_leaves.specs.leaves.Done.{IsDone, performing, reducing, resolving}
use Rattle.sd_leaves.proofs.leaves_lemmas.Doing.{both_done, first_fails}
use Rattle.sd_leaves.proofs.leaves_lemmas.Lists.{on_ok}
use Rattle.sd_leaves.proofs.leaves.reduction.reduce.Goals as goal

pub returns-in-None : goal.returns-in-None
returns-in-None c =
    let context = context_of (graph_tree c.args.graph.now) c.args.base.now c.args.scope.now in
    let before = identities c.args.identity (link_elements context c.args.to.now) in
    let then = map (resolving context c.args.resolution c.args.axis c.args.from.now c.args.to.now) (whole (link_extents context c.args.from.now)) in
    let middle = c.write_identity.new.machine in
    let first = subst (λ (fault : Option FaultKind). IsDone (performing before) c.args.machine.now fault middle) c.in-None.is c.in_ok-write_identity.ensures in
    on_ok (λ fault. IsDone (performing then) middle fault c.resolve_all.new.machine)
    (λ fault. IsDone (performing (reducing context c.args.resolution c.args.axis c.args.identity c.args.from.now c.args.to.now)) c.args.machine.now fault c.resolve_all.new.machine)
    c.resolve_all.result (λ fault done. both_done before then c.args.machine.now middle fault c.resolve_all.new.machine first done) c.resolve_all.ensures

pub returns-in-Some : goal.returns-in-Some
returns-in-Some c =
    let context = context_of (graph_tree c.args.graph.now) c.args.base.now c.args.scope.now in
    let before = identities c.args.identity (link_elements context c.args.to.now) in
    let then = map (resolving context c.args.resolution c.args.axis c.args.from.now c.args.to.now) (whole (link_extents context c.args.from.now)) in
    let middle = c.write_identity.new.machine in
    first_fails before then c.args.machine.now middle c.in-Some.kind
    (subst (λ (fault : Option FaultKind). IsDone (performing before) c.args.machine.now fault middle) c.in-Some.is c.in_ok-write_identity.ensures)
