use Rattle.std.proofs.Common.{◌≡◌, ℤ, Option, Some, None, IfOk, sym, ap, ◌∙◌, subst, rules, FitsSigned, to_z, of_z, w64}
use Rattle.std.proofs.lemmas.Int.{to_z-of_z}
use Rattle.sd_work.specs.Leaf.{identities}
use Rattle.sd_graph.specs.TreeFold.{graph_tree}
use Rattle.sd_graph.specs.Context.{link_elements}
use Rattle.sd_scope.specs.scope.Standing.{context_of}
use Rattle.sd_leaves.specs.leaves.Done.{IsDone, performing}
use Rattle.sd_leaves.proofs.leaves_lemmas.Doing.{nothing_to_do}
use Rattle.sd_leaves.proofs.leaves.reduction.write_identity.Goals as goal

pub returns-in_default : goal.returns-in_default
returns-in_default c =
    let elements = link_elements (context_of (graph_tree c.args.graph.now) c.args.base.now c.args.scope.now) c.args.to.now in
    subst (λ (identity : Option ℤ). IsDone (performing (identities identity elements)) c.args.machine.now None c.args.machine.now) (sym c.in_default.is) (nothing_to_do c.args.machine.now)

pub returns : goal.returns
returns c =
    let elements = link_elements (context_of (graph_tree c.args.graph.now) c.args.base.now c.args.scope.now) c.args.to.now in
    let value = c.in-Some.value in
    let fits : FitsSigned w64 value = search rules in
    let same : Some (to_z w64 (of_z w64 value)) ≡ c.args.identity = ap Some (to_z-of_z w64 value fits) ∙ sym c.in-Some.is in
    subst (λ (identity : Option ℤ). IfOk c.write_all.result (λ fault. IsDone (performing (identities identity elements)) c.args.machine.now fault c.write_all.new.machine)) same c.write_all.ensures
