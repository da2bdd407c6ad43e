use Rattle.std.proofs.Common.{◌≡◌, ℤ, List, [], ◌∷◌, Option, Some, None, map, option_map, rules, sym, ap, ◌∙◌, subst, FitsSigned, to_z, of_z, w64}
use Rattle.std.proofs.lemmas.Int.{to_z-of_z}
use Rattle.sd_work.specs.Leaf.{Pending, identities, write_value}
use Rattle.sd_work.specs.Memory.{Reference}
use Rattle.sd_graph.specs.TreeFold.{graph_tree}
use Rattle.sd_graph.specs.Context.{link_elements, reference_at}
use Rattle.sd_mem.specs.machine.Stack.{reference_of}
use Rattle.sd_scope.specs.scope.Standing.{context_of}
use Rattle.sd_leaves.specs.leaves.Done.{IsDone, performing}
use Rattle.sd_leaves.proofs.leaves_lemmas.CellLists.{written_is}
use Rattle.sd_leaves.proofs.leaves_lemmas.Doing.{IsLeft, none_done, next_done, next_fails, none_left}
use Rattle.sd_leaves.proofs.leaves.reduction.write_all.Goals as goal

pub indices-init : goal.indices-init
indices-init c =
    let context = context_of (graph_tree c.args.graph.now) c.args.base.now c.args.scope.now in
    let value = to_z w64 (of_z w64 c.args.value) in
    let now = c.args.machine.now in
    let thing = λ (index : List ℤ). write_value value (reference_at (context.reach c.args.to.now.memlet.container) index) None in
    let all = identities (Some value) (link_elements context c.args.to.now) in
    let same : all ≡ map thing c.in_ok-indices.indices.left = written_is context c.args.to.now value ∙ ap (map thing) (sym c.in_ok-indices.ensures) in
    subst (λ (left : List Pending). IsLeft all now left now) same (none_done all now now)

pub indices-preserved : goal.indices-preserved
indices-preserved c =
    let context = context_of (graph_tree c.args.graph.now) c.args.base.now c.args.scope.now in
    let value = to_z w64 (of_z w64 c.args.value) in
    let reach = context.reach c.args.to.now.memlet.container in
    let thing = λ (index : List ℤ). write_value value (reference_at reach index) None in
    let index = c.next.new.self in
    let step : c.indices.indices.left ≡ index.at ∷ index.left = search rules in
    let same : write_value value (option_map reference_of c.in_ok-target.target) None ≡ thing index.at =
    ap (λ (target : Option Reference). write_value value target None) (c.in_ok-target.ensures ∙ ap (reference_at reach) c.at.ensures) in
    next_done thing (identities (Some value) (link_elements context c.args.to.now)) c.args.machine.now c.indices.machine c.write.new.machine c.indices.indices.left index.left index.at step c.indices.invariant c.write.result
    (subst (λ (todo : Pending). IsDone (performing (todo ∷ [])) c.indices.machine c.write.result c.write.new.machine) same c.write.ensures) c.in-None.is

pub returns-in-Some : goal.returns-in-Some
returns-in-Some c =
    let context = context_of (graph_tree c.args.graph.now) c.args.base.now c.args.scope.now in
    let fits : FitsSigned w64 c.args.value = search rules in
    let value = to_z w64 (of_z w64 c.args.value) in
    let reach = context.reach c.args.to.now.memlet.container in
    let thing = λ (index : List ℤ). write_value value (reference_at reach index) None in
    let index = c.next.new.self in
    let step : c.indices.indices.left ≡ index.at ∷ index.left = search rules in
    let same : write_value value (option_map reference_of c.in_ok-target.target) None ≡ thing index.at =
    ap (λ (target : Option Reference). write_value value target None) (c.in_ok-target.ensures ∙ ap (reference_at reach) c.at.ensures) in
    subst (λ (value : ℤ). IsDone (performing (identities (Some value) (link_elements context c.args.to.now))) c.args.machine.now (Some c.in-Some.kind) c.write.new.machine) (to_z-of_z w64 c.args.value fits)
    (next_fails thing (identities (Some value) (link_elements context c.args.to.now)) c.args.machine.now c.indices.machine c.write.new.machine c.indices.indices.left index.left index.at step c.indices.invariant c.write.result
    (subst (λ (todo : Pending). IsDone (performing (todo ∷ [])) c.indices.machine c.write.result c.write.new.machine) same c.write.ensures) c.in-Some.kind c.in-Some.is)

pub returns : goal.returns
returns c =
    let context = context_of (graph_tree c.args.graph.now) c.args.base.now c.args.scope.now in
    let fits : FitsSigned w64 c.args.value = search rules in
    let value = to_z w64 (of_z w64 c.args.value) in
    let none : c.indices.indices.left ≡ [] = search rules in
    subst (λ (value : ℤ). IsDone (performing (identities (Some value) (link_elements context c.args.to.now))) c.args.machine.now None c.indices.machine) (to_z-of_z w64 c.args.value fits)
    (none_left (λ index. write_value value (reference_at (context.reach c.args.to.now.memlet.container) index) None) (identities (Some value) (link_elements context c.args.to.now)) c.args.machine.now c.indices.machine
    c.indices.indices.left none c.indices.invariant)
