use Rattle.std.proofs.Common.{◌≡◌, ℤ, List, [], ◌∷◌, map, rules, sym, ap, ◌∙◌, subst}
use Rattle.std.specs.List.{zip}
use Rattle.sd_work.specs.Leaf.{Pending}
use Rattle.sd_graph.specs.TreeFold.{graph_tree}
use Rattle.sd_graph.specs.Context.{reference_at}
use Rattle.sd_scope.specs.scope.Standing.{context_of}
use Rattle.sd_leaves.specs.leaves.Done.{IsDone, performing, copied, copied_at}
use Rattle.sd_leaves.proofs.leaves_lemmas.CellLists.{copied_is, transferred_at, no_pairs}
use Rattle.sd_leaves.proofs.leaves_lemmas.Doing.{IsLeft, none_done, next_done, next_fails, none_left}
use Rattle.sd_leaves.proofs.leaves.copy.transfer_all.Goals as goal

pub sources-init : goal.sources-init
sources-init c =
    let context = context_of (graph_tree c.args.graph.now) c.args.base.now c.args.scope.now in
    let from = c.args.from.now in
    let to = c.args.to.now in
    let now = c.args.machine.now in
    let all = copied context from to in
    let same : map (copied_at context from to) (zip c.in_ok-sources.sources.left c.in_ok-targets.targets.left) ≡ all =
    (λ i. map (copied_at context from to) (zip (c.in_ok-sources.ensures i) (c.in_ok-targets.ensures i))) ∙ sym (copied_is context from to) in
    subst (λ (left : List Pending). IsLeft all now left now) (sym same) (none_done all now now)

pub sources-preserved : goal.sources-preserved
sources-preserved c =
    let context = context_of (graph_tree c.args.graph.now) c.args.base.now c.args.scope.now in
    let from = c.args.from.now in
    let to = c.args.to.now in
    let source = c.next.new.self in
    let target = c.next-in-sources.new.self in
    let first : c.sources.sources.left ≡ source.at ∷ source.left = search rules in
    let second : c.sources.targets.left ≡ target.at ∷ target.left = search rules in
    let pair : List ℤ × List ℤ = (source.at, target.at) in
    let same = transferred_at context from to pair c.in_ok-source.source c.in_ok-target.target
    (c.in_ok-source.ensures ∙ ap (reference_at (context.reach from.memlet.container)) c.at.ensures) (c.in_ok-target.ensures ∙ ap (reference_at (context.reach to.memlet.container)) c.at-in-sources.ensures) in
    next_done (copied_at context from to) (copied context from to) c.args.machine.now c.sources.machine c.transfer.new.machine (zip c.sources.sources.left c.sources.targets.left) (zip source.left target.left) pair
    (λ i. zip (first i) (second i)) c.sources.invariant c.transfer.result
    (subst (λ (todo : Pending). IsDone (performing (todo ∷ [])) c.sources.machine c.transfer.result c.transfer.new.machine) same c.transfer.ensures) c.in-None.is

pub returns-in-Some : goal.returns-in-Some
returns-in-Some c =
    let context = context_of (graph_tree c.args.graph.now) c.args.base.now c.args.scope.now in
    let from = c.args.from.now in
    let to = c.args.to.now in
    let source = c.next.new.self in
    let target = c.next-in-sources.new.self in
    let first : c.sources.sources.left ≡ source.at ∷ source.left = search rules in
    let second : c.sources.targets.left ≡ target.at ∷ target.left = search rules in
    let pair : List ℤ × List ℤ = (source.at, target.at) in
    let same = transferred_at context from to pair c.in_ok-source.source c.in_ok-target.target
    (c.in_ok-source.ensures ∙ ap (reference_at (context.reach from.memlet.container)) c.at.ensures) (c.in_ok-target.ensures ∙ ap (reference_at (context.reach to.memlet.container)) c.at-in-sources.ensures) in
    next_fails (copied_at context from to) (copied context from to) c.args.machine.now c.sources.machine c.transfer.new.machine (zip c.sources.sources.left c.sources.targets.left) (zip source.left target.left) pair
    (λ i. zip (first i) (second i)) c.sources.invariant c.transfer.result
    (subst (λ (todo : Pending). IsDone (performing (todo ∷ [])) c.sources.machine c.transfer.result c.transfer.new.machine) same c.transfer.ensures) c.in-Some.kind c.in-Some.is

pub returns-then-not-next : goal.returns-then-not-next
returns-then-not-next c =
    let context = context_of (graph_tree c.args.graph.now) c.args.base.now c.args.scope.now in
    let none : c.sources.targets.left ≡ [] = search rules in
    none_left (copied_at context c.args.from.now c.args.to.now) (copied context c.args.from.now c.args.to.now) c.args.machine.now c.sources.machine (zip c.sources.sources.left c.sources.targets.left)
    (no_pairs c.sources.sources.left c.sources.targets.left none) c.sources.invariant

pub returns : goal.returns
returns c =
    let context = context_of (graph_tree c.args.graph.now) c.args.base.now c.args.scope.now in
    let none : c.sources.sources.left ≡ [] = search rules in
    none_left (copied_at context c.args.from.now c.args.to.now) (copied context c.args.from.now c.args.to.now) c.args.machine.now c.sources.machine (zip c.sources.sources.left c.sources.targets.left)
    (ap (λ (firsts : List (List ℤ)). zip firsts c.sources.targets.left) none) c.sources.invariant
