use Rattle.std.proofs.Common.{◌≡◌, ◌<◌, ℕ, pos, List, None, true, sym, ◌∙◌, subst}
use Rattle.std.specs.List.{AllByRecursion}
use Rattle.sd_work.specs.Memory.{Memory}
use Rattle.sd_work.specs.Change.{write, apply}
use Rattle.sd_work.specs.BigStep.{Reached}
use Rattle.sd_graph.specs.PlainTree.{TaskletTree}
use Rattle.sd_graph.specs.TreeFold.{graph_tree}
use Rattle.sd_graph.specs.Context.{Context}
use Rattle.sd_graph.specs.declared.link.Link.{Link}
use Rattle.sd_tcode.specs.tcode.Held.{given}
use Rattle.sd_scope.specs.scope.Standing.{context_of}
use Rattle.sd_leaves.specs.leaves.Done.{IsDone, instance_work}
use Rattle.sd_leaves.proofs.leaves_lemmas.Lists.{on_ok}
use Rattle.sd_scope.specs.even.Even.{is_scalar}
use Rattle.sd_row.specs.row.Row.{reference_on}
use Rattle.sd_row.specs.row.Point.{IsOver}
use Rattle.sd_row.specs.instance.Known.{IsSetUp, AreKnown, AreOutward}
use Rattle.sd_row.specs.instance.Scatter.{operand_on, IsScatter}
use Rattle.sd_row.proofs.instance_lemmas.Matched.{found_so, none_so, some_so, some_there, none_there}
use Rattle.sd_row.proofs.instance_lemmas.Scatters.{scattered, scattered_over}
use Rattle.sd_row.proofs.instance.scatter.run_directly.Goals as goal
use Rattle.sd_row.proofs.instance.scatter.run_directly.Goals.{in-Some+else-is_some, in_default}

pub returns-then-is_some-clause-done : goal.returns-then-is_some-clause-done
returns-then-is_some-clause-done c here tree ins scalars set known =
    let there = some_there c.scatter_at.result (sym c.is_some.ensures ∙ c.if-is_some.true) in
    let place : ℕ = there.0 in
    let scatter = c.in-Some.scatter in
    let old = c.args.machine.now in
    let new = c.scatter_at.new.machine in
    let is : IsScatter c.args.code.now c.args.accesses.now scatter = found_so _ c.args.scatter.now scatter c.in-Some.is c.requires.scatter in
    let below : place < scatter.count = found_so _ c.scatter_at.result place there.1 c.scatter_at.ensures.below in
    let placed : operand_on c.args.k old.memories scatter.index ≡ pos place = found_so _ c.scatter_at.result place there.1 c.scatter_at.ensures.place in
    let written : new.memories ≡ apply (write (reference_on scatter.to place) scatter.by (operand_on c.args.k old.memories scatter.value)) old.memories =
    some_so _ _ c.scatter_at.result place there.1 c.scatter_at.ensures.memories in
    let standing = context_of (graph_tree c.args.graph.now) c.args.base.now c.args.scope.now in
    scattered c.args.code.now c.args.accesses.now scatter is c.args.frame.now c.requires.ready c.args.k old new place below placed written c.scatter_at.ensures.turns
    tree ins c.args.outs.now here standing scalars set known

pub returns-then-is_some-clause-own : goal.returns-then-is_some-clause-own
returns-then-is_some-clause-own c here tree ins own scalars set known outward none over =
    let there = some_there c.scatter_at.result (sym c.is_some.ensures ∙ c.if-is_some.true) in
    let place : ℕ = there.0 in
    let scatter = c.in-Some.scatter in
    let old = c.args.machine.now in
    let new = c.scatter_at.new.machine in
    let is : IsScatter c.args.code.now c.args.accesses.now scatter = found_so _ c.args.scatter.now scatter c.in-Some.is c.requires.scatter in
    let below : place < scatter.count = found_so _ c.scatter_at.result place there.1 c.scatter_at.ensures.below in
    let placed : operand_on c.args.k old.memories scatter.index ≡ pos place = found_so _ c.scatter_at.result place there.1 c.scatter_at.ensures.place in
    let written : new.memories ≡ apply (write (reference_on scatter.to place) scatter.by (operand_on c.args.k old.memories scatter.value)) old.memories =
    some_so _ _ c.scatter_at.result place there.1 c.scatter_at.ensures.memories in
    let standing = context_of (graph_tree c.args.graph.now) c.args.base.now c.args.scope.now in
    scattered_over c.args.code.now c.args.accesses.now scatter is c.args.frame.now c.requires.ready c.args.k old new place below placed written c.scatter_at.ensures.turns
    tree ins c.args.outs.now here standing scalars set known own outward over

pub returns-clause-done : goal.returns-clause-done
returns-clause-done c =
    let same : c.match-scatter.machine ≡ c.args.machine.now = elim c.match-scatter.branch [
      | in-Some+else-is_some w ↦ w.machine-is ∙ none_so _ _ w.scatter_at.result (none_there w.scatter_at.result (sym w.is_some.ensures ∙ w.if-is_some.false)) w.scatter_at.ensures.memories
      | in_default w ↦ w.machine-is
    ] in
    let standing = context_of (graph_tree c.args.graph.now) c.args.base.now c.args.scope.now in
    let code = c.args.code.now in
    let accesses = c.args.accesses.now in
    let outs = c.args.outs.now in
    let old = given c.args.frame.now in
    let after = c.run_instance.new.machine in
    on_ok (λ fault. (here : Context) (tree : TaskletTree) (ins : List Link) → IsSetUp tree ins outs code old here → AreKnown tree ins outs c.args.k here standing accesses → IsDone (instance_work here tree ins outs) c.match-scatter.machine fault after)
    (λ fault. (here : Context) (tree : TaskletTree) (ins : List Link) → AllByRecursion (λ link. is_scalar link.memlet.subset.dims ≡ true) ins → IsSetUp tree ins outs code old here → AreKnown tree ins outs c.args.k here standing accesses →
    IsDone (instance_work here tree ins outs) c.args.machine.now fault after) c.run_instance.result
    (λ fault done here tree ins scalars set known. subst (λ (before : Reached). IsDone (instance_work here tree ins outs) before fault after) same (done here tree ins set known)) c.run_instance.ensures.done

pub returns-clause-own : goal.returns-clause-own
returns-clause-own c =
    let same : c.match-scatter.machine ≡ c.args.machine.now = elim c.match-scatter.branch [
      | in-Some+else-is_some w ↦ w.machine-is ∙ none_so _ _ w.scatter_at.result (none_there w.scatter_at.result (sym w.is_some.ensures ∙ w.if-is_some.false)) w.scatter_at.ensures.memories
      | in_default w ↦ w.machine-is
    ] in
    let standing = context_of (graph_tree c.args.graph.now) c.args.base.now c.args.scope.now in
    let code = c.args.code.now in
    let accesses = c.args.accesses.now in
    let outs = c.args.outs.now in
    let old = given c.args.frame.now in
    let after = c.run_instance.new.machine in
    on_ok (λ fault. (here : Context) (tree : TaskletTree) (ins : List Link) (own : Memory) → IsSetUp tree ins outs code old here → AreKnown tree ins outs c.args.k here standing accesses → AreOutward here outs → fault ≡ None → IsOver own c.match-scatter.machine → IsOver own after)
    (λ fault. (here : Context) (tree : TaskletTree) (ins : List Link) (own : Memory) → AllByRecursion (λ link. is_scalar link.memlet.subset.dims ≡ true) ins → IsSetUp tree ins outs code old here → AreKnown tree ins outs c.args.k here standing accesses → AreOutward here outs → fault ≡ None →
    IsOver own c.args.machine.now → IsOver own after) c.run_instance.result
    (λ fault stays here tree ins own scalars set known outward none over. stays here tree ins own set known outward none (subst (λ (now : Reached). IsOver own now) (sym same) over)) c.run_instance.ensures.own
