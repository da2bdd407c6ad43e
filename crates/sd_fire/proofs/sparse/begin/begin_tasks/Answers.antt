use Rattle.std.proofs.Common.{◌≡◌, ◌+◌, List, map, Some, drop, sym, ap, ◌∙◌, subst}
use Rattle.sd_graph.specs.TreeFold.{graph_tree, kind_tree, item_trees, tasklet_tree}
use Rattle.sd_graph.specs.Unfold.{task_of}
use Rattle.sd_graph.specs.declared.link.Link.{Link}
use Rattle.sd_graph.specs.declared.graph.ItemKind.TheViews.{out-Item}
use Rattle.sd_scope.specs.scope.Standing.{context_of}
use Rattle.sd_leaves.specs.leaves.Done.{evaluation_of}
use Rattle.sd_leaves.specs.moves.Left.{instance_left}
use Rattle.sd_leaves.specs.declared.moves.instance.Instance.{Instance}
use Rattle.sd_left.specs.sparse.Terms.{task_left}
use Rattle.sd_fire.specs.sparse.Tasklets.{are_tasks}
use Rattle.sd_fire.proofs.begin_lemmas.ItemKinds.{task_kind}
use Rattle.sd_fire.proofs.begin_lemmas.Parts.{AreBegunSoFar, items-more, items-all}
use Rattle.sd_fire.proofs.sparse_lemmas.Begins.{tasks-on, task-begun}
use Rattle.sd_fire.proofs.sparse.begin.begin_tasks.Goals as goal

pub loop-item-preserved : goal.loop-item-preserved
loop-item-preserved c =
    let context = context_of (graph_tree c.args.graph.now) c.args.base.now c.args.scope.now in
    let items = c.args.items.now in
    let index = c.loop-item.item-index in
    let item = c.item-item.result in
    let code = tasklet_tree c.in-Task.code in
    let outs = c.in-Task.outs.items in
    let one = c.in_ok-new.field-0 in
    let kind = ap kind_tree c.in-Task.is ∙ task_kind c.in-Task.code c.in-Task.ins c.in-Task.outs in
    let begun = subst (λ (ins : List Link). instance_left (evaluation_of context code ins outs) one ≡ task_of context code ins outs) c.deref.ensures.value (c.in_ok-new.ensures code outs) in
    record {
      tasks = tasks-on items index item code c.in-Task.ins.items outs (are_tasks (item_trees items)) c.loop-item-test.true c.item-item.is kind c.loop-item.invariant.tasks;
      begun = subst (λ (all : List Instance). AreBegunSoFar (item_trees items) context (map (λ instance. task_left (Some instance)) all) (item_trees (drop (index + 1) items))) (sym c.in_ok-push.ensures.items)
          (items-more (λ instance. task_left (Some instance)) context (item_trees items) c.loop-item.begun.items one items index item c.loop-item-test.true c.item-item.is
          (task-begun (kind_tree (out-Item item).kind) code c.in-Task.ins.items outs (out-Item item).line context one kind begun) c.loop-item.invariant.begun);
    }

pub returns-clause-begun : goal.returns-clause-begun
returns-clause-begun c =
    items-all (context_of (graph_tree c.args.graph.now) c.args.base.now c.args.scope.now) (item_trees c.args.items.now) (map (λ instance. task_left (Some instance)) c.loop-item.begun.items) c.args.items.now c.loop-item.item-index
    c.loop-item-test.false c.loop-item.invariant.begun
