use Rattle.std.proofs.Common.{◌≡◌, ◌∷◌, List, Some, map, slice_set, refl, sym, ap, subst, arith}
use Rattle.sd_work.specs.Residual.{list, Items, leaf}
use Rattle.sd_work.specs.Moves.{Path}
use Rattle.sd_graph.specs.Context.{place_at}
use Rattle.sd_graph.specs.TreeFold.{graph_tree, kind_tree, item_trees}
use Rattle.sd_graph.specs.declared.graph.ItemKind.TheViews.{out-Item}
use Rattle.sd_mem.specs.declared.machine.end.End.TheVariants.{Finished}
use Rattle.sd_scope.specs.scope.Standing.{context_of}
use Rattle.sd_leaves.specs.moves.Left.{instance_left}
use Rattle.sd_left.specs.tree.Standing.{ItemLeft, parts_left}
use Rattle.sd_left.specs.tree.Evaluated.{evaluation_in}
use Rattle.sd_left.specs.fired.Fired.{IsFired}
use Rattle.sd_left.specs.sparse.Terms.{task_left}
use Rattle.sd_left.proofs.fired_lemmas.Comes.{leaf-fired}
use Rattle.sd_left.proofs.fired_lemmas.Kept.{kept-no-item}
use Rattle.sd_fire.proofs.fire_lemmas.Items.{retold, parts_fired}
use Rattle.sd_fire.proofs.sparse_lemmas.Begins.{told-some}
use Rattle.sd_fire.proofs.sparse.fire.fire_task.Goals as goal

pub returns-then-number-len : goal.returns-then-number-len
returns-then-number-len c = λ order.
    let items = item_trees c.args.items.now in
    let context = context_of (graph_tree c.args.graph.now) c.args.base.now c.args.scope.now in
    let tasks = c.args.tasks.now.items in
    let work = list Items order (parts_left (map task_left (map Some tasks)) items context) in
    let same : work ≡ list Items order (parts_left (map (λ instance. task_left (Some instance)) tasks) items context) = ap (λ (parts : List ItemLeft). list Items order (parts_left parts items context)) (told-some tasks) in
    subst (λ (path : Path). IsFired work path c.args.machine.now Finished c.args.machine.now work) (sym c.in-Some.ensures.cases.0)
    (retold (c.in-Some.number.now ∷ c.in-Some.field-0-1.now) c.args.machine.now c.args.machine.now Finished same same
    (kept-no-item (λ instance. task_left (Some instance)) order tasks c.in-Some.number.now items context c.in-Some.field-0-1.now c.args.machine.now (omega (arith, c.if-number-len.true, c.len.ensures, c.args.tasks.now.ok.0))))

pub returns : goal.returns
returns c = λ order.
    let items = c.args.items.now in
    let context = context_of (graph_tree c.args.graph.now) c.args.base.now c.args.scope.now in
    let tasks = c.args.tasks.now.items in
    let number = c.in-Some.number.now in
    let inner = c.in-Some.field-0-1.now in
    let item = c.index-items-number.result in
    let kind = kind_tree (out-Item item).kind in
    let place = place_at context (out-Item item).line in
    let evaluation = evaluation_in kind context in
    let old = c.index_mut-task.result.now in
    let moved = c.fire_instance.new.instance in
    let new = c.let_go.new.instance in
    let fired = leaf-fired place (instance_left evaluation old) (instance_left evaluation moved) inner c.args.machine.now c.fire_instance.new.machine c.in_ok-end.end c.in_ok-end.ensures in
    let kept = retold inner c.args.machine.now c.fire_instance.new.machine c.in_ok-end.end refl (ap (leaf place) (c.let_go.ensures evaluation)) fired in
    subst (λ (path : Path). IsFired (list Items order (parts_left (map task_left (map Some tasks)) (item_trees items) context)) path c.args.machine.now c.in_ok-end.end c.fire_instance.new.machine
    (list Items order (parts_left (map task_left (map Some (slice_set tasks number new))) (item_trees items) context))) (sym c.in-Some.ensures.cases.0)
    (retold (number ∷ inner) c.args.machine.now c.fire_instance.new.machine c.in_ok-end.end
    (ap (λ (parts : List ItemLeft). list Items order (parts_left parts (item_trees items) context)) (told-some tasks))
    (ap (λ (parts : List ItemLeft). list Items order (parts_left parts (item_trees items) context)) (told-some (slice_set tasks number new)))
    (parts_fired (λ instance. task_left (Some instance)) order tasks number old new items item context inner c.args.machine.now c.fire_instance.new.machine c.in_ok-end.end
    (omega (arith, c.if-number-items.false)) c.index-items-number.is (omega (arith, c.if-number-len.false, c.len.ensures, c.args.tasks.now.ok.0)) c.index_mut-task.ensures.value kept))
