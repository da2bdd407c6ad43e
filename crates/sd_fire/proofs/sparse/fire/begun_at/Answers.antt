use Rattle.std.proofs.Common.{◌≡◌, List, Some, map, length, sym, ap, ◌∙◌, arith}
use Rattle.std.specs.declared.option.Option.{Option}
use Rattle.sd_graph.specs.TreeFold.{graph_tree, item_trees}
use Rattle.sd_scope.specs.scope.Standing.{context_of}
use Rattle.sd_left.specs.tree.Standing.{ItemLeft, parts_left}
use Rattle.sd_left.specs.declared.sparse.point.Begun.{Begun}
use Rattle.sd_left.specs.sparse.Point.{tasks_at}
use Rattle.sd_left.specs.sparse.Terms.{task_left}
use Rattle.sd_fire.proofs.sparse_lemmas.Begins.{fresh-same, told-some}
use Rattle.sd_fire.proofs.sparse.fire.begun_at.Goals as goal

pub returns-clause-parts : goal.returns-clause-parts
returns-clause-parts c =
    let items = c.args.items.now in
    let context = context_of (graph_tree c.args.graph.now) c.args.base.now c.args.scope.now in
    let begun = c.in_ok-tasks.tasks.items in
    let long : length items ≡ c.args.count = omega (arith, c.if-items-count.false) in
    ap (λ (parts : List ItemLeft). parts_left parts (item_trees items) context) (told-some begun)
    ∙ fresh-same items context c.args.count (map (λ instance. task_left (Some instance)) begun) c.in_ok-tasks.ensures.tasks long c.in_ok-tasks.ensures.begun
    ∙ ap (λ (was : Option Begun). parts_left (map task_left (tasks_at c.args.count was)) (item_trees items) context) (sym c.in_default.is)
