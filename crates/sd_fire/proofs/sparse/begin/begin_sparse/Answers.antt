use Rattle.std.proofs.Common.{◌≡◌, ℕ, None, replicate, sym, ap, ◌∙◌, subst}
use Rattle.sd_range.specs.Points.{points, ranges_of}
use Rattle.sd_graph.specs.PlainTree.{map_scope}
use Rattle.sd_graph.specs.TreeFold.{graph_tree, item_trees}
use Rattle.sd_graph.specs.ContainerParts.{Containers}
use Rattle.sd_graph.specs.Wiring.{before}
use Rattle.sd_scope.specs.scope.Standing.{context_of}
use Rattle.sd_order.specs.table.Told.{told}
use Rattle.sd_left.specs.tree.Begun.{ArePointsBegun}
use Rattle.sd_left.specs.declared.left.left.Left as shape
use Rattle.sd_left.specs.declared.sparse.stretch.Stretch.{Fresh}
use Rattle.sd_left.specs.sparse.Terms.{bodies_at}
use Rattle.sd_left.proofs.left_lemmas.Rolls.{sparse_is}
use Rattle.sd_fire.proofs.begin_lemmas.Bodies.{containers_in}
use Rattle.sd_fire.proofs.begin_lemmas.Rolled.{map-begins}
use Rattle.sd_fire.proofs.sparse_lemmas.Begins.{points-begun}
use Rattle.sd_fire.proofs.sparse.begin.begin_sparse.Goals as goal

pub returns-clause-begun : goal.returns-clause-begun
returns-clause-begun c = λ base scope params private line count.
    let items = c.args.body.now in
    let tasks = c.of.result in
    let context = context_of (graph_tree c.args.graph.now) base scope in
    let all = points (ranges_of params) scope.values.values in
    let kind = map_scope c.args.sequential params private (item_trees items) in
    let ordered : told tasks.order ≡ before context.containers (item_trees items) =
    ap told c.of.ensures.order ∙ c.in_ok-order.ensures ∙ ap (λ (containers : Containers). before containers (item_trees items)) (containers_in c.args.graph.now) in
    map-begins context line c.args.sequential params private (item_trees items) (bodies_at tasks (replicate c.args.count None) kind context) (shape.Sparse c.args.sequential tasks (Fresh c.args.count))
    (sparse_is kind line context c.args.sequential tasks (Fresh c.args.count))
    (subst (λ (n : ℕ). ArePointsBegun params private (item_trees items) context all (bodies_at tasks (replicate n None) kind context)) (sym count)
    (points-begun c.args.sequential params private items context tasks c.requires.tasks c.of.ensures.count ordered))
