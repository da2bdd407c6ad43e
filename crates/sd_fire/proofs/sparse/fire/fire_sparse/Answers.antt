use Rattle.std.proofs.Common.{◌≡◌, ◌∷◌, ◌<◌, ℕ, List, [], Some, None, length, map, get_or, slice_set, refl, sym, ap, ◌∙◌, subst, arith}
use Rattle.std.specs.declared.option.Option.{Option}
use Rattle.sd_range.specs.declared.range.Range.{Range}
use Rattle.sd_range.specs.Points.{points, ranges_of}
use Rattle.sd_work.specs.Residual.{list, Points}
use Rattle.sd_work.specs.Moves.{Path}
use Rattle.sd_graph.specs.PlainTree.{map_scope}
use Rattle.sd_graph.specs.TreeFold.{graph_tree, kind_tree, item_trees}
use Rattle.sd_graph.specs.Unfold.{at_point}
use Rattle.sd_graph.specs.declared.graph.Item.{Item}
use Rattle.sd_mem.specs.declared.machine.end.End.TheVariants.{Finished}
use Rattle.sd_scope.specs.scope.Standing.{context_of, IsInside}
use Rattle.sd_left.specs.tree.Standing.{parts_left, points_left}
use Rattle.sd_left.specs.declared.sparse.point.Begun.{Begun}
use Rattle.sd_left.specs.fired.Fired.{IsFired}
use Rattle.sd_left.specs.sparse.Point.{tasks_at}
use Rattle.sd_left.specs.sparse.Stretch.{points_in}
use Rattle.sd_left.specs.sparse.Terms.{task_left, point_numbers, body_at, placed_from, bodies_at}
use Rattle.sd_left.proofs.fired_lemmas.Kept.{kept-no-point}
use Rattle.sd_left.proofs.sparse_lemmas.Placed.{placed-long}
use Rattle.sd_left.proofs.sparse_lemmas.Stretches.{points-true}
use Rattle.sd_fire.specs.advance.Right.{AreSparseFired}
use Rattle.sd_fire.specs.sparse.Point.{IsPointFired}
use Rattle.sd_fire.proofs.fire_lemmas.PlainKinds.{map_here}
use Rattle.sd_fire.proofs.sparse_lemmas.Fires.{sparse-fired, member-default, set-twice}
use Rattle.sd_fire.proofs.sparse.fire.fire_sparse.Goals as goal

pub returns-then-number-count_points : goal.returns-then-number-count_points
returns-then-number-count_points c = λ told summed.
    let tasks = c.args.tasks.now in
    let kind = kind_tree c.args.kind.now in
    let context = context_of (graph_tree c.args.graph.now) c.args.base.now c.args.scope.now in
    let all = points_in c.args.points.now in
    subst (λ (path : Path). AreSparseFired tasks c.args.points.now kind context path c.args.machine.now Finished c.args.machine.now c.args.points.now) (sym c.in-Some.ensures.cases.0)
    (record {
      fired = λ order. kept-no-point (body_at tasks kind context) order (placed_from 0 all) c.in-Some.number.now kind context c.in-Some.inner.now c.args.machine.now
          (omega (arith, c.if-number-count_points.true, c.count_points.ensures tasks, points-true tasks c.args.points.now summed, placed-long 0 all));
      summed = summed;
    })

pub returns : goal.returns
returns c = λ told summed.
    let tasks = c.args.tasks.now in
    let kind = kind_tree c.args.kind.now in
    let tree = graph_tree c.args.graph.now in
    let context = context_of tree c.args.base.now c.args.scope.now in
    let inner = context_of tree c.args.base.now c.at_point.new.self in
    let number = c.in-Some.number.now in
    let all = points_in c.args.points.now in
    let params = c.in-Map.params.items in
    let private = c.in-Map.private.items in
    let items = c.in-Map.body.items in
    let was = c.in_ok-was.was' in
    let begun = c.in_ok-begun.begun in
    let new = c.fire_point.new.begun in
    let end = c.in_ok-end.end in
    let same : points_in c.open_at.new.stretch ≡ all = c.in_ok-open_at.ensures.points in
    let first = c.in_ok-open_at.ensures.summed told summed in
    let second = c.in_ok-was.ensures.summed first in
    let there : number < length all = omega (arith, c.if-number-count_points.false, c.count_points.ensures tasks, points-true tasks c.args.points.now summed) in
    let is : was ≡ get_or all number was = member-default all number was None there (c.in_ok-was.ensures.was first ∙ ap (λ (ps : List (Option Begun)). get_or ps number None) same) in
    let now : points_in c.swap-2.new.stretch ≡ slice_set all number (Some new) =
    c.in_ok-swap.ensures.points second ∙ ap (λ (ps : List (Option Begun)). slice_set ps number (Some new)) (c.in_ok-was.ensures.points first ∙ ap (λ (ps : List (Option Begun)). slice_set ps number None) same)
    ∙ set-twice all number None (Some new) in
    let is_kind : kind ≡ map_scope c.in-Map.sequential params private (item_trees items) =
    map_here c.args.kind.now c.in-Map.params c.in-Map.private c.in-Map.body c.in-Map.sequential params private items c.in-Map.is refl refl refl in
    let numbers : c.in_ok-at.at.items ≡ point_numbers kind context number =
    c.in_ok-at.ensures ∙ ap (λ (ps : List (ℕ × Range)). get_or (points (ranges_of ps) c.args.scope.now.values.values) number []) c.deref.ensures.value
    ∙ sym (ap (λ (k : _). point_numbers k context number) is_kind) in
    let stands : inner ≡ at_point context params private c.in_ok-at.at.items =
    c.in_ok-at_point.ensures.context tree c.args.base.now private (subst (λ (own : List ℕ). IsInside own c.args.scope.now c.in_ok-inside.inside) c.deref-2.ensures.value c.in_ok-inside.ensures)
    ∙ ap (λ (ps : List (ℕ × Range)). at_point context ps private c.as_slice.result.now) c.deref-3.ensures.value ∙ ap (at_point context params private) c.as_slice.ensures.value in
    let parts = subst (λ (these : List Item). parts_left (map task_left (map Some begun.tasks.items)) (item_trees these) inner ≡ parts_left (map task_left (tasks_at tasks.count was)) (item_trees these) inner) c.deref-4.ensures.value c.in_ok-begun.ensures.parts in
    let fired = subst (λ (these : List Item). IsPointFired begun private (item_trees these) tree inner c.in-Some.inner.now c.args.machine.now c.fire_point.new.machine new end) c.deref-5.ensures.value
    (subst (λ (own : List ℕ). IsPointFired begun own (item_trees c.deref-5.result.now) tree inner c.in-Some.inner.now c.args.machine.now c.fire_point.new.machine new end) c.deref-6.ensures.value c.in_ok-end.ensures) in
    subst (λ (path : Path). AreSparseFired tasks c.args.points.now kind context path c.args.machine.now end c.fire_point.new.machine c.swap-2.new.stretch) (sym c.in-Some.ensures.cases.0)
    (record {
      fired = λ order. subst (λ (ps : List (Option Begun)). IsFired (list Points order (points_left (bodies_at tasks all kind context) kind context)) (number ∷ c.in-Some.inner.now) c.args.machine.now end c.fire_point.new.machine
          (list Points order (points_left (bodies_at tasks ps kind context) kind context))) (sym now)
          (sparse-fired tasks all number was begun new there is c.in-Map.sequential params private (item_trees items) tree context inner c.in_ok-at.at.items c.in-Some.inner.now c.args.machine.now c.fire_point.new.machine end
          kind is_kind refl numbers stands (c.in_ok-begun.ensures.own kind context) parts fired order);
      summed = c.in_ok-swap.ensures.summed second;
    })
