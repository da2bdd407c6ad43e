use Rattle.std.proofs.Common.{◌≡◌, map, drop, length, true}
use Rattle.sd_range.specs.Points.{points, ranges_of}
use Rattle.sd_graph.specs.TreeFold.{graph_tree, item_trees}
use Rattle.sd_scope.specs.scope.Standing.{context_of, IsInside}
use Rattle.sd_left.specs.left.Kept.{left_of, body_kept}
use Rattle.sd_left.specs.left.Telling.{all_right}
use Rattle.sd_left.specs.left.Tells.{tells, body_tells}
use Rattle.sd_left.specs.left.Waits.{is_counted, is_body_counted, all_hold}
use Rattle.sd_fire.proofs.begin_lemmas.Parts.{AreBegunSoFar, ArePointsBegunSoFar}
use Rattle.sd_fire.proofs.begin.begin.+begin.Given as goal

abbrev pub invariant-begin_items-loop-item : goal.invariant-begin_items-loop-item
invariant-begin_items-loop-item l = record {
  begun : AreBegunSoFar (item_trees l.items) (context_of (graph_tree l.graph) l.base l.scope) (map left_of l.parts.items) (item_trees (drop l.item-index l.items));
  counted : all_hold (map is_counted l.parts.items) l.initial.machine.memories ≡ true;
  right : all_right (map tells l.parts.items) ≡ true;
  stays : l.machine ≡ l.initial.machine;
}

abbrev pub invariant-begin_points-walk : goal.invariant-begin_points-walk
invariant-begin_points-walk l = record {
  begun : ArePointsBegunSoFar l.params l.private (item_trees l.body) (context_of (graph_tree l.graph) l.base l.scope) (points (ranges_of l.params) l.scope.values.values) (map body_kept l.bodies.items) l.points.left;
  counted : all_hold (map is_body_counted l.bodies.items) l.fn.machine.memories ≡ true;
  right : all_right (map body_tells l.bodies.items) ≡ true;
  inside : IsInside l.private l.scope l.point_scope;
  stays : l.machine ≡ l.fn.machine;
}

abbrev pub decreases-begin_points-walk : goal.decreases-begin_points-walk
decreases-begin_points-walk l = length l.points.left
