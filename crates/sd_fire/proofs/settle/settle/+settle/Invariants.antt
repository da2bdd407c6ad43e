use Rattle.std.proofs.Common.{◌≡◌, ◌+◌, ◌-◌, ◌*◌, ◌^◌, length, true}
use Rattle.sd_left.specs.left.Tells.{bodies_tell, body_tells}
use Rattle.sd_fire.proofs.settle_lemmas.Points.{PointsSoFar, all_bodies}
use Rattle.sd_fire.proofs.settle_lemmas.Elements.{ElementsSoFar}
use Rattle.sd_fire.proofs.settle_lemmas.Items.{ItemsSoFar, all_parts}
use Rattle.sd_fire.proofs.settle.settle.+settle.Given as goal

abbrev pub decreases-settle_body : goal.decreases-settle_body
decreases-settle_body l = 10 * (2 ^ 64 - l.depth)

abbrev pub decreases-settle_items : goal.decreases-settle_items
decreases-settle_items l = 10 * (2 ^ 64 - l.depth) + 9

abbrev pub decreases-settle_part : goal.decreases-settle_part
decreases-settle_part l = 10 * (2 ^ 64 - l.depth) + 8

abbrev pub decreases-settle_left : goal.decreases-settle_left
decreases-settle_left l = 10 * (2 ^ 64 - l.depth) + 7

abbrev pub decreases-settle_pool : goal.decreases-settle_pool
decreases-settle_pool l = 10 * (2 ^ 64 - l.depth) + 6

abbrev pub decreases-settle_elements : goal.decreases-settle_elements
decreases-settle_elements l = 10 * (2 ^ 64 - l.depth) + 5

abbrev pub decreases-settle_points : goal.decreases-settle_points
decreases-settle_points l = 10 * (2 ^ 64 - l.depth) + 4

abbrev pub decreases-settle_one : goal.decreases-settle_one
decreases-settle_one l = 10 * (2 ^ 64 - l.depth) + 3

abbrev pub decreases-settle_nested : goal.decreases-settle_nested
decreases-settle_nested l = 10 * (2 ^ 64 - l.depth) + 2

abbrev pub decreases-settle_inside : goal.decreases-settle_inside
decreases-settle_inside l = 10 * (2 ^ 64 - l.depth) + 1

abbrev pub invariant-settle_elements-loop : goal.invariant-settle_elements-loop
invariant-settle_elements-loop l = record {
  machine : l.machine ≡ l.fn.machine;
  end : l.end ≡ length (all_bodies l.fn.active);
  so_far : (bodies_tell l.fn.active).is_right ≡ true → ElementsSoFar l.may_go l.clear l.fn.machine.memories l.fn.active l.active l.counter l.unit;
}

abbrev pub invariant-settle_items-loop : goal.invariant-settle_items-loop
invariant-settle_items-loop l = record {
  machine : l.machine ≡ l.fn.machine;
  end : l.end ≡ length (all_parts l.fn.body);
  so_far : (body_tells l.fn.body).is_right ≡ true → ItemsSoFar l.may_go l.clear l.fn.machine.memories l.fn.body l.body l.counter l.unit;
}

abbrev pub invariant-settle_points-loop : goal.invariant-settle_points-loop
invariant-settle_points-loop l = record {
  machine : l.machine ≡ l.fn.machine;
  end : l.end ≡ length (all_bodies l.fn.points);
  so_far : (bodies_tell l.fn.points).is_right ≡ true → PointsSoFar l.sequential l.may_go l.clear l.fn.machine.memories l.fn.points l.points l.counter l.unit;
}
