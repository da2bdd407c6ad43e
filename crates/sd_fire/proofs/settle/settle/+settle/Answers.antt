use Rattle.std.proofs.Common.{◌≡◌, ◌≤◌, ◌<◌, ◌+◌, length, slice_set, ap, ◌∙◌, refl, rules, arith}
use Rattle.std.specs.Vec.{with_item}
use Rattle.std.proofs.lemmas.Result.{on_ok_weaker, IfOk-weaker}
use Rattle.sd_left.specs.declared.left.left.Left.{Left as LeftNow}
use Rattle.sd_left.specs.declared.left.left.Bodies.{Bodies as BodiesNow}
use Rattle.sd_left.specs.declared.left.left.Body.{Body as BodyNow}
use Rattle.sd_left.specs.declared.left.left.Run.{Run as RunNow}
use Rattle.sd_left.specs.declared.left.left.Left.TheOpen.{Bodies-F, Body-F}
use Rattle.sd_left.specs.declared.left.left.Left.TheViews.{out-Bodies, out-Body, roll-Bodies, roll-Body, out-roll-Bodies, out-roll-Body}
use Rattle.sd_left.specs.left.Changed.{HasBody, HasPart}
use Rattle.sd_fire.proofs.settle_lemmas.Points.{points-begin, points-turn, points-none, points-over, all_bodies}
use Rattle.sd_fire.proofs.settle_lemmas.Elements.{elements-begin, elements-turn, elements-none, elements-over}
use Rattle.sd_fire.proofs.settle_lemmas.Items.{items-begin, items-turn, items-none, items-over, all_parts}
use Rattle.sd_fire.proofs.settle_lemmas.Levels.{sparse_settled, pool_arm}
use Rattle.sd_fire.proofs.settle_lemmas.Recounted.{one-done, part-done}
use Rattle.sd_fire.proofs.settle.settle.+settle.Goals as goal

pub settle_elements-loop-init : goal.settle_elements-loop-init
settle_elements-loop-init t c = record {
  machine = refl;
  end = search rules;
  so_far = λ right. elements-begin c.args.may_go c.args.clear c.args.machine.now.memories c.args.active.now right;
}

pub settle_elements-loop-preserved : goal.settle_elements-loop-preserved
settle_elements-loop-preserved t c = record {
  machine = c.settle_one.ensures.stays ∙ c.loop.invariant.machine;
  end = c.loop.invariant.end;
  so_far = λ right.
      let so_far = c.loop.invariant.so_far right in
      let unit : c.in_ok-unit.unit ≡ c.loop.unit + c.in_ok-pools.pools = search rules in
      elements-turn c.args.may_go c.args.clear c.args.machine.now.memories c.args.active.now c.loop.active c.settle_one.new.bodies c.loop.counter (c.loop.counter + 1) c.loop.unit c.in_ok-unit.unit c.in_ok-pools.pools c.in-Some.found c.loop.machine.memories
      (omega arith) unit (ap (λ m. m.memories) c.loop.invariant.machine) so_far c.in-Some.ensures (c.in_ok-pools.ensures.settled so_far.right);
}

pub settle_elements-returns-clause-settled : goal.settle_elements-returns-clause-settled
settle_elements-returns-clause-settled t c = λ right.
    let over : length (all_bodies c.args.active.now) ≤ c.loop.counter = search rules in
    elements-over c.args.may_go c.args.clear c.args.machine.now.memories c.args.active.now c.loop.active c.loop.counter c.loop.unit (c.loop.invariant.so_far right) over

pub settle_elements-returns-in_default-clause-settled : goal.settle_elements-returns-in_default-clause-settled
settle_elements-returns-in_default-clause-settled t c = λ right.
    elements-none c.args.may_go c.args.clear c.args.machine.now.memories c.args.active.now c.loop.active c.loop.counter c.loop.unit (c.loop.invariant.so_far right) c.in_default.ensures

pub settle_points-loop-init : goal.settle_points-loop-init
settle_points-loop-init t c = record {
  machine = refl;
  end = search rules;
  so_far = λ right. points-begin c.args.sequential c.args.may_go c.args.clear c.args.machine.now.memories c.args.points.now right;
}

pub settle_points-loop-preserved : goal.settle_points-loop-preserved
settle_points-loop-preserved t c = record {
  machine = c.settle_one.ensures.stays ∙ c.loop.invariant.machine;
  end = c.loop.invariant.end;
  so_far = λ right.
      let so_far = c.loop.invariant.so_far right in
      let unit : c.in_ok-unit.unit ≡ c.loop.unit + c.in_ok-pools.pools = search rules in
      points-turn c.args.sequential c.args.may_go c.args.clear c.args.machine.now.memories c.args.points.now c.loop.points c.settle_one.new.bodies c.loop.counter (c.loop.counter + 1) c.loop.unit c.in_ok-unit.unit c.in_ok-pools.pools c.clear_behind-outside.result c.may_point_go-ready.result c.in-Some.found c.loop.machine.memories
      (omega arith) unit (ap (λ m. m.memories) c.loop.invariant.machine) c.may_point_go-ready.ensures c.clear_behind-outside.ensures so_far c.in-Some.ensures (c.in_ok-pools.ensures.settled so_far.right);
}

pub settle_points-returns-clause-settled : goal.settle_points-returns-clause-settled
settle_points-returns-clause-settled t c = λ right.
    let over : length (all_bodies c.args.points.now) ≤ c.loop.counter = search rules in
    points-over c.args.sequential c.args.may_go c.args.clear c.args.machine.now.memories c.args.points.now c.loop.points c.loop.counter c.loop.unit (c.loop.invariant.so_far right) over

pub settle_points-returns-in_default-clause-settled : goal.settle_points-returns-in_default-clause-settled
settle_points-returns-in_default-clause-settled t c = λ right.
    points-none c.args.sequential c.args.may_go c.args.clear c.args.machine.now.memories c.args.points.now c.loop.points c.loop.counter c.loop.unit (c.loop.invariant.so_far right) c.in_default.ensures

pub settle_items-loop-init : goal.settle_items-loop-init
settle_items-loop-init t c = record {
  machine = refl;
  end = search rules;
  so_far = λ right. items-begin c.args.may_go c.args.clear c.args.machine.now.memories c.args.body.now right;
}

pub settle_items-loop-preserved : goal.settle_items-loop-preserved
settle_items-loop-preserved t c = record {
  machine = c.settle_part.ensures.stays ∙ c.loop.invariant.machine;
  end = c.loop.invariant.end;
  so_far = λ right.
      let so_far = c.loop.invariant.so_far right in
      let unit : c.in_ok-unit.unit ≡ c.loop.unit + c.in_ok-pools.pools = search rules in
      items-turn c.args.may_go c.args.clear c.args.machine.now.memories c.args.body.now c.loop.body c.settle_part.new.body c.loop.counter (c.loop.counter + 1) c.loop.unit c.in_ok-unit.unit c.in_ok-pools.pools c.may_part_go-ready.result c.in-Some.found c.loop.machine.memories
      (omega arith) unit (ap (λ m. m.memories) c.loop.invariant.machine) c.may_part_go-ready.ensures so_far c.in-Some.ensures (c.in_ok-pools.ensures.settled so_far.right);
}

pub settle_items-returns-clause-settled : goal.settle_items-returns-clause-settled
settle_items-returns-clause-settled t c = λ right.
    let over : length (all_parts c.args.body.now) ≤ c.loop.counter = search rules in
    items-over c.args.may_go c.args.clear c.args.machine.now.memories c.args.body.now c.loop.body c.loop.counter c.loop.unit (c.loop.invariant.so_far right) over

pub settle_items-returns-in_default-clause-settled : goal.settle_items-returns-in_default-clause-settled
settle_items-returns-in_default-clause-settled t c = λ right.
    items-none c.args.may_go c.args.clear c.args.machine.now.memories c.args.body.now c.loop.body c.loop.counter c.loop.unit (c.loop.invariant.so_far right) c.in_default.ensures

pub settle_left-returns-in-Sparse-clause-settled : goal.settle_left-returns-in-Sparse-clause-settled
settle_left-returns-in-Sparse-clause-settled t c = λ right.
    sparse_settled c.args.may_go c.args.clear c.args.machine.now.memories c.args.left.now right c.in-Sparse.sequential c.in-Sparse.tasks c.in-Sparse.points c.in-Sparse.is

pub settle_left-returns-in-Pool-clause-settled : goal.settle_left-returns-in-Pool-clause-settled
settle_left-returns-in-Pool-clause-settled t c = on_ok_weaker c.settle_pool.result (λ settles right.
    pool_arm c.args.may_go c.args.clear c.args.machine.now.memories c.args.left.now right c.in-Pool.stream _ c.in-Pool.active _ c.settle_pool.new.active c.in-Pool.waiting c.settle_pool.new.waiting c.in-Pool.closed _ c.settle_pool.new.closed c.in-Pool.is c.in-Pool.stream-is c.in-Pool.active-is c.in-Pool.closed-is settles) c.settle_pool.ensures.settled

pub settle_one-returns-clause-settled : goal.settle_one-returns-clause-settled
settle_one-returns-clause-settled t c = λ right.
    let now = c.args.bodies.now in
    let number = c.args.number in
    let body = c.settle_body.new.body in
    let mid : Bodies-F LeftNow BodiesNow BodyNow RunNow = record { bodies = with_item (out-Bodies now).bodies number body; moves = (out-Bodies now).moves; unfinished = (out-Bodies now).unfinished; «open» = (out-Bodies now).«open» } in
    let opened : out-Bodies (roll-Bodies mid) ≡ mid = out-roll-Bodies mid in
    let within : number < length (all_bodies now) = search rules in
    let put : (with_item (out-Bodies now).bodies number body).items ≡ slice_set (all_bodies now) number body = refl in
    let has : HasBody now number body (roll-Bodies mid) = record {
      bodies = ap (λ (x : Bodies-F LeftNow BodiesNow BodyNow RunNow). x.bodies.items) opened ∙ put;
      moves = ap (λ (x : Bodies-F LeftNow BodiesNow BodyNow RunNow). x.moves) opened;
      unfinished = ap (λ (x : Bodies-F LeftNow BodiesNow BodyNow RunNow). x.unfinished) opened;
      «open» = ap (λ (x : Bodies-F LeftNow BodiesNow BodyNow RunNow). x.«open») opened;
    } in
    one-done c.args.may_go c.args.clear c.args.machine.now.memories now (roll-Bodies mid) c.count_again.new.self number c.pools_of_body.result c.index_mut.result.now body c.index.result.now within c.index_mut.ensures.value
    has c.in_ok-count_again.ensures.bodies c.in_ok-count_again.ensures.right c.index.ensures c.pools_of_body.ensures right c.in_ok-settle_body.ensures.settled

pub settle_part-returns-clause-settled : goal.settle_part-returns-clause-settled
settle_part-returns-clause-settled t c = IfOk-weaker c.pools_of.result _ _ (λ pools is right.
    let now = c.args.body.now in
    let number = c.args.number in
    let part = c.settle_left.new.left in
    let mid : Body-F LeftNow BodiesNow BodyNow RunNow = record { at = (out-Body now).at; own = (out-Body now).own; order = (out-Body now).order; parts = with_item (out-Body now).parts number part; moves = (out-Body now).moves; unfinished = (out-Body now).unfinished; «open» = (out-Body now).«open» } in
    let opened : out-Body (roll-Body mid) ≡ mid = out-roll-Body mid in
    let within : number < length (all_parts now) = search rules in
    let put : (with_item (out-Body now).parts number part).items ≡ slice_set (all_parts now) number part = refl in
    let has : HasPart now number part (roll-Body mid) = record {
      parts = ap (λ (x : Body-F LeftNow BodiesNow BodyNow RunNow). x.parts.items) opened ∙ put;
      order = ap (λ (x : Body-F LeftNow BodiesNow BodyNow RunNow). x.order) opened;
      moves = ap (λ (x : Body-F LeftNow BodiesNow BodyNow RunNow). x.moves) opened;
      unfinished = ap (λ (x : Body-F LeftNow BodiesNow BodyNow RunNow). x.unfinished) opened;
      «open» = ap (λ (x : Body-F LeftNow BodiesNow BodyNow RunNow). x.«open») opened;
    } in
    part-done c.args.may_go c.args.clear c.args.machine.now.memories now (roll-Body mid) c.count_again.new.self number pools c.index_mut.result.now part c.index.result.now within c.index_mut.ensures.value
    has c.in_ok-count_again.ensures.at c.in_ok-count_again.ensures.order (ap (λ vec. vec.items) c.in_ok-count_again.ensures.parts ∙ put) c.in_ok-count_again.ensures.right c.index.ensures is right c.in_ok-settle_left.ensures.settled) c.pools_of.ensures
