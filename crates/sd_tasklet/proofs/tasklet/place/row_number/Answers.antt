use Rattle.std.proofs.Common.{rules, ◌≡◌, ◌∙◌, sym, get_or, pos, unsigned_abs, FitsSigned, arith}
use Rattle.std.specs.Int.{w64}
use Rattle.std.proofs.lemmas.Int.{to_z-of_z}
use Rattle.sd_range.specs.Points.{product}
use Rattle.sd_tasklet.proofs.tasklet_lemmas.Places.{IsStep, a_step, inside_count}
use Rattle.sd_tasklet.proofs.tasklet.place.row_number.Goals as goal

pub loop-k-init : goal.loop-k-init
loop-k-init c = record {
  many = inside_count c.args.extents.now c.args.at.now c.requires.inside;
  inside = c.requires.inside;
  room = omega arith;
  left = omega arith;
}

pub overflow_mul-row : goal.overflow_mul-row
overflow_mul-row c =
    let next : IsStep c.args.extents.now c.args.at.now c.loop-k.k c.loop-k.row (product c.args.extents.now) =
    a_step c.args.extents.now c.args.at.now c.loop-k.k c.loop-k.row (product c.args.extents.now) c.loop-k-test.true c.loop-k.invariant.many c.loop-k.invariant.inside c.loop-k.invariant.room in
    let within = next.within in
    let few = c.requires.few in
    grind arith

pub overflow_add-row : goal.overflow_add-row
overflow_add-row c =
    let next : IsStep c.args.extents.now c.args.at.now c.loop-k.k c.loop-k.row (product c.args.extents.now) =
    a_step c.args.extents.now c.args.at.now c.loop-k.k c.loop-k.row (product c.args.extents.now) c.loop-k-test.true c.loop-k.invariant.many c.loop-k.invariant.inside c.loop-k.invariant.room in
    let fits : FitsSigned w64 (get_or c.args.at.now c.loop-k.k (pos 0)) = search rules in
    let size : c.unsigned_abs.result ≡ unsigned_abs (get_or c.args.at.now c.loop-k.k (pos 0)) = simp to_z-of_z at c.unsigned_abs.ensures.value in
    let within = next.within in
    let few = c.requires.few in
    rw size (grind arith)

pub loop-k-preserved : goal.loop-k-preserved
loop-k-preserved c =
    let next : IsStep c.args.extents.now c.args.at.now c.loop-k.k c.loop-k.row (product c.args.extents.now) =
    a_step c.args.extents.now c.args.at.now c.loop-k.k c.loop-k.row (product c.args.extents.now) c.loop-k-test.true c.loop-k.invariant.many c.loop-k.invariant.inside c.loop-k.invariant.room in
    let fits : FitsSigned w64 (get_or c.args.at.now c.loop-k.k (pos 0)) = search rules in
    let size : c.unsigned_abs.result ≡ unsigned_abs (get_or c.args.at.now c.loop-k.k (pos 0)) = simp to_z-of_z at c.unsigned_abs.ensures.value in
    record {
      many = c.loop-k.invariant.many;
      inside = next.inside_behind;
      room = rw size next.room;
      left = rw size (sym next.left ∙ c.loop-k.invariant.left);
    }
