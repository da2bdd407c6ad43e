use Rattle.std.proofs.Common.{rules, ◌<◌, pos, length, slice_index_or, FitsSigned, to_z-of_z}
use Rattle.std.specs.Int.{w128}
use Rattle.sd_part.specs.Sides.{BeginsWithin}
use Rattle.sd_part.proofs.SideLists.{sides_next, within_next}
use Rattle.sd_part.proofs.numbers.sides_of.Goals as goal

pub loop-i-preserved : goal.loop-i-preserved
loop-i-preserved c =
    let less : c.loop-i.i < length c.args.intervals.now = c.loop-i-test.true in
    let fits : FitsSigned w128 (slice_index_or c.args.shift.now c.loop-i.i (pos 0)) = search rules in
    let side = simp to_z-of_z at c.in_ok-side_of.ensures.side in
    let within = simp to_z-of_z at c.in_ok-side_of.ensures.within in
    record {
      sides = sides_next c.loop-i.all.items c.push.new.self.items c.in_ok-side_of.field-0 c.loop-i.i c.args.shift.now c.args.extents.now c.args.intervals.now (pos 0) 0 _ less c.requires.shift c.requires.extents c.in_ok-push.ensures.items side c.loop-i.invariant.sides;
      within = within_next c.loop-i.i c.args.shift.now c.args.intervals.now (pos 0) _ (BeginsWithin c.args.shift.now c.args.intervals.now) less c.requires.shift within c.loop-i.invariant.within;
    }
