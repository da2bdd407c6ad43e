use Rattle.std.proofs.Common.{◌≡◌}
use Rattle.sd_subset.specs.declared.boxes.bounds.Bounds.{Bounds}
use Rattle.sd_race.specs.checking.Clear.{bounds_in}
use Rattle.sd_race.proofs.checking_lemmas.Enclosing.{many-next, enclosing-next}
use Rattle.sd_race.proofs.checking.enclosing.enclosing.Goals as goal

pub loop-dimension-preserved : goal.loop-dimension-preserved
loop-dimension-preserved c =
    let before = c.loop-dimension.all.items in
    let after = c.push.new.self.items in
    let widest = c.in-Some-widest_in.widest in
    let whole : Bounds = record { low = c.in_ok-copy_of.field-0; high = c.in_ok-copy_of-2.field-0 } in
    let is : whole ≡ bounds_in widest = λ i. record { low = c.in_ok-copy_of.ensures.same i; high = c.in_ok-copy_of-2.ensures.same i } in
    record {
      many = many-next before after whole c.loop-dimension.dimension c.in_ok-push.ensures.items c.loop-dimension.invariant.many;
      enclosed = enclosing-next before after whole widest c.args.items.now c.loop-dimension.dimension c.in_ok-push.ensures.items is c.loop-dimension.invariant.many c.loop-dimension.invariant.enclosed c.in-Some-widest_in.ensures;
    }
