use Rattle.std.proofs.Common.{◌≡◌, pos, get_or, true, false, refl, rules, FitsSigned}
use Rattle.std.specs.Int.{w64}
use Rattle.std.proofs.lemmas.Int.{to_z-of_z}
use Rattle.sd_tasklet.proofs.tasklet_lemmas.Places.{outside_count}
use Rattle.sd_tasklet.proofs.tasklet_lemmas.Told.{each_told, too_many, number_on, number_off}
use Rattle.sd_tasklet.proofs.tasklet.place.is_inside.Goals as goal

pub returns-then-extents-at-clause-given : goal.returns-then-extents-at-clause-given
returns-then-extents-at-clause-given c = outside_count c.args.extents.now c.args.at.now c.if-extents-at.true

pub returns-then-extents-at-clause-meant : goal.returns-then-extents-at-clause-meant
returns-then-extents-at-clause-meant c = λ meant same. too_many meant c.args.extents.now c.args.at.now same c.if-extents-at.true

pub returns-then-not-is_below-clause-meant : goal.returns-then-not-is_below-clause-meant
returns-then-not-is_below-clause-meant c = λ meant same.
    let k = c.loop-k.k in
    let fits : FitsSigned w64 (get_or c.args.at.now k (pos 0)) = search rules in
    let off : c.is_below.result ≡ false = search rules in
    let below = c.is_below.ensures.meant (get_or meant k 0) (each_told meant c.args.extents.now k same) in
    number_off meant c.args.extents.now c.args.at.now same c.loop-k.invariant.many k (c.loop-k.invariant.meant meant same) c.loop-k-test.true c.is_below.result (simp to_z-of_z at below) off

pub loop-k-preserved : goal.loop-k-preserved
loop-k-preserved c =
    let k = c.loop-k.k in
    let extents = c.args.extents.now in
    let fits : FitsSigned w64 (get_or c.args.at.now k (pos 0)) = search rules in
    let on : c.is_below.result ≡ true = search rules in
    let given = c.is_below.ensures.given in
    record {
      many = c.loop-k.invariant.many;
      left = number_on extents extents c.args.at.now refl c.loop-k.invariant.many k c.loop-k.invariant.left c.loop-k-test.true c.is_below.result (simp to_z-of_z at given) on;
      meant = λ meant same.
          let below = c.is_below.ensures.meant (get_or meant k 0) (each_told meant extents k same) in
          number_on meant extents c.args.at.now same c.loop-k.invariant.many k (c.loop-k.invariant.meant meant same) c.loop-k-test.true c.is_below.result (simp to_z-of_z at below) on;
    }
