use Rattle.std.proofs.Common.{rules, ◌≡◌, refl, get_or, pos, unsigned_abs, FitsSigned}
use Rattle.std.specs.Int.{w64}
use Rattle.std.proofs.lemmas.Int.{to_z-of_z}
use Rattle.sd_tasklet.proofs.tasklet_lemmas.Places.{filled_more}
use Rattle.sd_tasklet.proofs.tasklet.place.filled.Goals as goal

pub loop-k-init : goal.loop-k-init
loop-k-init c = refl

pub loop-k-preserved : goal.loop-k-preserved
loop-k-preserved c =
    let fits : FitsSigned w64 (get_or c.args.at.now c.loop-k.k (pos 0)) = search rules in
    let size : c.unsigned_abs.result ≡ unsigned_abs (get_or c.args.at.now c.loop-k.k (pos 0)) = simp to_z-of_z at c.unsigned_abs.ensures.value in
    rw (size, c.loop-k.invariant) (filled_more c.args.at.now c.loop-k.k c.loop-k-test.true c.requires)
